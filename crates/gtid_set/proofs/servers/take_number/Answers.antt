use Rattle.std.proofs.Common.{◌≡◌, ◌∙◌, refl, sym, ap, subst, [], ◌<◌, length, rules}
use Rattle.std.specs.Prelude.{slice_set}
use Rattle.ring_types.specs.declared.gtid_sets.ServerSet.{ServerSet}
use Rattle.gtid_set.specs.Ranges.{without}
use Rattle.gtid_set.proofs.ServerPlaces.{canonical_read, none_left, some_left, take_none, take_part, take_whole}
use Rattle.gtid_set.proofs.servers.take_number.Goals as goal

pub returns-then-not-is_at-clause-ok : goal.returns-then-not-is_at-clause-ok
returns-then-not-is_at-clause-ok c =
    let e = rw c.as_slice.ensures.value at c.place_of-at.ensures in
    let h = rw c.as_slice-2.ensures.value at c.if-not-is_at.ensures.told in
    take_none c.args.server c.args.number c.place_of-at.result c.args.servers.now.items e (sym h)

pub remove_number-requires : goal.remove_number-requires
remove_number-requires c =
    let inside = c.if-not-is_at.ensures.within (search rules) in
    canonical_read c.place_of-at.result c.index_mut.result.now c.args.servers.now.items c.requires (rw c.as_slice-2.ensures.value at inside) c.index_mut.ensures.value

pub returns-then-is_empty-clause-ok : goal.returns-then-is_empty-clause-ok
returns-then-is_empty-clause-ok c =
    let inside = c.if-not-is_at.ensures.within (search rules) in
    let lt = rw c.as_slice-2.ensures.value at inside in
    let e = rw c.as_slice.ensures.value at c.place_of-at.ensures in
    let h = rw c.as_slice-2.ensures.value at c.if-not-is_at.ensures.told in
    let xs = c.args.servers.now.items in
    let new = c.in_ok-remove_number.ensures.ok in
    let none = none_left c.place_of-at.result c.index.result.now c.remove_number.new.self xs c.index.result.now.intervals lt c.index.ensures refl (sym c.is_empty.ensures ∙ c.if-is_empty.true) in
    let gone : without c.args.number c.index_mut.result.now.intervals ≡ [] = sym (ap (λ (s : ServerSet). s.intervals) new) ∙ none in
    c.remove.ensures.items
    ∙ take_whole c.args.server c.args.number c.place_of-at.result c.index_mut.result.now c.remove_number.new.self xs e lt c.index_mut.ensures.value (sym h) gone

pub returns-else-is_empty-clause-ok : goal.returns-else-is_empty-clause-ok
returns-else-is_empty-clause-ok c =
    let inside = c.if-not-is_at.ensures.within (search rules) in
    let lt = rw c.as_slice-2.ensures.value at inside in
    let e = rw c.as_slice.ensures.value at c.place_of-at.ensures in
    let h = rw c.as_slice-2.ensures.value at c.if-not-is_at.ensures.told in
    let xs = c.args.servers.now.items in
    let new = c.in_ok-remove_number.ensures.ok in
    let some = some_left c.place_of-at.result c.index.result.now c.remove_number.new.self xs c.index.result.now.intervals lt c.index.ensures refl (sym c.is_empty.ensures ∙ c.if-is_empty.false) in
    let kept = subst (λ (s : ServerSet). 0 < length s.intervals) new some in
    ap (λ (y : ServerSet). slice_set xs c.place_of-at.result y) new
    ∙ take_part c.args.server c.args.number c.place_of-at.result c.index_mut.result.now xs e lt c.index_mut.ensures.value (sym h) kept
