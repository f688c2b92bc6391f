use Rattle.std.proofs.Common.{◌≡◌, ◌++◌, ◌∙◌, List, [], ◌∷◌, sym, ap, arith, rules}
use Rattle.std.specs.List.{insert}
use Rattle.std.specs.Prelude.{slice_set}
use Rattle.std.proofs.lemmas.Result.{on_ok_weaker}
use Rattle.ring_types.specs.declared.gtid_sets.Interval.{Interval}
use Rattle.ring_types.specs.declared.gtid_sets.ServerSet.{ServerSet}
use Rattle.gtid_set.specs.Ranges.{with_range}
use Rattle.gtid_set.proofs.ServerPlaces.{below_within, canonical_read, put_known, put_new}
use Rattle.gtid_set.proofs.servers.put_range.Goals as goal

pub add_range-requires-clause-merged : goal.add_range-requires-clause-merged
add_range-requires-clause-merged c =
    let inside = c.if-is_at.ensures.within (search rules) in
    canonical_read c.place_of-at.result c.index_mut.result.now c.args.servers.now.items c.requires.canonical (rw c.as_slice-2.ensures.value at inside) c.index_mut.ensures.value

pub insert-requires : goal.insert-requires
insert-requires c =
    let e = rw c.as_slice.ensures.value at c.place_of-at.ensures in
    omega (arith, c.args.servers.now.ok, e, below_within c.args.server c.args.servers.now.items)

pub returns-then-is_at-clause-ok : goal.returns-then-is_at-clause-ok
returns-then-is_at-clause-ok c =
    let inside = c.if-is_at.ensures.within (search rules) in
    let e = rw c.as_slice.ensures.value at c.place_of-at.ensures in
    let h = rw c.as_slice-2.ensures.value at c.if-is_at.ensures.told in
    let xs = c.args.servers.now.items in
    on_ok_weaker c.add_range.result
    (λ new. ap (λ (y : ServerSet). slice_set xs c.place_of-at.result y) new
    ∙ put_known c.args.server c.place_of-at.result c.args.range c.index_mut.result.now xs e (rw c.as_slice-2.ensures.value at inside) c.index_mut.ensures.value (sym h))
    c.add_range.ensures.ok

pub returns-in_ok-insert-clause-ok : goal.returns-in_ok-insert-clause-ok
returns-in_ok-insert-clause-ok c =
    let e = rw c.as_slice.ensures.value at c.place_of-at.ensures in
    let h = rw c.as_slice-2.ensures.value at c.if-is_at.ensures.told in
    let xs = c.args.servers.now.items in
    c.in_ok-insert.ensures.items
    ∙ ap (λ (y : ServerSet). insert xs c.place_of-at.result y)
    (c.in_ok-add_range.ensures.ok ∙ ap (λ (s : ServerSet). record { server = s.server; intervals = with_range c.args.range.first c.args.range.last s.intervals }) c.new-set.ensures)
    ∙ put_new c.args.server c.place_of-at.result c.args.range xs e (sym h)
