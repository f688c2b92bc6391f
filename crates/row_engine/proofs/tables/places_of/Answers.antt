-- a name goes to the table at this place, or to where it stood from the next place on
use Rattle.std.proofs.Common.{◌≡◌, ◌∙◌, ◌<◌, ◌-◌, ◌+◌, ℕ, List, Option, Some, ap, sym, arith, cond, length}
use Rattle.std.proofs.lemmas.Map.Text.{hash_map_updates_text}
use Rattle.std.specs.HashMap.{get_by_text}
use Rattle.std.specs.Prelude.{bytes_eq}
use Rattle.std.specs.String.{string_bytes}
use Rattle.ring_types.specs.declared.schemas.Table.{Table}
use Rattle.row_engine.proofs.FirstPlaces.{first_from, first_from_here, first_of_all}
use Rattle.row_engine.proofs.tables.places_of.Goals as goal

pub loop-place-preserved : goal.loop-place-preserved
loop-place-preserved c = record {
  within = omega arith;
  first = λ name.
      let tables = c.as_slice-tables.result.now in
      let place = c.loop-place.place - 1 in
      let t = c.index-tables-place.result in
      let old = get_by_text c.loop-place.places name in
      let within : place < length tables = omega arith in
      let back : place + 1 ≡ c.loop-place.place = omega arith in
      let key : string_bytes c.in_ok-from_str.field-0 ≡ t.name =
      c.in_ok-from_str.ensures.ok ∙ c.as_str.ensures ∙ sym (ap (λ (u : Table). u.name) c.index-tables-place.is) in
      hash_map_updates_text (string_bytes c.in_ok-from_str.field-0) c.loop-place.places c.insert.new.self _ c.in_ok-insert.ensures.updates name
      ∙ ap (λ (bytes : List ℕ). cond (bytes_eq bytes name) (Some place) old) key
      ∙ ap (λ (rest : Option ℕ). cond (bytes_eq t.name name) (Some place) rest)
      (c.loop-place.invariant.first name ∙ ap (λ (p : ℕ). first_from name p tables) (sym back))
      ∙ sym (first_from_here name place tables t within c.index-tables-place.is);
}

pub returns : goal.returns
returns c = λ name.
    let tables = c.as_slice-tables.result.now in
    let first : c.loop-place.place ≡ 0 = omega arith in
    c.loop-place.invariant.first name ∙ ap (λ (p : ℕ). first_from name p tables) first
    ∙ ap (λ (all : List Table). first_from name 0 all) c.as_slice-tables.ensures ∙ first_of_all name c.args.schema.now
