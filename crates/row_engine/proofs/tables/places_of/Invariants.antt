-- the names from this place on have their first places from there
use Rattle.std.proofs.Common.{◌≡◌, ◌≤◌, ℕ, List, drop, length}
use Rattle.std.specs.HashMap.{get_by_text}
use Rattle.std.specs.List.{position_from}
use Rattle.std.specs.Prelude.{bytes_eq}
use Rattle.ring_types.specs.declared.schemas.Table.{Table}
use Rattle.row_engine.proofs.tables.places_of.Given as goal

abbrev pub invariant-loop-place : goal.invariant-loop-place
invariant-loop-place l = record {
  within : l.place ≤ length l.tables;
  first : (name : List ℕ) → get_by_text l.places name ≡ position_from (λ (t : Table). bytes_eq t.name name) l.place (drop l.place l.tables);
}

abbrev pub decreases-loop-place : goal.decreases-loop-place
decreases-loop-place l = l.place
