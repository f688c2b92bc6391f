-- A search that begins at a place reads the table there and then begins at the next, so the places of names can be found from the last table back.
use Rattle.std.proofs.Common.{◌≡◌, ℕ, ◌+◌, ◌<◌, List, ◌∷◌, Option, cond, drop, get_or, length, refl, sym, add-one}
use Rattle.std.proofs.lemmas.Iterator.Adapters.{position_from-zero}
use Rattle.std.proofs.Math.Seq.{drop-cons}
use Rattle.std.specs.List.{position_from}
use Rattle.std.specs.Prelude.{Some, bytes_eq}
use Rattle.ring_types.specs.Rows.{place_in}
use Rattle.ring_types.specs.declared.schemas.Schema.{Schema}
use Rattle.ring_types.specs.declared.schemas.Table.{Table}

abbrev pub first_from : List ℕ → ℕ → List Table → Option ℕ
first_from name place tables = position_from (λ (t : Table). bytes_eq t.name name) place (drop place tables)

pub first_from_here : (name : List ℕ) (place : ℕ) (tables : List Table) (t : Table) → place < length tables → t ≡ get_or tables place t
    → first_from name place tables ≡ cond (bytes_eq t.name name) (Some place) (first_from name (place + 1) tables)
first_from_here name place tables t within is =
    let d : drop place tables ≡ get_or tables place t ∷ drop (place + 1) tables = rw add-one (drop-cons tables place t within) in
    rw d (rw (← is) refl)

pub first_of_all : (name : List ℕ) (schema : Schema) → first_from name 0 schema.tables ≡ place_in schema name
first_of_all name schema = sym (position_from-zero (λ (t : Table). bytes_eq t.name name) schema.tables)
