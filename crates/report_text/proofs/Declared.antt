-- The rows of a declared table are found by its name, since the schema names each table once.
use Rattle.std.proofs.Common.{◌≡◌, ℕ, List, [], ◌∷◌, drop, Option, ap}
use Rattle.std.specs.Option.{option_map_or}
use Rattle.ring_types.specs.declared.schemas.Table.{Table}
use Rattle.ring_types.specs.Rows.{Rows, rows_at}
use Rattle.row_engine.specs.Filled.{AreNamedOnce, Filled, rows_named}
use Rattle.row_engine.proofs.Names.{named_at}

pub rows_there : (t : Filled) (place : ℕ) (table : Table) (more : List Table) → AreNamedOnce t.schema → drop place t.schema.tables ≡ table ∷ more
    → rows_named t table.name ≡ rows_at t.rows place
rows_there t place table more once at = ap (λ (o : Option ℕ). option_map_or (λ (p : ℕ). rows_at t.rows p) o []) (named_at t.schema.tables place table more once at)
