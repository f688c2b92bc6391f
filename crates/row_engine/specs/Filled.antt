-- What contracts see of an engine's tables: the schema, and the rows of each of its tables.
use Rattle.std.specs.Prelude.{◌≡◌, ℕ, false, List, [], map}
use Rattle.std.specs.Option.{option_map_or}
use Rattle.ring_types.specs.declared.schemas.Schema.{Schema}
use Rattle.ring_types.specs.declared.schemas.Table.{Table}
use Rattle.ring_types.specs.Names.{has_text_twice}
use Rattle.ring_types.specs.Rows.{Rows, Tables, place_in, rows_at}

-- a schema, and the rows of its tables in declared order
pub record Filled : Type 0 where
  pub schema : Schema
  pub rows : Tables

-- the rows of the table of that name: none where the schema lacks it
abbrev pub rows_named : Filled → List ℕ → Rows
rows_named tables name = option_map_or (λ place. rows_at tables.rows place) (place_in tables.schema name) []

-- no two tables have one name
abbrev pub AreNamedOnce : Schema → Type 0
AreNamedOnce schema = has_text_twice (map (λ (t : Table). t.name) schema.tables) ≡ false
