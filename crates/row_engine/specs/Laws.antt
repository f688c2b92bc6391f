-- What a log says of each row, without a walk over its tables.
use Rattle.std.specs.Prelude.{◌≡◌, ℕ, true, List, None, Some}
use Rattle.ring_types.specs.declared.entries.Entry.{Entry}
use Rattle.ring_types.specs.declared.schemas.Schema.{Schema}
use Rattle.ring_types.specs.declared.values.Value.{Value}
use Rattle.ring_types.specs.Rows.{is_valid, place_in, row_of, rows, rows_at}
use Rattle.row_engine.specs.LastChange.{changes_of, last_change, row_after}

-- In the rows that a valid log makes of empty tables, the row of a key is that of the last insert or update that names its table and key.
-- There is none where the last change that names them is a delete, or where none does.
abbrev pub LastChangeDecides : Type 0
LastChangeDecides = (schema : Schema) (log : List Entry) → is_valid schema log ≡ true → (table : List ℕ) (place : ℕ) → place_in schema table ≡ Some place
    → (key : Value) → row_of (rows_at (rows schema log) place) key ≡ row_after (last_change table key (changes_of log)) None
