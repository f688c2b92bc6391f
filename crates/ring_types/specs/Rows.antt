-- Rows: which values fit a table, when the tables refuse a change, and what a list of entries makes of them (the MySQL manual's rows, keyed by the first column).
use Rattle.std.specs.Prelude.{ℕ, Bool, true, false, not, ◌&&◌, List, [], ◌∷◌, length, map, filter, find, position, nat_le, bytes_eq, int_lt, if◌then◌else◌, Option, Some, None, is_none, unwrap_or, slice_get, slice_set}
use Rattle.std.specs.List.{list_any, list_all}
use Rattle.std.specs.Option.{option_map_or}
use Rattle.std.specs.Ordering.{int_eq, is_lt, nat_cmp}
use Rattle.std.specs.Cmp.Lexicographic.{slice_cmp}
use Rattle.ring_types.specs.declared.limits.TheConstants.{LAST_GTID}
use Rattle.ring_types.specs.declared.values.Value.{Value}
use Rattle.ring_types.specs.declared.values.Value.TheVariants as value
use Rattle.ring_types.specs.declared.values.Change.{Change}
use Rattle.ring_types.specs.declared.values.Change.TheVariants.{Insert, Update, Delete}
use Rattle.ring_types.specs.declared.values.RowRefusal.{RowRefusal}
use Rattle.ring_types.specs.declared.values.RowRefusal.TheVariants.{NoTable, KeyExists, NoKey, BadRow}
use Rattle.ring_types.specs.declared.entries.Entry.{Entry}
use Rattle.ring_types.specs.declared.entries.Payload.{Payload}
use Rattle.ring_types.specs.declared.entries.Payload.TheVariants as payload
use Rattle.ring_types.specs.declared.schemas.Shape.{Shape}
use Rattle.ring_types.specs.declared.schemas.Shape.TheVariants as shape
use Rattle.ring_types.specs.declared.schemas.Column.{Column}
use Rattle.ring_types.specs.declared.schemas.Table.{Table}
use Rattle.ring_types.specs.declared.schemas.Schema.{Schema}

-- ---- values and keys
abbrev pub is_null : Value → Bool
is_null value.Null = true
is_null _ = false

abbrev pub same_value : Value → Value → Bool
same_value value.Null value.Null = true
same_value (value.Int a) (value.Int b) = int_eq a b
same_value (value.Text a) (value.Text b) = bytes_eq a b
same_value _ _ = false

-- the order of keys: as numbers, or as bytes of text; a column never mixes them
abbrev pub comes_before : Value → Value → Bool
comes_before (value.Int a) (value.Int b) = int_lt a b
comes_before (value.Text a) (value.Text b) = is_lt (slice_cmp nat_cmp a b)
comes_before value.Null value.Null = false
comes_before value.Null _ = true
comes_before (value.Int a) (value.Text b) = true
comes_before _ _ = false

-- a row's first value is its key
abbrev pub key_of : List Value → Value
key_of [] = value.Null
key_of (v ∷ row) = v

-- ---- what fits
abbrev pub value_fits : Shape → Value → Bool
value_fits _ value.Null = true
value_fits shape.Int (value.Int n) = true
value_fits (shape.Text limit) (value.Text t) = nat_le (length t) limit
value_fits _ _ = false

-- the row has a value for each column, and each value suits its column or is Null
abbrev pub values_fit : List Column → List Value → Bool
values_fit [] [] = true
values_fit (c ∷ columns) (v ∷ row) = value_fits c.shape v && values_fit columns row
values_fit _ _ = false

-- the values fit, and the key, which comes first, is not Null
abbrev pub row_fits : Table → List Value → Bool
row_fits table row = values_fit table.columns row && not (is_null (key_of row))

abbrev pub key_fits_in : List Column → Value → Bool
key_fits_in [] key = false
key_fits_in (c ∷ columns) key = value_fits c.shape key && not (is_null key)

-- the key may stand first in a row of the table
abbrev pub key_fits : Table → Value → Bool
key_fits table key = key_fits_in table.columns key

-- ---- changes
abbrev pub table_name : Change → List ℕ
table_name (Insert table row) = table
table_name (Update table row) = table
table_name (Delete table key) = table

-- the key that a change names
abbrev pub change_key : Change → Value
change_key (Insert table row) = key_of row
change_key (Update table row) = key_of row
change_key (Delete table key) = key

-- the table of that name and its place in the schema, counted from 0
abbrev pub place_in : Schema → List ℕ → Option ℕ
place_in schema name = position (λ (t : Table). bytes_eq t.name name) schema.tables

abbrev pub table_of : Schema → List ℕ → Option Table
table_of schema name = find (λ (t : Table). bytes_eq t.name name) schema.tables

-- the row or the key fits this table
abbrev pub fits_table : Table → Change → Bool
fits_table table (Insert name row) = row_fits table row
fits_table table (Update name row) = row_fits table row
fits_table table (Delete name key) = key_fits table key

-- the schema has the table that the change names, and the row or the key fits that table
abbrev pub change_fits : Schema → Change → Bool
change_fits schema c = option_map_or (λ (t : Table). fits_table t c) (table_of schema (table_name c)) false

-- there is at least one change, and each fits
abbrev pub changes_fit : Schema → List Change → Bool
changes_fit schema changes = nat_le 1 (length changes) && list_all (change_fits schema) changes

-- what may be the number of a GTID
abbrev pub is_number : ℕ → Bool
is_number n = nat_le 1 n && nat_le n LAST_GTID

abbrev pub payload_fits : Schema → Payload → Bool
payload_fits schema payload.NoOp = true
payload_fits schema payload.Rotate = true
payload_fits schema (payload.Txn t) = changes_fit schema t.changes && is_number t.gtid.number

abbrev pub payloads_fit : Schema → List Entry → Bool
payloads_fit schema log = list_all (λ (e : Entry). payload_fits schema e.payload) log

-- ---- tables: for each table of the schema, in declared order, its rows in key order, each key once
abbrev pub Rows : Type 0
Rows = List (List Value)

abbrev pub Tables : Type 0
Tables = List Rows

abbrev pub no_rows : Table → Rows
no_rows t = []

abbrev pub empty_tables : Schema → Tables
empty_tables schema = map no_rows schema.tables

abbrev pub row_of : Rows → Value → Option (List Value)
row_of rows key = find (λ row. same_value (key_of row) key) rows

abbrev pub has_key : Rows → Value → Bool
has_key rows key = list_any (λ row. same_value (key_of row) key) rows

abbrev pub without_key : Rows → Value → Rows
without_key rows key = filter (λ row. not (same_value (key_of row) key)) rows

-- the row in its place, before the first row with a greater key
abbrev pub placed : Rows → List Value → Rows
placed [] row = row ∷ []
placed (r ∷ rows) row = if comes_before (key_of row) (key_of r) then row ∷ (r ∷ rows) else r ∷ placed rows row

-- the rows with this one in place of the row of its key
abbrev pub with_row : Rows → List Value → Rows
with_row rows row = placed (without_key rows (key_of row)) row

abbrev pub rows_at : Tables → ℕ → Rows
rows_at tables place = unwrap_or (slice_get tables place) []

-- the rows of a table after a change of it
abbrev pub rows_after : Rows → Change → Rows
rows_after rows (Insert name row) = with_row rows row
rows_after rows (Update name row) = with_row rows row
rows_after rows (Delete name key) = without_key rows key

-- an insert wants its key absent, an update or a delete wants it there
abbrev pub key_refusal : Rows → Change → Option RowRefusal
key_refusal rows (Insert name row) = if has_key rows (key_of row) then Some KeyExists else None
key_refusal rows (Update name row) = if has_key rows (key_of row) then None else Some NoKey
key_refusal rows (Delete name key) = if has_key rows key then None else Some NoKey

-- why a change of the table at that place is refused: it does not fit, or its key
abbrev pub refusal_in : Schema → Tables → ℕ → Change → Option RowRefusal
refusal_in schema tables place c = if option_map_or (λ (t : Table). fits_table t c) (slice_get schema.tables place) false then key_refusal (rows_at tables place) c else Some BadRow

-- why the tables refuse one change, if they do
unfoldable pub refusal_of : Schema → Tables → Change → Option RowRefusal
refusal_of schema tables c = option_map_or (λ place. refusal_in schema tables place c) (place_in schema (table_name c)) (Some NoTable)

-- the tables after a change that they accept
unfoldable pub changed : Schema → Tables → Change → Tables
changed schema tables c = option_map_or (λ place. slice_set tables place (rows_after (rows_at tables place) c)) (place_in schema (table_name c)) tables

-- the first refusal: each change meets the tables as the changes before it left them
abbrev pub check : Schema → Tables → List Change → Option RowRefusal
check schema tables [] = None
check schema tables (c ∷ changes) = elim (refusal_of schema tables c) [ None ↦ check schema (changed schema tables c) changes | Some r ↦ Some r ]

abbrev pub all_changed : Schema → Tables → List Change → Tables
all_changed schema tables [] = tables
all_changed schema tables (c ∷ changes) = all_changed schema (changed schema tables c) changes

-- a transaction of which one change is refused changes nothing
abbrev pub applied : Schema → Tables → List Change → Tables
applied schema tables changes = if is_none (check schema tables changes) then all_changed schema tables changes else tables

abbrev pub after_payload : Schema → Tables → Payload → Tables
after_payload schema tables payload.NoOp = tables
after_payload schema tables payload.Rotate = tables
after_payload schema tables (payload.Txn t) = applied schema tables t.changes

-- what the entries make of these tables
abbrev pub rows_from : Schema → Tables → List Entry → Tables
rows_from schema tables [] = tables
rows_from schema tables (e ∷ log) = rows_from schema (after_payload schema tables e.payload) log

-- what a list of entries makes of empty tables
unfoldable pub rows : Schema → List Entry → Tables
rows schema log = rows_from schema (empty_tables schema) log

abbrev pub payload_is_accepted : Schema → Tables → Payload → Bool
payload_is_accepted schema tables payload.NoOp = true
payload_is_accepted schema tables payload.Rotate = true
payload_is_accepted schema tables (payload.Txn t) = is_none (check schema tables t.changes)

abbrev pub is_valid_from : Schema → Tables → List Entry → Bool
is_valid_from schema tables [] = true
is_valid_from schema tables (e ∷ log) = payload_is_accepted schema tables e.payload && is_valid_from schema (after_payload schema tables e.payload) log

-- no transaction is refused: each meets the rows that the ones before it left
unfoldable pub is_valid : Schema → List Entry → Bool
is_valid schema log = is_valid_from schema (empty_tables schema) log
