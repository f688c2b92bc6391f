-- The body that describes a table before its rows (the MySQL manual's TABLE_MAP_EVENT, in this project's profile). A schema has at most 256 tables, and a table from 1 to 64 columns.
use Rattle.std.specs.Prelude.{ℕ, ◌+◌, ◌-◌, ◌^◌, ◌<◌, ◌==◌, ◌&&◌, List, [], ◌∷◌, ◌++◌, length, take, drop, nat_le, bytes_eq, slice_get, unwrap_or}
use Rattle.std.specs.Int.{w16, w32, w64, to_le_bytes, from_le_bytes}
use Rattle.event_frame.specs.Forms.{Form, Field as FieldOf, Whole, One, ◌>>=◌}
use Rattle.event_frame.specs.Fields.{constant, taken, packed, packed_text, agrees}
use Rattle.ring_types.specs.Sizes.{bitmap_size, all_metadata}
use Rattle.ring_types.specs.declared.schemas.Shape.{Shape}
use Rattle.ring_types.specs.declared.schemas.Shape.TheVariants as shape
use Rattle.ring_types.specs.declared.schemas.Column.{Column}
use Rattle.ring_types.specs.declared.schemas.Table.{Table as TableOf}
use Rattle.ring_types.specs.declared.schemas.Schema.{Schema}
use Rattle.event_txn.specs.declared.faults.BodyFault.{BodyFault}
use Rattle.event_txn.specs.declared.faults.BodyFault.TheVariants.{Field, Table}

-- ---- what it shares with rows

-- a table's number, in six bytes: its place in the schema, counted from 1
abbrev pub table_number : ℕ → List ℕ
table_number place = to_le_bytes w32 (place + 1) ++ 0 ∷ 0 ∷ []

abbrev pub number_in : List ℕ → ℕ
number_in bytes = from_le_bytes w32 (take 4 bytes)

-- the number of one of `count` tables; its value is the place counted from 0
abbrev pub table_of_many : ℕ → FieldOf ℕ
table_of_many count = record {
  at = taken 6 (λ bytes. bytes_eq (drop 4 bytes) (0 ∷ 0 ∷ []) && nat_le 1 (number_in bytes) && nat_le (number_in bytes) count) (λ bytes. number_in bytes - 1);
  spell = table_number;
  IsAllowed = λ place. (place < count) × (place + 1 < 2 ^ 32);
}

abbrev pub no_table : TableOf
no_table = record { name = []; columns = [] }

abbrev pub table_at : Schema → ℕ → TableOf
table_at schema place = unwrap_or (slice_get schema.tables place) no_table

-- `bits` bits, lowest first, in whole bytes; `bits` is at most 64
abbrev pub bitmap : ℕ → ℕ → List ℕ
bitmap bits n = take (bitmap_size bits) (to_le_bytes w64 n)

abbrev pub all_ones : ℕ → ℕ
all_ones bits = 2 ^ bits - 1

-- ---- TABLE_MAP
--   table id            6 bytes: the table's place in the schema, counted from 1
--   flags               2 bytes, 1
--   database            length in 1 byte, the name, 0
--   table               length in 1 byte, the name, 0
--   count of columns    packed
--   types               a byte for each column: 8 for a number, 15 for a text
--   length of metadata  packed
--   metadata            for each text column 2 bytes, its limit
--   nullability         a bit for each column, lowest first: every column but the first may be Null

-- a name: its length, its bytes, a zero
unfoldable pub name_form : List ℕ → Form BodyFault (Unit {0})
name_form name = do
  size ← One Table (constant (length name ∷ []))
  bytes ← One Table (constant name)
  One Table (constant (0 ∷ []))

abbrev pub name_text : List ℕ → List ℕ
name_text name = length name ∷ [] ++ name ++ 0 ∷ []

abbrev pub type_of : Shape → ℕ
type_of shape.Int = 8
type_of (shape.Text limit) = 15

abbrev pub types_form : List Column → Form BodyFault (Unit {0})
types_form [] = Whole tt
types_form (c ∷ columns) = do
  type ← One Table (constant (type_of c.shape ∷ []))
  types_form columns

abbrev pub types_text : List Column → List ℕ
types_text [] = []
types_text (c ∷ columns) = type_of c.shape ∷ [] ++ types_text columns

abbrev pub metadata_of : Shape → List ℕ
metadata_of shape.Int = []
metadata_of (shape.Text limit) = to_le_bytes w16 limit

abbrev pub metadata_form : List Column → Form BodyFault (Unit {0})
metadata_form [] = Whole tt
metadata_form (c ∷ columns) = do
  limit ← One Table (constant (metadata_of c.shape))
  metadata_form columns

abbrev pub metadata_text : List Column → List ℕ
metadata_text [] = []
metadata_text (c ∷ columns) = metadata_of c.shape ++ metadata_text columns

abbrev pub nullable : ℕ → List ℕ
nullable columns = bitmap columns (all_ones columns - 1)

-- what stands behind the table id; a packed integer is one field by its spelling and another by its value
unfoldable pub described : Schema → TableOf → Form BodyFault (Unit {0})
described schema table = do
  flags ← One Field (constant (1 ∷ 0 ∷ []))
  database ← name_form schema.database
  name ← name_form table.name
  count ← One Field packed
  same ← One Table (agrees (count == length table.columns))
  types ← types_form table.columns
  size ← One Field packed
  enough ← One Table (agrees (size == all_metadata table))
  metadata ← metadata_form table.columns
  One Table (constant (nullable (length table.columns)))

abbrev pub columns_text : TableOf → List ℕ
columns_text table =
    packed_text (length table.columns) ++ types_text table.columns
    ++ packed_text (all_metadata table) ++ metadata_text table.columns ++ nullable (length table.columns)

unfoldable pub description : Schema → TableOf → List ℕ
description schema table = 1 ∷ 0 ∷ [] ++ name_text schema.database ++ name_text table.name ++ columns_text table

-- the value is the table's place in the schema
abbrev pub map_form : Schema → Form BodyFault ℕ
map_form schema = do
  place ← One Table (table_of_many (length schema.tables))
  description ← described schema (table_at schema place)
  Whole place

unfoldable pub map_body : Schema → ℕ → List ℕ
map_body schema place = table_number place ++ description schema (table_at schema place)
