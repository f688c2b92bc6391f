-- The bodies that change one row of the table described before them (the MySQL manual's WRITE_ROWS, UPDATE_ROWS and DELETE_ROWS events of version 2, in this project's profile).
use Rattle.std.specs.Prelude.{◌≡◌, ℕ, ◌+◌, ◌-◌, ◌*◌, ◌/◌, ◌%◌, ◌^◌, ◌<◌, ◌==◌, Bool, true, false, ◌&&◌, List, [], ◌∷◌, ◌++◌, length, replicate, nat_lt, if◌then◌else◌}
use Rattle.std.specs.Int.{Width, w8, w16, w64, to_le_bytes, from_le_bytes, cast_signed, cast_unsigned}
use Rattle.event_frame.specs.Forms.{Form, Field as FieldOf, Whole, One, ◌>>=◌}
use Rattle.event_frame.specs.Fields.{constant, number, taken, text, text_fits, packed, packed_text, agrees}
use Rattle.ring_types.specs.Sizes.{bitmap_size}
use Rattle.ring_types.specs.Rows.{is_null, key_of, same_value}
use Rattle.ring_types.specs.declared.values.Value.{Value as RowValue}
use Rattle.ring_types.specs.declared.values.Value.TheVariants as value
use Rattle.ring_types.specs.declared.values.Change.{Change}
use Rattle.ring_types.specs.declared.values.Change.TheVariants.{Insert, Update, Delete}
use Rattle.ring_types.specs.declared.schemas.Shape.{Shape}
use Rattle.ring_types.specs.declared.schemas.Shape.TheVariants as shape
use Rattle.ring_types.specs.declared.schemas.Column.{Column}
use Rattle.ring_types.specs.declared.schemas.Table.{Table as TableOf}
use Rattle.event_txn.specs.declared.faults.BodyFault.{BodyFault}
use Rattle.event_txn.specs.declared.faults.BodyFault.TheVariants.{Field, Table, Value}
use Rattle.event_txn.specs.Tables.{table_number, bitmap, all_ones}

-- ---- a row image
--   nulls   a bit for each column that is present, lowest first: 1 where its value is Null, which the key never is
--   values  of the columns that are not Null: a number in 8 bytes; a text behind its length, which takes 1 byte where the limit is below 256, else 2

abbrev pub bits_in : List ℕ → ℕ
bits_in bytes = from_le_bytes w64 (bytes ++ replicate (8 - length bytes) 0)

-- which of `bits` columns are Null: never the first
abbrev pub nulls : ℕ → FieldOf ℕ
nulls bits = record {
  at = taken (bitmap_size bits) (λ bytes. nat_lt (bits_in bytes) (2 ^ bits) && (bits_in bytes % 2 == 0)) bits_in;
  spell = bitmap bits;
  IsAllowed = λ n. (n < 2 ^ bits) × (n % 2 ≡ 0);
}

abbrev pub lead_of : ℕ → Width
lead_of limit = if nat_lt limit 256 then w8 else w16

abbrev pub text_form : ℕ → Form BodyFault (List ℕ)
text_form limit = One Value (text (lead_of limit) (text_fits limit))

abbrev pub value_form : Shape → Form BodyFault RowValue
value_form shape.Int = do
  n ← One Value (number w64 (λ _. true))
  Whole (value.Int (cast_signed w64 n))
value_form (shape.Text limit) = do
  t ← text_form limit
  Whole (value.Text t)

abbrev pub value_text : Shape → RowValue → List ℕ
value_text s value.Null = []
value_text s (value.Int n) = to_le_bytes w64 (cast_unsigned w64 n)
value_text shape.Int (value.Text t) = []
value_text (shape.Text limit) (value.Text t) = to_le_bytes (lead_of limit) (length t) ++ t

abbrev pub cell_form : Bool → Shape → Form BodyFault RowValue
cell_form true s = Whole value.Null
cell_form false s = value_form s

abbrev pub values_form : List Column → ℕ → Form BodyFault (List RowValue)
values_form [] bits = Whole []
values_form (c ∷ columns) bits = do
  first ← cell_form (bits % 2 == 1) c.shape
  others ← values_form columns (bits / 2)
  Whole (first ∷ others)

abbrev pub values_text : List Column → List RowValue → List ℕ
values_text [] row = []
values_text (c ∷ columns) [] = []
values_text (c ∷ columns) (v ∷ row) = value_text c.shape v ++ values_text columns row

-- which values of a row are Null, as bits
abbrev pub null_bit : Bool → ℕ
null_bit true = 1
null_bit false = 0

abbrev pub nulls_of : List RowValue → ℕ
nulls_of [] = 0
nulls_of (v ∷ row) = null_bit (is_null v) + 2 * nulls_of row

unfoldable pub image_form : List Column → Form BodyFault (List RowValue)
image_form columns = do
  bits ← One Value (nulls (length columns))
  values_form columns bits

abbrev pub image_text : List Column → List RowValue → List ℕ
image_text columns row = bitmap (length row) (nulls_of row) ++ values_text columns row

-- the image of the first column alone, which every table has
abbrev pub key_form : List Column → Form BodyFault RowValue
key_form [] = Whole value.Null
key_form (c ∷ columns) = do
  bits ← One Value (nulls 1)
  value_form c.shape

-- the values of a row that has this key
abbrev pub values_with : RowValue → List Column → ℕ → Form BodyFault (List RowValue)
values_with key [] bits = Whole []
values_with key (c ∷ columns) bits = do
  first ← cell_form (bits % 2 == 1) c.shape
  same ← One Value (agrees (same_value key first))
  others ← values_form columns (bits / 2)
  Whole (first ∷ others)

-- the image of a row that has this key
unfoldable pub image_with : RowValue → List Column → Form BodyFault (List RowValue)
image_with key columns = do
  bits ← One Value (nulls (length columns))
  values_with key columns bits

-- ---- WRITE, UPDATE and DELETE ROWS: the table id is that of the description before it
--   table id          6 bytes: the table's place in the schema, counted from 1
--   flags             2 bytes, 1: the statement ends here
--   length of extra   2 bytes, 2: there is no extra data
--   count of columns  packed
--   present           a bit for each column, lowest first: 1 where the image has it; an update has two of these
--   images            an insert: all columns; an update: the first column alone before, all columns after, with the same key; a delete: the first column alone

unfoldable pub rows_form : ℕ → TableOf → Form BodyFault (Unit {0})
rows_form place table = do
  number ← One Table (constant (table_number place))
  flags ← One Field (constant (1 ∷ 0 ∷ []))
  extra ← One Field (constant (2 ∷ 0 ∷ []))
  count ← One Field packed
  One Table (agrees (count == length table.columns))

abbrev pub rows_text : ℕ → TableOf → List ℕ
rows_text place table = table_number place ++ 1 ∷ 0 ∷ [] ++ 2 ∷ 0 ∷ [] ++ packed_text (length table.columns)

-- which columns of a table an image has
abbrev pub all_present : TableOf → List ℕ
all_present table = bitmap (length table.columns) (all_ones (length table.columns))

abbrev pub key_present : TableOf → List ℕ
key_present table = bitmap (length table.columns) 1

unfoldable pub write_form : ℕ → TableOf → Form BodyFault (List RowValue)
write_form place table = do
  head ← rows_form place table
  present ← One Field (constant (all_present table))
  image_form table.columns

-- the value is the row after the update
unfoldable pub update_form : ℕ → TableOf → Form BodyFault (List RowValue)
update_form place table = do
  head ← rows_form place table
  before ← One Field (constant (key_present table))
  after ← One Field (constant (all_present table))
  key ← key_form table.columns
  image_with key table.columns

-- the value is the key
unfoldable pub delete_form : ℕ → TableOf → Form BodyFault RowValue
delete_form place table = do
  head ← rows_form place table
  present ← One Field (constant (key_present table))
  key_form table.columns

abbrev pub kind_of : Change → ℕ
kind_of (Insert name row) = 30
kind_of (Update name row) = 31
kind_of (Delete name key) = 32

abbrev pub rows_body : ℕ → TableOf → Change → List ℕ
rows_body place table (Insert name row) = rows_text place table ++ all_present table ++ image_text table.columns row
rows_body place table (Update name row) =
    rows_text place table ++ key_present table ++ all_present table ++ image_text table.columns (key_of row ∷ []) ++ image_text table.columns row
rows_body place table (Delete name key) = rows_text place table ++ key_present table ++ image_text table.columns (key ∷ [])
