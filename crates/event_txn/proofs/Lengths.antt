-- The bodies of a change's events have the sizes that the size of a group counts: each part has its own.
use Rattle.std.proofs.Common.{◌≡◌, ℕ, suc, ◌+◌, ◌-◌, ◌*◌, ◌^◌, ◌≤◌, Bool, true, false, cond, List, [], ◌∷◌, ◌++◌, length, refl, ap, arith}
use Rattle.std.specs.Prelude.{not, nat_le, nat_lt, sum_by}
use Rattle.std.specs.List.{list_all}
use Rattle.std.specs.Int.{w8, w16, w64, to_le_bytes}
use Rattle.std.proofs.lemmas.Bool.Decides.{nat_tests}
use Rattle.std.proofs.lemmas.List.{length-append, length-take}
use Rattle.std.proofs.lemmas.List.Sums.{sum_by-cons}
use Rattle.event_frame.specs.Fields.{packed_text}
use Rattle.event_frame.specs.declared.frames.TheConstants.{MOST_BODY_BYTES}
use Rattle.ring_types.specs.Rings.{column_fits, shape_fits}
use Rattle.ring_types.specs.Rows.{is_null, key_of, value_fits, values_fit, key_fits_in, fits_table}
use Rattle.ring_types.specs.Sizes.{packed_size, bitmap_size, metadata_size, all_metadata, table_map_size, value_size, values_size, image_size, rows_event_size}
use Rattle.ring_types.specs.declared.values.Value.{Value}
use Rattle.ring_types.specs.declared.values.Value.TheVariants as value
use Rattle.ring_types.specs.declared.values.Change.{Change}
use Rattle.ring_types.specs.declared.values.Change.TheVariants.{Insert, Update, Delete}
use Rattle.ring_types.specs.declared.schemas.Shape.{Shape}
use Rattle.ring_types.specs.declared.schemas.Shape.TheVariants as shape
use Rattle.ring_types.specs.declared.schemas.Column.{Column}
use Rattle.ring_types.specs.declared.schemas.Table.{Table}
use Rattle.ring_types.specs.declared.schemas.Schema.{Schema}
use Rattle.ring_types.specs.declared.values.Gtid.{Gtid}
use Rattle.event_txn.specs.Bodies.{gtid_body}
use Rattle.event_txn.specs.Tables.{table_at, table_number, bitmap, name_text, types_text, metadata_of, metadata_text, columns_text, nullable, all_ones, description, map_body}
use Rattle.event_txn.proofs.KeyImages.{both, no_key, one_each, key_of_row}
use Rattle.event_txn.specs.Rows.{lead_of, value_text, values_text, nulls_of, image_text, rows_text, all_present, key_present, rows_body}

pub bitmap_length : (bits n : ℕ) → bits ≤ 64 → length (bitmap bits n) ≡ bitmap_size bits
bitmap_length bits n few =
    let eight : length (to_le_bytes w64 n) ≡ 8 = refl in
    omega (arith, length-take (bitmap_size bits) (to_le_bytes w64 n), eight)

types_length : (columns : List Column) → length (types_text columns) ≡ length columns
types_length [] = refl
types_length (c ∷ columns) = ap suc (types_length columns)

metadata_one : (s : Shape) → length (metadata_of s) ≡ metadata_size s
metadata_one shape.Int = refl
metadata_one (shape.Text limit) = refl

metadata_length : (columns : List Column) → length (metadata_text columns) ≡ sum_by (λ (c : Column). metadata_size c.shape) columns
metadata_length [] = refl
metadata_length (c ∷ columns) =
    omega (arith, length-append (metadata_of c.shape) (metadata_text columns), metadata_one c.shape, metadata_length columns, sum_by-cons (λ (x : Column). metadata_size x.shape) c columns)

metadata_small : (s : Shape) → metadata_size s ≤ 2
metadata_small shape.Int = omega arith
metadata_small (shape.Text limit) = omega arith

pub metadata_few : (columns : List Column) → sum_by (λ (c : Column). metadata_size c.shape) columns ≤ 2 * length columns
metadata_few [] = omega arith
metadata_few (c ∷ columns) =
    let one : metadata_size c.shape ≤ 2 = metadata_small c.shape in
    omega (arith, one, metadata_few columns, sum_by-cons (λ (x : Column). metadata_size x.shape) c columns)

packed_choice : (b c d : Bool) (x y z w : List ℕ) → length x ≡ 1 → length y ≡ 3 → length z ≡ 4 → length w ≡ 9
    → length (cond b x (cond c y (cond d z w))) ≡ cond b 1 (cond c 3 (cond d 4 9))
packed_choice true c d x y z w hx hy hz hw = hx
packed_choice false true d x y z w hx hy hz hw = hy
packed_choice false false true x y z w hx hy hz hw = hz
packed_choice false false false x y z w hx hy hz hw = hw

packed_length : (n : ℕ) → length (packed_text n) ≡ packed_size n
packed_length n = packed_choice (nat_le n 250) (nat_lt n (2 ^ 16)) (nat_lt n (2 ^ 24)) _ _ _ _ refl refl refl refl

columns_length : (table : Table) → length table.columns ≤ 64
    → length (columns_text table) ≡ packed_size (length table.columns) + length table.columns + packed_size (all_metadata table) + all_metadata table + bitmap_size (length table.columns)
columns_length table few =
    let n : ℕ = length table.columns in
    let a : List ℕ = packed_text n in
    let b : List ℕ = types_text table.columns in
    let c : List ℕ = packed_text (all_metadata table) in
    let d : List ℕ = metadata_text table.columns in
    let e : List ℕ = nullable n in
    omega (
      arith,
      length-append (a ++ b ++ c ++ d) e,
      length-append (a ++ b ++ c) d,
      length-append (a ++ b) c,
      length-append a b,
      packed_length n,
      types_length table.columns,
      packed_length (all_metadata table),
      metadata_length table.columns,
      bitmap_length n (all_ones n - 1) few,
    )

name_length : (name : List ℕ) → length (name_text name) ≡ 2 + length name
name_length name = omega (arith, length-append name (0 ∷ []))

pub map_length : (schema : Schema) (place : ℕ) → length (table_at schema place).columns ≤ 64 → length (map_body schema place) + 23 ≡ table_map_size schema (table_at schema place)
unfolding map_body description
map_length schema place few =
    let t : Table = table_at schema place in
    let head : List ℕ = 1 ∷ 0 ∷ [] ++ name_text schema.database in
    let number : length (table_number place) ≡ 6 = refl in
    omega (
      arith,
      length-append (table_number place) (head ++ name_text t.name ++ columns_text t),
      number,
      length-append (head ++ name_text t.name) (columns_text t),
      length-append head (name_text t.name),
      name_length schema.database,
      name_length t.name,
      columns_length t few,
    )

-- ---- rows

lead_length : (b : Bool) (x : Bool → List ℕ) → length (x true) ≡ 1 → length (x false) ≡ 2 → length (x b) ≡ cond b 1 2
lead_length true x h k = h
lead_length false x h k = k

value_length : (s : Shape) (v : Value) → length (value_text s v) ≡ value_size s v
value_length s value.Null = refl
value_length s (value.Int n) = refl
value_length shape.Int (value.Text t) = refl
value_length (shape.Text limit) (value.Text t) =
    omega (arith, length-append (to_le_bytes (lead_of limit) (length t)) t, lead_length (nat_lt limit 256) (λ b. to_le_bytes (cond b w8 w16) (length t)) refl refl)

values_length : (columns : List Column) (row : List Value) → length (values_text columns row) ≡ values_size columns row
values_length [] row = refl
values_length (c ∷ columns) [] = refl
values_length (c ∷ columns) (v ∷ row) = omega (arith, length-append (value_text c.shape v) (values_text columns row), value_length c.shape v, values_length columns row)

image_length : (columns : List Column) (row : List Value) → length row ≤ 64 → length (image_text columns row) ≡ image_size columns row
image_length columns row few = omega (arith, length-append (bitmap (length row) (nulls_of row)) (values_text columns row), bitmap_length (length row) (nulls_of row) few, values_length columns row)

rows_length : (place : ℕ) (table : Table) → length (rows_text place table) ≡ 10 + packed_size (length table.columns)
rows_length place table =
    let head : List ℕ = table_number place ++ 1 ∷ 0 ∷ [] ++ 2 ∷ 0 ∷ [] in
    let ten : length head ≡ 10 = refl in
    omega (arith, length-append head (packed_text (length table.columns)), ten, packed_length (length table.columns))

-- ---- what fits is not long

value_small : (s : Shape) (v : Value) → shape_fits s ≡ true → value_fits s v ≡ true → value_size s v ≤ 16002
value_small s value.Null h k = omega arith
value_small shape.Int (value.Int n) h k = omega arith
value_small (shape.Text limit) (value.Int n) h k = absurd cc
value_small shape.Int (value.Text t) h k = absurd cc
value_small (shape.Text limit) (value.Text t) h k = grind (arith, nat_tests, h, k)

values_small : (columns : List Column) (row : List Value) → list_all column_fits columns ≡ true → values_fit columns row ≡ true → values_size columns row ≤ 16002 * length columns
values_small [] row h k = omega arith
values_small (c ∷ columns) [] h k = absurd cc
values_small (c ∷ columns) (v ∷ row) h k =
    let fits = both (column_fits c) (list_all column_fits columns) h in
    let values = both (value_fits c.shape v) (values_fit columns row) k in
    let shape = both _ (shape_fits c.shape) fits.0 in
    omega (arith, value_small c.shape v shape.1 values.0, values_small columns row fits.1 values.1)

-- a table of a schema, and a change that fits it
pub record FitsRow (table : Table) (c : Change) : Type 0 where
  pub columns : list_all column_fits table.columns ≡ true
  pub some : 1 ≤ length table.columns
  pub few : length table.columns ≤ 64
  pub fits : fits_table table c ≡ true

none_left : (columns : List Column) → values_size columns [] ≡ 0
none_left [] = refl
none_left (c ∷ columns) = refl

key_small : (columns : List Column) (key : Value) → list_all column_fits columns ≡ true → key_fits_in columns key ≡ true → values_size columns (key ∷ []) ≤ 16002
key_small [] key h k = omega arith
key_small (c ∷ columns) key h k =
    let fits = both (column_fits c) (list_all column_fits columns) h in
    let shape = both _ (shape_fits c.shape) fits.0 in
    let key_is = both (value_fits c.shape key) (not (is_null key)) k in
    omega (arith, value_small c.shape key shape.1 key_is.0, none_left columns)

-- the length of the body of a row's event, and that it is not long
pub record HasSize (place : ℕ) (table : Table) (c : Change) : Type 0 where
  pub size : length (rows_body place table c) + 23 ≡ rows_event_size table c
  pub small : rows_event_size table c ≤ MOST_BODY_BYTES

packed_small : (n : ℕ) → n ≤ 64 → packed_size n ≡ 1
packed_small n few = grind (arith, nat_tests, few)

choice_most : (b c d : Bool) → cond b 1 (cond c 3 (cond d 4 9)) ≤ 9
choice_most true c d = omega arith
choice_most false true d = omega arith
choice_most false false true = omega arith
choice_most false false false = omega arith

packed_most : (n : ℕ) → packed_size n ≤ 9
packed_most n = choice_most (nat_le n 250) (nat_lt n (2 ^ 16)) (nat_lt n (2 ^ 24))

row_size : (place : ℕ) (table : Table) (c : Change) → FitsRow table c → HasSize place table c
row_size place table (Insert name row) f =
    let row_is = both (values_fit table.columns row) (not (is_null (key_of row))) f.fits in
    let few : length row ≤ 64 = omega (arith, one_each table.columns row row_is.0, f.few) in
    let n : ℕ = length table.columns in
    record {
      size = omega (
        arith,
        length-append (rows_text place table ++ all_present table) (image_text table.columns row),
        length-append (rows_text place table) (all_present table),
        rows_length place table,
        bitmap_length n (all_ones n) f.few,
        image_length table.columns row few,
      );
      small = omega (arith, packed_small n f.few, f.few, few, values_small table.columns row f.columns row_is.0);
    }
row_size place table (Delete name key) f =
    let n : ℕ = length table.columns in
    record {
      size = omega (
        arith,
        length-append (rows_text place table ++ key_present table) (image_text table.columns (key ∷ [])),
        length-append (rows_text place table) (key_present table),
        rows_length place table,
        bitmap_length n 1 f.few,
        image_length table.columns (key ∷ []) (omega arith),
      );
      small = omega (arith, packed_small n f.few, f.few, key_small table.columns key f.columns f.fits);
    }
row_size place table (Update name []) f = absurd (no_key (values_fit table.columns []) f.fits)
row_size place table (Update name (key ∷ row)) f =
    let row_is = both (values_fit table.columns (key ∷ row)) (not (is_null key)) f.fits in
    let few : length (key ∷ row) ≤ 64 = omega (arith, one_each table.columns (key ∷ row) row_is.0, f.few) in
    let n : ℕ = length table.columns in
    let key_is : key_fits_in table.columns key ≡ true = key_of_row table.columns key row f.fits in
    let head : List ℕ = rows_text place table ++ key_present table ++ all_present table in
    let before : List ℕ = image_text table.columns (key ∷ []) in
    record {
      size = omega (
        arith,
        length-append (head ++ before) (image_text table.columns (key ∷ row)),
        length-append head before,
        length-append (rows_text place table ++ key_present table) (all_present table),
        length-append (rows_text place table) (key_present table),
        rows_length place table,
        bitmap_length n 1 f.few,
        bitmap_length n (all_ones n) f.few,
        image_length table.columns (key ∷ []) (omega arith),
        image_length table.columns (key ∷ row) few,
      );
      small = omega (arith, packed_small n f.few, f.few, few, key_small table.columns key f.columns key_is, values_small table.columns (key ∷ row) f.columns row_is.0);
    }

pub map_small : (schema : Schema) (t : Table) → length schema.database ≤ 64 → length t.name ≤ 64 → length t.columns ≤ 64 → table_map_size schema t ≤ MOST_BODY_BYTES
map_small schema t database name few =
    let all : all_metadata t ≤ 128 = omega (arith, metadata_few t.columns, few) in
    omega (arith, packed_small (length t.columns) few, packed_most (all_metadata t), all, database, name)

pub row_length : (place : ℕ) (table : Table) (c : Change) → list_all column_fits table.columns ≡ true → 1 ≤ length table.columns → length table.columns ≤ 64 → fits_table table c ≡ true
    → length (rows_body place table c) + 23 ≡ rows_event_size table c
row_length place table c columns some few fits = (row_size place table c (record { columns = columns; some = some; few = few; fits = fits })).size

pub row_small : (table : Table) (c : Change) → list_all column_fits table.columns ≡ true → 1 ≤ length table.columns → length table.columns ≤ 64 → fits_table table c ≡ true → rows_event_size table c ≤ MOST_BODY_BYTES
row_small table c columns some few fits = (row_size 0 table c (record { columns = columns; some = some; few = few; fits = fits })).small

pub gtid_length : (sequence : ℕ) (g : Gtid) → 42 ≡ length (gtid_body sequence g)
unfolding gtid_body
gtid_length sequence g = refl
