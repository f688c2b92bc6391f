-- Each form is made of fields that are found exactly where they are spelled: by going through it, field by field.
use Rattle.std.proofs.Common.{◌≡◌, ℕ, zero, suc, ◌≤◌, Bool, true, false, cond, List, [], ◌∷◌, length, Some, None, Option, refl, arith}
use Rattle.std.specs.Prelude.{◌&&◌, ◌||◌, ◌==◌, not, nat_lt, nat_le, slice_get, unwrap_or}
use Rattle.std.specs.List.{list_any}
use Rattle.std.specs.Int.{w8, w16, w64}
use Rattle.std.proofs.lemmas.Bool.{ltb-false}
use Rattle.event_frame.specs.Forms.{Form}
use Rattle.event_frame.specs.Fields.{text_fits}
use Rattle.event_frame.proofs.Forms.{AreFields}
use Rattle.event_frame.proofs.Fields.{IsWide, wide8, wide16, wide64, constant_is_field, number_is_field, text_is_field, agrees_is_field, packed_is_field}
use Rattle.event_frame.proofs.Servers.{server_is_field}
use Rattle.ring_types.specs.Rings.{is_schema, schema_fits, bad_table, bad_schema}
use Rattle.ring_types.specs.Rows.{is_number, same_value}
use Rattle.ring_types.specs.declared.limits.TheConstants.{MOST_COLUMNS, MOST_TABLES}
use Rattle.ring_types.specs.declared.values.Gtid.{Gtid}
use Rattle.ring_types.specs.declared.values.Change.{Change}
use Rattle.ring_types.specs.declared.values.Change.TheVariants.{Insert, Update, Delete}
use Rattle.ring_types.specs.declared.values.Value.{Value}
use Rattle.ring_types.specs.declared.entries.Place.{Place}
use Rattle.ring_types.specs.declared.schemas.Shape.{Shape}
use Rattle.ring_types.specs.declared.schemas.Shape.TheVariants as shape
use Rattle.ring_types.specs.declared.schemas.Column.{Column}
use Rattle.ring_types.specs.declared.schemas.Table.{Table}
use Rattle.ring_types.specs.declared.schemas.Schema.{Schema}
use Rattle.event_txn.specs.declared.faults.TxnError.{TxnError}
use Rattle.event_txn.specs.Bodies.{gtid_form, begin_form, xid_form}
use Rattle.event_txn.specs.Tables.{table_at, no_table, name_form, types_form, metadata_form, described, map_form}
use Rattle.event_txn.specs.Rows.{lead_of, value_form, cell_form, values_form, values_with, image_form, image_with, key_form, rows_form, write_form, update_form, delete_form}
use Rattle.event_txn.specs.Txns.{Due, Nothing, Bodies, due_if, due_gtid, due_begin, due_table, due_rows, due_more, none, changes_behind, changes_form, txn_form}
use Rattle.event_txn.proofs.Bitmaps.{nulls_is_field, table_is_field}
use Rattle.event_txn.proofs.KeyImages.{both}
use Rattle.event_txn.proofs.OneEvent.{AreLawful, one_event_is_part}

pub gtid_fields : (sequence : ℕ) → AreFields (gtid_form sequence)
gtid_fields sequence = (
  constant_is_field _,
  λ flag. (server_is_field, λ s. (number_is_field w64 wide64 is_number, λ n. (constant_is_field _, λ kind. (constant_is_field _, λ last. (constant_is_field _, λ own. tt))))),
)

pub begin_fields : AreFields begin_form
begin_fields = (
  constant_is_field _,
  λ a. (constant_is_field _, λ b. (constant_is_field _, λ c. (constant_is_field _, λ d. (constant_is_field _, λ e. (constant_is_field _, λ f. constant_is_field _))))),
)

-- ---- tables
name_fields : (name : List ℕ) → AreFields (name_form name)
unfolding name_form
name_fields name = (constant_is_field _, λ size. (constant_is_field _, λ bytes. constant_is_field _))

types_fields : (columns : List Column) → AreFields (types_form columns)
types_fields [] = tt
types_fields (c ∷ columns) = (constant_is_field _, λ type. types_fields columns)

metadata_fields : (columns : List Column) → AreFields (metadata_form columns)
metadata_fields [] = tt
metadata_fields (c ∷ columns) = (constant_is_field _, λ limit. metadata_fields columns)

described_fields : (schema : Schema) (table : Table) → AreFields (described schema table)
unfolding described
described_fields schema table = (
  constant_is_field _,
  λ flags. (
    name_fields schema.database,
    λ database. (
      name_fields table.name,
      λ name. (
        packed_is_field,
        λ count. (
          agrees_is_field _,
          λ same.
              (types_fields table.columns, λ types. (packed_is_field, λ size. (agrees_is_field _, λ enough. (metadata_fields table.columns, λ metadata. constant_is_field _)))),
        ),
      ),
    ),
  ),
)

pub map_fields : (schema : Schema) → AreFields (map_form schema)
map_fields schema = (table_is_field (length schema.tables), λ place. (described_fields schema (table_at schema place), λ d. tt))

-- ---- rows
wide_lead : (b : Bool) → IsWide (cond b w8 w16)
wide_lead true = wide8
wide_lead false = wide16

value_fields : (s : Shape) → AreFields (value_form s)
value_fields shape.Int = (number_is_field w64 wide64 (λ _. true), λ n. tt)
value_fields (shape.Text limit) = (text_is_field (lead_of limit) (wide_lead (nat_lt limit 256)) (text_fits limit), λ t. tt)

cell_fields : (null : Bool) (s : Shape) → AreFields (cell_form null s)
cell_fields true s = tt
cell_fields false s = value_fields s

values_fields : (columns : List Column) (bits : ℕ) → AreFields (values_form columns bits)
values_fields [] bits = tt
values_fields (c ∷ columns) bits = (cell_fields _ c.shape, λ first. (values_fields columns _, λ others. tt))

values_with_fields : (key : Value) (columns : List Column) (bits : ℕ) → AreFields (values_with key columns bits)
values_with_fields key [] bits = tt
values_with_fields key (c ∷ columns) bits = (cell_fields _ c.shape, λ first. (agrees_is_field (same_value key first), λ same. (values_fields columns _, λ others. tt)))

image_fields : (columns : List Column) → length columns ≤ 64 → AreFields (image_form columns)
unfolding image_form
image_fields columns few = (nulls_is_field (length columns) few, λ bits. values_fields columns bits)

image_with_fields : (key : Value) (columns : List Column) → length columns ≤ 64 → AreFields (image_with key columns)
unfolding image_with
image_with_fields key columns few = (nulls_is_field (length columns) few, λ bits. values_with_fields key columns bits)

key_fields : (columns : List Column) → AreFields (key_form columns)
key_fields [] = tt
key_fields (c ∷ columns) = (nulls_is_field 1 (omega arith), λ bits. value_fields c.shape)

rows_fields : (place : ℕ) (table : Table) → AreFields (rows_form place table)
unfolding rows_form
rows_fields place table = (constant_is_field _, λ number. (constant_is_field _, λ flags. (constant_is_field _, λ extra. (packed_is_field, λ count. agrees_is_field _))))

pub write_fields : (place : ℕ) (table : Table) → length table.columns ≤ 64 → AreFields (write_form place table)
unfolding write_form
write_fields place table few = (rows_fields place table, λ head. (constant_is_field _, λ present. image_fields table.columns few))

pub update_fields : (place : ℕ) (table : Table) → length table.columns ≤ 64 → AreFields (update_form place table)
unfolding update_form
update_fields place table few =
    (rows_fields place table, λ head. (constant_is_field _, λ before. (constant_is_field _, λ after. (key_fields table.columns, λ key. image_with_fields key table.columns few))))

pub delete_fields : (place : ℕ) (table : Table) → AreFields (delete_form place table)
unfolding delete_form
delete_fields place table = (rows_fields place table, λ head. (constant_is_field _, λ present. key_fields table.columns))

-- ---- events

lawful_if : {A : Type 0} (b : Bool) (this other : Due A) → AreLawful this → AreLawful other → AreLawful (due_if b this other)
lawful_if true this other h k = h
lawful_if false this other h k = k

gtid_lawful : (schema : Schema) (sequence kind flags : ℕ) → AreLawful (due_gtid schema sequence kind flags)
gtid_lawful schema sequence kind flags =
    lawful_if {A = Gtid} (kind == 33 && flags == 0 && nat_le 1 sequence && nat_le 1 (length schema.tables)) (Bodies (gtid_form sequence) (λ g. g)) Nothing (gtid_fields sequence) tt

begin_lawful : (kind flags : ℕ) → AreLawful (due_begin kind flags)
begin_lawful kind flags = lawful_if {A = Unit {0}} (kind == 2 && flags == 0) (Bodies begin_form (λ u. u)) Nothing begin_fields tt

table_lawful : (schema : Schema) (kind flags : ℕ) → AreLawful (due_table schema kind flags)
table_lawful schema kind flags = lawful_if {A = ℕ} (kind == 19 && flags == 0) (Bodies (map_form schema) (λ place. place)) Nothing (map_fields schema) tt

more_lawful : (schema : Schema) (position kind flags : ℕ) → AreLawful (due_more schema position kind flags)
more_lawful schema position kind flags =
    let end : Due (Option ℕ) = due_if (kind == 16 && flags == 0) (Bodies (xid_form position) (λ u. None)) Nothing in
    lawful_if {A = Option ℕ} (kind == 19 && flags == 0) (Bodies (map_form schema) (λ place. Some place)) end (map_fields schema)
    (lawful_if {A = Option ℕ} (kind == 16 && flags == 0) (Bodies (xid_form position) (λ u. None)) Nothing (constant_is_field _) tt)

rows_lawful : (schema : Schema) (place kind flags : ℕ) → length (table_at schema place).columns ≤ 64 → AreLawful (due_rows schema place kind flags)
rows_lawful schema place kind flags few =
    let t : Table = table_at schema place in
    let delete : Due Change = due_if (kind == 32 && flags == 0) (Bodies (delete_form place t) (λ key. Delete t.name key)) Nothing in
    let update : Due Change = due_if (kind == 31 && flags == 0) (Bodies (update_form place t) (λ row. Update t.name row)) delete in
    lawful_if {A = Change} (kind == 30 && flags == 0) (Bodies (write_form place t) (λ row. Insert t.name row)) update (write_fields place t few)
    (lawful_if {A = Change} (kind == 31 && flags == 0) (Bodies (update_form place t) (λ row. Update t.name row)) delete (update_fields place t few)
    (lawful_if {A = Change} (kind == 32 && flags == 0) (Bodies (delete_form place t) (λ key. Delete t.name key)) Nothing (delete_fields place t) tt))

pub either : (a b : Bool) → (a || b) ≡ false → (a ≡ false) × (b ≡ false)
either true b h = absurd cc
either false b h = (refl, h)

not_bad : (t : Table) → bad_table t ≡ false → length t.columns ≤ 64
not_bad t h =
    let a = either (nat_lt (length t.columns) 1 || nat_lt MOST_COLUMNS (length t.columns)) _ h in
    let b = either (nat_lt (length t.columns) 1) (nat_lt MOST_COLUMNS (length t.columns)) a.0 in
    ltb-false _ _ b.1

few_at : (tables : List Table) (place : ℕ) → list_any bad_table tables ≡ false → length (unwrap_or (slice_get tables place) no_table).columns ≤ 64
few_at [] place h = omega arith
few_at (t ∷ tables) zero h = not_bad t (either (bad_table t) (list_any bad_table tables) h).0
few_at (t ∷ tables) (suc place) h = few_at tables place (either (bad_table t) (list_any bad_table tables) h).1

pub negated : (a : Bool) → not a ≡ true → a ≡ false
negated true h = absurd cc
negated false h = refl

pub few_columns : (schema : Schema) (place : ℕ) → is_schema schema ≡ true → length (table_at schema place).columns ≤ 64
few_columns schema place h =
    let s = both (schema_fits schema && nat_le (length schema.tables) MOST_TABLES) (not (bad_schema schema)) h in
    few_at schema.tables place (either _ (list_any bad_table schema.tables) (negated (bad_schema schema) s.1)).1

-- ---- the transaction

none_is_part : {A : Type 0} (offset : ℕ) → AreFields (none {A = A} offset)
none_is_part offset = record { finds = λ text a rest h. absurd h; only = λ bytes a rest fits h. absurd cc }

behind_fields : (more : ℕ → ℕ → Form TxnError (List Change × ℕ)) (offset : ℕ) (next : Option ℕ) → ((place o : ℕ) → AreFields (more place o)) → AreFields (changes_behind more offset next)
behind_fields more offset None h = tt
behind_fields more offset (Some place) h = h place offset

changes_fields : (count : ℕ) (schema : Schema) (position at place offset : ℕ) → is_schema schema ≡ true → AreFields (changes_form count schema position at place offset)
changes_fields zero schema position at place offset h = none_is_part offset
changes_fields (suc count) schema position at place offset h = (
  one_event_is_part at offset (due_rows schema place) (λ kind flags. rows_lawful schema place kind flags (few_columns schema place h)),
  λ change. (
    one_event_is_part at change.1 (due_more schema position) (more_lawful schema position),
    λ next. (behind_fields (λ p o. changes_form count schema position at p o) next.1 next.0 (λ p o. changes_fields count schema position at p o h), λ others. tt),
  ),
)

pub txn_fields : (count : ℕ) (schema : Schema) (position : ℕ) (place : Place) → is_schema schema ≡ true → AreFields (txn_form count schema position place)
txn_fields count schema position place h = (
  one_event_is_part place.at 0 (due_gtid schema place.sequence) (gtid_lawful schema place.sequence),
  λ gtid. (
    one_event_is_part place.at gtid.1 due_begin begin_lawful,
    λ begin. (
      one_event_is_part place.at begin.1 (due_table schema) (table_lawful schema),
      λ table. (changes_fields count schema position place.at table.0 table.1 h, λ changes. tt),
    ),
  ),
)
