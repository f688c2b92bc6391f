-- What a body's form spells is the text of its value, and the value is one that fits: field by field, each field has one spelling.
use Rattle.std.proofs.Common.{◌≡◌, ℕ, suc, ◌+◌, ◌*◌, ◌/◌, ◌%◌, ◌^◌, ◌<◌, ◌≤◌, Bool, true, false, List, [], ◌∷◌, ◌++◌, length, refl, sym, ap, ap₂, subst, ◌∙◌, arith, inl, inr}
use Rattle.std.specs.Prelude.{◌==◌, not, nat_le}
use Rattle.std.specs.Int.{w64, to_le_bytes, cast_signed, cast_unsigned}
use Rattle.std.specs.Str.{is_utf8}
use Rattle.std.proofs.lemmas.Bool.{eqb-true, eqb-false, cases_lt}
use Rattle.std.proofs.lemmas.Bool.Decides.{Decides-int_eq}
use Rattle.std.proofs.lemmas.Int.{of_z-to_z}
use Rattle.std.proofs.lemmas.List.{append-nil}
use Rattle.std.proofs.lemmas.Slice.Eq.{bytes_eq-Decides}
use Rattle.event_frame.specs.Forms.{Spells}
use Rattle.event_frame.specs.Fields.{packed_text}
use Rattle.ring_types.specs.Rows.{is_number, is_null, key_of, same_value, value_fits, values_fit, key_fits_in}
use Rattle.ring_types.specs.Sizes.{all_metadata}
use Rattle.ring_types.specs.declared.values.Gtid.{Gtid}
use Rattle.ring_types.specs.declared.values.Value.{Value}
use Rattle.ring_types.specs.declared.values.Value.TheVariants as value
use Rattle.ring_types.specs.declared.schemas.Shape.{Shape}
use Rattle.ring_types.specs.declared.schemas.Shape.TheVariants as shape
use Rattle.ring_types.specs.declared.schemas.Column.{Column}
use Rattle.ring_types.specs.declared.schemas.Table.{Table}
use Rattle.ring_types.specs.declared.schemas.Schema.{Schema}
use Rattle.event_txn.specs.Bodies.{gtid_form, gtid_body, begin_form, begin_body}
use Rattle.event_txn.specs.Tables.{table_at, bitmap, name_form, name_text, types_form, types_text, metadata_form, metadata_text, nullable, described, description, map_form, map_body}
use Rattle.event_txn.specs.Rows.{value_text, cell_form, values_form, values_text, null_bit, nulls_of, image_form, image_with, image_text, key_form, rows_form, rows_text}
use Rattle.event_txn.specs.Laws.{FitsValue, FitsValues}
use Rattle.event_txn.proofs.KeyImages.{both, key_image, one_each}
use Rattle.event_txn.proofs.Bitmaps.{both_true}
use Rattle.event_txn.proofs.SpelledBodies.{regrouped}
use mir.ValLaws as laws

pub record GtidIs (sequence : ℕ) (text : List ℕ) (g : Gtid) : Type 0 where
  pub server : g.server < 2 ^ 128
  pub number : is_number g.number ≡ true
  pub text_is : text ≡ gtid_body sequence g

pub gtid_is : (sequence : ℕ) (text : List ℕ) (g : Gtid) → Spells (gtid_form sequence) text g → GtidIs sequence text g
unfolding gtid_body
gtid_is sequence text g s =
    let (flag, t0, m0, f0, s1, e0) = s in
    let (server, t1, m1, f1, s2, e1) = s1 in
    let (number, t2, m2, f2, s3, e2) = s2 in
    let (kind, t3, m3, f3, s4, e3) = s3 in
    let (last, t4, m4, f4, s5, e4) = s4 in
    let (own, t5, m5, f5, s6, e5) = s5 in
    let whole : text ≡ gtid_body sequence (record { server = server; number = number }) =
    rw (e0, f0.1, e1, f1.1, e2, f2.1, e3, f3.1, e4, f4.1, e5, f5.1, s6.0, append-nil (to_le_bytes w64 sequence)) refl in
    subst (GtidIs sequence text) s6.1 (record { server = f1.0; number = f2.0.1; text_is = whole })

pub begin_is : (text : List ℕ) (u : Unit {0}) → Spells begin_form text u → text ≡ begin_body
begin_is text u s =
    let (a, t0, m0, f0, s1, e0) = s in
    let (b, t1, m1, f1, s2, e1) = s1 in
    let (c, t2, m2, f2, s3, e2) = s2 in
    let (d, t3, m3, f3, s4, e3) = s3 in
    let (e, t4, m4, f4, s5, e4) = s4 in
    let (f, t5, m5, f5, s6, e5) = s5 in
    rw (e0, f0.1, e1, f1.1, e2, f2.1, e3, f3.1, e4, f4.1, e5, f5.1, s6.1) refl

-- ---- tables

name_is : (name text : List ℕ) (u : Unit {0}) → Spells (name_form name) text u → text ≡ name_text name
unfolding name_form
name_is name text u s =
    let (a, t0, m0, f0, s1, e0) = s in
    let (b, t1, m1, f1, s2, e1) = s1 in
    rw (e0, f0.1, e1, f1.1, s2.1) refl

types_is : (columns : List Column) (text : List ℕ) (u : Unit {0}) → Spells (types_form columns) text u → text ≡ types_text columns
types_is [] text u s = s.0
types_is (c ∷ columns) text u s =
    let (a, t, m, f, s1, e) = s in
    e ∙ ap₂ (λ (x y : List ℕ). x ++ y) f.1 (types_is columns m u s1)

metadata_is : (columns : List Column) (text : List ℕ) (u : Unit {0}) → Spells (metadata_form columns) text u → text ≡ metadata_text columns
metadata_is [] text u s = s.0
metadata_is (c ∷ columns) text u s =
    let (a, t, m, f, s1, e) = s in
    e ∙ ap₂ (λ (x y : List ℕ). x ++ y) f.1 (metadata_is columns m u s1)

described_is : (schema : Schema) (t : Table) (text : List ℕ) (u : Unit {0}) → Spells (described schema t) text u → text ≡ description schema t
unfolding described description
described_is schema t text u s =
    let (a0, t0, m0, f0, s1, e0) = s in
    let (a1, t1, m1, f1, s2, e1) = s1 in
    let (a2, t2, m2, f2, s3, e2) = s2 in
    let (n, t3, m3, f3, s4, e3) = s3 in
    let (a4, t4, m4, f4, s5, e4) = s4 in
    let (a5, t5, m5, f5, s6, e5) = s5 in
    let (m, t6, m6, f6, s7, e6) = s6 in
    let (a7, t7, m7, f7, s8, e7) = s7 in
    let (a8, t8, m8, f8, s9, e8) = s8 in
    let count : t3 ≡ packed_text (length t.columns) = f3.1 ∙ ap packed_text (eqb-true _ _ f4.0) in
    let size : t6 ≡ packed_text (all_metadata t) = f6.1 ∙ ap packed_text (eqb-true _ _ f7.0) in
    rw (e0, f0.1, e1, name_is schema.database t1 a1 f1, e2, name_is t.name t2 a2 f2, e3, count, e4, f4.1, e5, types_is t.columns t5 a5 f5, e6, size, e7, f7.1, e8, metadata_is t.columns t8 a8 f8, s9.1)
    (sym (regrouped (1 ∷ 0 ∷ []) (name_text schema.database) (name_text t.name) (packed_text (length t.columns)) (types_text t.columns) (packed_text (all_metadata t)) (metadata_text t.columns) (nullable (length t.columns))))

pub record MapIs (schema : Schema) (text : List ℕ) (place : ℕ) : Type 0 where
  pub within : place < length schema.tables
  pub text_is : text ≡ map_body schema place

pub map_is : (schema : Schema) (text : List ℕ) (place : ℕ) → Spells (map_form schema) text place → MapIs schema text place
unfolding map_body
map_is schema text place s =
    let (k, t0, m0, f0, s1, e0) = s in
    let (a, t1, m1, f1, s2, e1) = s1 in
    let whole : text ≡ map_body schema k = e0 ∙ ap₂ (λ (x y : List ℕ). x ++ y) f0.1 (e1 ∙ ap₂ (λ (x y : List ℕ). x ++ y) (described_is schema (table_at schema k) t1 a f1) s2.0 ∙ append-nil (description schema (table_at schema k))) in
    subst (MapIs schema text) s2.1 (record { within = f0.0.0; text_is = whole })

-- ---- values

record CellIs (b : Bool) (s : Shape) (text : List ℕ) (v : Value) : Type 0 where
  pub null : is_null v ≡ b
  pub text_is : text ≡ value_text s v
  pub fits : value_fits s v ≡ true
  pub value : FitsValue v

cell_is : (b : Bool) (s : Shape) (text : List ℕ) (v : Value) → Spells (cell_form b s) text v → CellIs b s text v
cell_is true s text v h = subst (CellIs true s text) h.1 (record { null = refl; text_is = h.0; fits = refl; value = tt })
cell_is false shape.Int text v h =
    let (n, t, m, f, w, e) = h in
    let whole : text ≡ to_le_bytes w64 (cast_unsigned w64 (cast_signed w64 n)) = e ∙ ap₂ (λ (x y : List ℕ). x ++ y) f.1 w.0 ∙ append-nil (to_le_bytes w64 n) ∙ ap (to_le_bytes w64) (sym (of_z-to_z w64 n f.0.0)) in
    subst (CellIs false shape.Int text) w.1 (record { null = refl; text_is = whole; fits = refl; value = laws.to_z-Fits w64 n (record { fits = f.0.0 }) })
cell_is false (shape.Text limit) text v h =
    let (t, tx, m, f, w, e) = h in
    let allowed = both (nat_le (length t) limit) (is_utf8 t) f.0.1 in
    let whole : text ≡ value_text (shape.Text limit) (value.Text t) = e ∙ ap₂ (λ (x y : List ℕ). x ++ y) f.1 w.0 ∙ append-nil (value_text (shape.Text limit) (value.Text t)) in
    subst (CellIs false (shape.Text limit) text) w.1 (record { null = refl; text_is = whole; fits = allowed.0; value = allowed.1 })

record RowIs (columns : List Column) (bits : ℕ) (text : List ℕ) (row : List Value) : Type 0 where
  pub nulls : nulls_of row ≡ bits
  pub text_is : text ≡ values_text columns row
  pub fits : values_fit columns row ≡ true
  pub values : FitsValues row

even_half : (bits : ℕ) → (bits % 2 ≡ 1 → ⊥) → 0 + 2 * (bits / 2) ≡ bits
even_half bits odd =
    elim (cases_lt (bits % 2) 1) [
      | inl lt ↦ omega (arith, lt)
      | inr le ↦ absurd (odd (omega (arith, le)))
    ]

from_test : (b : Bool) (bits : ℕ) → (bits % 2 == 1) ≡ b → null_bit b + 2 * (bits / 2) ≡ bits
from_test true bits e = omega (arith, eqb-true _ _ e)
from_test false bits e = let odd : bits % 2 ≡ 1 → ⊥ = eqb-false _ _ e in even_half bits odd

half_below : (bits n : ℕ) → bits < 2 ^ suc n → bits / 2 < 2 ^ n
half_below bits n lt = omega (arith, lt)

not_odd : (b : Bool) (n : ℕ) → (null_bit b + 2 * n) % 2 ≡ 0 → b ≡ false
not_odd true n e = absurd (omega (arith, e))
not_odd false n e = refl

bits_back : (bits : ℕ) → null_bit (bits % 2 == 1) + 2 * (bits / 2) ≡ bits
bits_back bits = from_test (bits % 2 == 1) bits refl

values_is : (columns : List Column) (bits : ℕ) (text : List ℕ) (row : List Value) → bits < 2 ^ length columns → Spells (values_form columns bits) text row → RowIs columns bits text row
values_is [] bits text row lt s = subst (RowIs [] bits text) s.1 (record { nulls = omega (arith, lt); text_is = s.0; fits = refl; values = tt })
values_is (c ∷ columns) bits text row lt s =
    let (v, t, m, f, s1, e) = s in
    let (others, t1, m1, f1, w, e1) = s1 in
    let cell = cell_is (bits % 2 == 1) c.shape t v f in
    let rest = values_is columns (bits / 2) t1 others (half_below bits (length columns) lt) f1 in
    let nulls : null_bit (is_null v) + 2 * nulls_of others ≡ bits = ap₂ (λ (b : Bool) (n : ℕ). null_bit b + 2 * n) cell.null rest.nulls ∙ bits_back bits in
    let whole : text ≡ value_text c.shape v ++ values_text columns others = e ∙ ap₂ (λ (x y : List ℕ). x ++ y) cell.text_is (e1 ∙ ap₂ (λ (x y : List ℕ). x ++ y) rest.text_is w.0 ∙ append-nil (values_text columns others)) in
    subst (RowIs (c ∷ columns) bits text) w.1 (record { nulls = nulls; text_is = whole; fits = both_true _ _ cell.fits rest.fits; values = (cell.value, rest.values) })

-- an image of all columns
pub record ImageIs (columns : List Column) (text : List ℕ) (row : List Value) : Type 0 where
  pub text_is : text ≡ image_text columns row
  pub fits : values_fit columns row ≡ true
  pub key : is_null (key_of row) ≡ false
  pub values : FitsValues row

even_key : (row : List Value) → 1 ≤ length row → nulls_of row % 2 ≡ 0 → is_null (key_of row) ≡ false
even_key [] some e = absurd (omega (arith, some))
even_key (v ∷ row) some e = not_odd (is_null v) (nulls_of row) e

image_from : (columns : List Column) (bits : ℕ) (lead text : List ℕ) (row : List Value) → 1 ≤ length columns → bits % 2 ≡ 0 → lead ≡ bitmap (length columns) bits → RowIs columns bits text row → ImageIs columns (lead ++ text) row
image_from columns bits lead text row some e l r =
    let same_length : length row ≡ length columns = one_each columns row r.fits in
    record {
      text_is = ap₂ (λ (x y : List ℕ). x ++ y) (l ∙ ap₂ (λ (k n : ℕ). bitmap k n) (sym same_length) (sym r.nulls)) r.text_is;
      fits = r.fits;
      key = even_key row (omega (arith, same_length, some)) (ap (λ (n : ℕ). n % 2) r.nulls ∙ e);
      values = r.values;
    }

pub image_is : (columns : List Column) (text : List ℕ) (row : List Value) → 1 ≤ length columns → Spells (image_form columns) text row → ImageIs columns text row
unfolding image_form
image_is columns text row some s =
    let (bits, t, m, f, s1, e) = s in
    subst (λ (x : List ℕ). ImageIs columns x row) (sym e) (image_from columns bits t m row some f.0.1 f.1 (values_is columns bits m row f.0.0 s1))

-- ---- the key alone, and a row that repeats it

same_is : (a b : Value) → same_value a b ≡ true → a ≡ b
same_is value.Null value.Null h = refl
same_is value.Null (value.Int b) h = absurd cc
same_is value.Null (value.Text b) h = absurd cc
same_is (value.Int a) value.Null h = absurd cc
same_is (value.Int a) (value.Int b) h = ap value.Int ((Decides-int_eq a b).0 h)
same_is (value.Int a) (value.Text b) h = absurd cc
same_is (value.Text a) value.Null h = absurd cc
same_is (value.Text a) (value.Int b) h = absurd cc
same_is (value.Text a) (value.Text b) h = ap value.Text ((bytes_eq-Decides a b).0 h)

pub record KeyIs (columns : List Column) (text : List ℕ) (key : Value) : Type 0 where
  pub text_is : text ≡ image_text columns (key ∷ [])
  pub fits : key_fits_in columns key ≡ true
  pub value : FitsValue key

pub key_is : (columns : List Column) (text : List ℕ) (key : Value) → 1 ≤ length columns → Spells (key_form columns) text key → KeyIs columns text key
key_is [] text key some s = absurd (omega (arith, some))
key_is (c ∷ columns) text key some s =
    let (bits, t, m, f, s1, e) = s in
    let cell = cell_is false c.shape m key s1 in
    let none : bits ≡ 0 = omega (arith, f.0.0, f.0.1) in
    let lead : t ≡ 0 ∷ [] = f.1 ∙ ap (bitmap 1) none in
    let present : not (is_null key) ≡ true = ap not cell.null in
    let fits : key_fits_in (c ∷ columns) key ≡ true = both_true (value_fits c.shape key) (not (is_null key)) cell.fits present in
    record { text_is = e ∙ ap₂ (λ (x y : List ℕ). x ++ y) lead cell.text_is ∙ sym (key_image c columns key fits); fits = fits; value = cell.value }

pub record RepeatIs (key : Value) (columns : List Column) (text : List ℕ) (row : List Value) : Type 0 where
  pub image : ImageIs columns text row
  pub same : key ≡ key_of row

pub image_with_is : (key : Value) (columns : List Column) (text : List ℕ) (row : List Value) → 1 ≤ length columns → Spells (image_with key columns) text row → RepeatIs key columns text row
unfolding image_with
image_with_is key [] text row some s = absurd (omega (arith, some))
image_with_is key (c ∷ columns) text row some s =
    let (bits, t, m, f, s1, e) = s in
    let (v, t1, m1, f1, s2, e1) = s1 in
    let (u, t2, m2, f2, s3, e2) = s2 in
    let (others, t3, m3, f3, w, e3) = s3 in
    let flat : m ≡ t1 ++ m2 = e1 ∙ ap (λ (x : List ℕ). t1 ++ x) (e2 ∙ ap (λ (x : List ℕ). x ++ m2) f2.1) in
    let spelled : Spells (values_form (c ∷ columns) bits) m row = (v, t1, m2, f1, (others, t3, m3, f3, w, e3), flat) in
    let image = image_from (c ∷ columns) bits t m row some f.0.1 f.1 (values_is (c ∷ columns) bits m row f.0.0 spelled) in
    record {
      image = subst (λ (x : List ℕ). ImageIs (c ∷ columns) x row) (sym e) image;
      same = same_is key v f2.0 ∙ ap key_of w.1;
    }

pub rows_is : (place : ℕ) (t : Table) (text : List ℕ) (u : Unit {0}) → Spells (rows_form place t) text u → text ≡ rows_text place t
unfolding rows_form
rows_is place t text u s =
    let (a0, t0, m0, f0, s1, e0) = s in
    let (a1, t1, m1, f1, s2, e1) = s1 in
    let (a2, t2, m2, f2, s3, e2) = s2 in
    let (n, t3, m3, f3, s4, e3) = s3 in
    let count : t3 ≡ packed_text (length t.columns) = f3.1 ∙ ap packed_text (eqb-true _ _ s4.0) in
    rw (e0, f0.1, e1, f1.1, e2, f2.1, e3, count, s4.1, append-nil (packed_text (length t.columns))) refl
