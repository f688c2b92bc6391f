-- The body of a row's event is spelled by the form of its change, and so by what is due behind the description of its table.
use Rattle.std.proofs.Common.{◌≡◌, ℕ, suc, ◌+◌, ◌*◌, ◌%◌, ◌^◌, ◌<◌, Bool, true, false, List, [], ◌∷◌, ◌++◌, length, refl, sym, ap, subst, append_assoc, rules, arith}
use Rattle.std.specs.Prelude.{not}
use Rattle.std.specs.List.{list_all}
use Rattle.std.proofs.lemmas.List.{append-nil}
use Rattle.std.proofs.lemmas.Slice.Eq.{bytes_eq-Decides}
use Rattle.event_frame.specs.Forms.{Spells}
use Rattle.event_frame.specs.Fields.{packed_text}
use Rattle.ring_types.specs.Rings.{column_fits, shape_fits}
use Rattle.ring_types.specs.Rows.{is_null, key_of, same_value, value_fits, values_fit, key_fits_in, table_name}
use Rattle.ring_types.specs.declared.values.Value.{Value}
use Rattle.ring_types.specs.declared.values.Value.TheVariants as value
use Rattle.ring_types.specs.declared.values.Change.{Change}
use Rattle.ring_types.specs.declared.values.Change.TheVariants.{Insert, Update, Delete}
use Rattle.ring_types.specs.declared.schemas.Column.{Column}
use Rattle.ring_types.specs.declared.schemas.Table.{Table}
use Rattle.ring_types.specs.declared.schemas.Schema.{Schema}
use Rattle.event_txn.specs.Tables.{table_at, table_number, bitmap}
use Rattle.event_txn.specs.Rows.{value_text, cell_form, values_form, values_text, null_bit, nulls_of, image_form, image_with, image_text, key_form, rows_form, rows_text, all_present, key_present, write_form, update_form, delete_form, kind_of, rows_body}
use Rattle.event_txn.specs.Txns.{IsDue, due_rows}
use Rattle.event_txn.specs.Laws.{FitsValue, FitsValues, FitsChange}
use Rattle.event_txn.proofs.KeyImages.{both, no_key, key_image, one_each, key_of_row}
use Rattle.event_txn.proofs.Lengths.{FitsRow}
use Rattle.event_txn.proofs.Lawful.{negated}
use Rattle.event_txn.proofs.SpelledBodies.{cell_spelled, values_spelled, bit_first, bits_behind, same}

one_more : (b : Bool) (n k : ℕ) → n < 2 ^ k → null_bit b + 2 * n < 2 ^ suc k
one_more true n k lt = omega (arith, lt)
one_more false n k lt = omega (arith, lt)

nulls_below : (row : List Value) → nulls_of row < 2 ^ length row
nulls_below [] = omega arith
nulls_below (v ∷ row) = one_more (is_null v) (nulls_of row) (length row) (nulls_below row)

nulls_even : (row : List Value) → is_null (key_of row) ≡ false → nulls_of row % 2 ≡ 0
nulls_even [] h = refl
nulls_even (v ∷ row) h = rw h (omega arith)

image_spelled : (columns : List Column) (row : List Value) → list_all column_fits columns ≡ true → values_fit columns row ≡ true → is_null (key_of row) ≡ false → FitsValues row → Spells (image_form columns) (image_text columns row) row
unfolding image_form
image_spelled columns row h k key fits =
    let e : length row ≡ length columns = one_each columns row k in
    let below = subst (λ (n : ℕ). nulls_of row < 2 ^ n) e (nulls_below row) in
    (nulls_of row, bitmap (length row) (nulls_of row), values_text columns row, ((below, nulls_even row key), ap (λ (n : ℕ). bitmap n (nulls_of row)) e), values_spelled columns row h k fits, refl)

key_spelled : (columns : List Column) (key : Value) → list_all column_fits columns ≡ true → key_fits_in columns key ≡ true → FitsValue key → Spells (key_form columns) (image_text columns (key ∷ [])) key
key_spelled [] key h k fits = absurd cc
key_spelled (c ∷ columns) key h k fits =
    let p = both (column_fits c) (list_all column_fits columns) h in
    let q = both (value_fits c.shape key) (not (is_null key)) k in
    let cell = subst (λ (b : Bool). Spells (cell_form b c.shape) (value_text c.shape key) key) (negated (is_null key) q.1) (cell_spelled c.shape key (both _ (shape_fits c.shape) p.0).1 q.0 fits) in
    (0, 0 ∷ [], value_text c.shape key, ((omega arith, refl), refl), cell, key_image c columns key k)

same_self : (v : Value) → same_value v v ≡ true
same_self value.Null = refl
same_self (value.Int n) = search rules
same_self (value.Text t) = (bytes_eq-Decides t t).1 refl

image_with_spelled : (columns : List Column) (row : List Value) → list_all column_fits columns ≡ true → values_fit columns row ≡ true → is_null (key_of row) ≡ false → FitsValues row
    → Spells (image_with (key_of row) columns) (image_text columns row) row
unfolding image_with
image_with_spelled [] [] h k key fits = (0, bitmap 0 0, [], ((omega arith, refl), refl), (refl, refl), refl)
image_with_spelled [] (v ∷ row) h k key fits = absurd cc
image_with_spelled (c ∷ columns) [] h k key fits = absurd cc
image_with_spelled (c ∷ columns) (v ∷ row) h k key fits =
    let e : length (v ∷ row) ≡ length (c ∷ columns) = one_each (c ∷ columns) (v ∷ row) k in
    let below = subst (λ (n : ℕ). nulls_of (v ∷ row) < 2 ^ n) e (nulls_below (v ∷ row)) in
    let p = both (column_fits c) (list_all column_fits columns) h in
    let q = both (value_fits c.shape v) (values_fit columns row) k in
    let first = subst (λ (b : Bool). Spells (cell_form b c.shape) (value_text c.shape v) v) (sym (bit_first (is_null v) (nulls_of row))) (cell_spelled c.shape v (both _ (shape_fits c.shape) p.0).1 q.0 fits.0) in
    let others = subst (λ (n : ℕ). Spells (values_form columns n) (values_text columns row) row) (sym (bits_behind (is_null v) (nulls_of row))) (values_spelled columns row p.1 q.1 fits.1) in (
      nulls_of (v ∷ row),
      bitmap (length (v ∷ row)) (nulls_of (v ∷ row)),
      values_text (c ∷ columns) (v ∷ row),
      ((below, nulls_even (v ∷ row) key), ap (λ (n : ℕ). bitmap n (nulls_of (v ∷ row))) e),
      (v, value_text c.shape v, values_text columns row, first, (tt, [], values_text columns row, (same_self v, refl), (row, values_text columns row, [], others, (refl, refl), sym (append-nil (values_text columns row))), refl), refl),
      refl,
    )

rows_spelled : (place : ℕ) (t : Table) → length t.columns < 2 ^ 64 → Spells (rows_form place t) (rows_text place t) tt
unfolding rows_form
rows_spelled place t few =
    (tt, table_number place, _, (tt, refl), (tt, 1 ∷ 0 ∷ [], _, (tt, refl), (tt, 2 ∷ 0 ∷ [], _, (tt, refl), (length t.columns, packed_text (length t.columns), [], (few, refl), (same (length t.columns), refl), sym (append-nil (packed_text (length t.columns)))), refl), refl), refl)

write_spelled : (place : ℕ) (t : Table) (name : List ℕ) (row : List Value) → FitsRow t (Insert name row) → FitsValues row → Spells (write_form place t) (rows_body place t (Insert name row)) row
unfolding write_form
write_spelled place t name row f fits =
    let r = both (values_fit t.columns row) (not (is_null (key_of row))) f.fits in
    let few : length t.columns < 2 ^ 64 = omega (arith, f.few) in
    let image : List ℕ = image_text t.columns row in
    (tt, rows_text place t, all_present t ++ image, rows_spelled place t few, (tt, all_present t, image, (tt, refl), image_spelled t.columns row f.columns r.0 (negated (is_null (key_of row)) r.1) fits, refl), append_assoc (rows_text place t) (all_present t) image)

pub five : (a b c d e : List ℕ) → a ++ b ++ c ++ d ++ e ≡ a ++ (b ++ (c ++ (d ++ e)))
five a b c d e = simp append_assoc refl

update_spelled : (place : ℕ) (t : Table) (name : List ℕ) (row : List Value) → FitsRow t (Update name row) → FitsValues row → Spells (update_form place t) (rows_body place t (Update name row)) row
unfolding update_form
update_spelled place t name [] f fits = absurd (no_key (values_fit t.columns []) f.fits)
update_spelled place t name (v ∷ others) f fits =
    let row : List Value = v ∷ others in
    let r = both (values_fit t.columns row) (not (is_null v)) f.fits in
    let few : length t.columns < 2 ^ 64 = omega (arith, f.few) in
    let a : List ℕ = rows_text place t in
    let b : List ℕ = key_present t in
    let c : List ℕ = all_present t in
    let d : List ℕ = image_text t.columns (v ∷ []) in
    let e : List ℕ = image_text t.columns row in
    let key = key_spelled t.columns v f.columns (key_of_row t.columns v others f.fits) fits.0 in
    let image = image_with_spelled t.columns row f.columns r.0 (negated (is_null v) r.1) fits in
    (tt, a, b ++ (c ++ (d ++ e)), rows_spelled place t few, (tt, b, c ++ (d ++ e), (tt, refl), (tt, c, d ++ e, (tt, refl), (v, d, e, key, image, refl), refl), refl), five a b c d e)

delete_spelled : (place : ℕ) (t : Table) (name : List ℕ) (key : Value) → FitsRow t (Delete name key) → FitsValue key → Spells (delete_form place t) (rows_body place t (Delete name key)) key
unfolding delete_form
delete_spelled place t name key f fits =
    let few : length t.columns < 2 ^ 64 = omega (arith, f.few) in
    let image : List ℕ = image_text t.columns (key ∷ []) in
    (tt, rows_text place t, key_present t ++ image, rows_spelled place t few, (tt, key_present t, image, (tt, refl), key_spelled t.columns key f.columns f.fits fits, refl), append_assoc (rows_text place t) (key_present t) image)

-- what is due behind the description of the table
pub row_due : (schema : Schema) (place : ℕ) (c : Change) → FitsRow (table_at schema place) c → (table_at schema place).name ≡ table_name c → FitsChange c
    → IsDue (due_rows schema place (kind_of c) 0) (rows_body place (table_at schema place) c) c
row_due schema place (Insert name row) f e fits = (row, write_spelled place (table_at schema place) name row f fits, ap (λ (x : List ℕ). Insert x row) e)
row_due schema place (Update name row) f e fits = (row, update_spelled place (table_at schema place) name row f fits, ap (λ (x : List ℕ). Update x row) e)
row_due schema place (Delete name key) f e fits = (key, delete_spelled place (table_at schema place) name key f fits, ap (λ (x : List ℕ). Delete x key) e)
