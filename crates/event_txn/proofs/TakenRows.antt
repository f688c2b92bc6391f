-- What is due behind the description of a table is the body of a change that fits it.
use Rattle.std.proofs.Common.{◌≡◌, ℕ, ◌≤◌, Bool, true, false, List, [], ◌∷◌, ◌++◌, length, refl, sym, ap, ap₂, subst, ◌∙◌, append_assoc, inl, inr, ◌⊎◌}
use Rattle.std.specs.Prelude.{◌&&◌, ◌==◌, not}
use Rattle.std.proofs.lemmas.Bool.{eqb-true}
use Rattle.event_frame.specs.Forms.{Spells}
use Rattle.ring_types.specs.Rows.{is_null, key_of, values_fit, fits_table, table_name}
use Rattle.ring_types.specs.declared.values.Value.{Value}
use Rattle.ring_types.specs.declared.values.Change.{Change}
use Rattle.ring_types.specs.declared.values.Change.TheVariants.{Insert, Update, Delete}
use Rattle.ring_types.specs.declared.schemas.Table.{Table}
use Rattle.ring_types.specs.declared.schemas.Schema.{Schema}
use Rattle.event_txn.specs.Tables.{table_at}
use Rattle.event_txn.specs.Rows.{image_text, all_present, key_present, rows_text, write_form, update_form, delete_form, kind_of, rows_body}
use Rattle.event_txn.specs.Txns.{Due, Nothing, Bodies, due_if, IsDue, due_rows}
use Rattle.event_txn.specs.Laws.{FitsChange}
use Rattle.event_txn.proofs.KeyImages.{both}
use Rattle.event_txn.proofs.Bitmaps.{both_true}
use Rattle.event_txn.proofs.SpelledRows.{five}
use Rattle.event_txn.proofs.TakenBodies.{image_is, key_is, image_with_is, rows_is}

-- the body of a change that fits this table and names it
pub record RowOf (place : ℕ) (t : Table) (body : List ℕ) (c : Change) : Type 0 where
  pub body_is : body ≡ rows_body place t c
  pub fits : fits_table t c ≡ true
  pub name : table_name c ≡ t.name
  pub values : FitsChange c

write_is : (place : ℕ) (t : Table) (text : List ℕ) (row : List Value) → 1 ≤ length t.columns → Spells (write_form place t) text row → RowOf place t text (Insert t.name row)
unfolding write_form
write_is place t text row some s =
    let (u, t0, m0, f0, s1, e0) = s in
    let (a, t1, m1, f1, s2, e1) = s1 in
    let image = image_is t.columns m1 row some s2 in
    let whole : text ≡ rows_text place t ++ (all_present t ++ image_text t.columns row) = e0 ∙ ap₂ (λ (x y : List ℕ). x ++ y) (rows_is place t t0 u f0) (e1 ∙ ap₂ (λ (x y : List ℕ). x ++ y) f1.1 image.text_is) in
    record {
      body_is = whole ∙ sym (append_assoc (rows_text place t) (all_present t) (image_text t.columns row));
      fits = both_true (values_fit t.columns row) (not (is_null (key_of row))) image.fits (ap not image.key);
      name = refl;
      values = image.values;
    }

update_is : (place : ℕ) (t : Table) (text : List ℕ) (row : List Value) → 1 ≤ length t.columns → Spells (update_form place t) text row → RowOf place t text (Update t.name row)
unfolding update_form
update_is place t text row some s =
    let (u, t0, m0, f0, s1, e0) = s in
    let (a, t1, m1, f1, s2, e1) = s1 in
    let (b, t2, m2, f2, s3, e2) = s2 in
    let (key, t3, m3, f3, s4, e3) = s3 in
    let before = key_is t.columns t3 key some f3 in
    let after = image_with_is key t.columns m3 row some s4 in
    let d : List ℕ = image_text t.columns (key_of row ∷ []) in
    let e : List ℕ = image_text t.columns row in
    let key_text : t3 ≡ d = before.text_is ∙ ap (λ (k : Value). image_text t.columns (k ∷ [])) after.same in
    let whole : text ≡ rows_text place t ++ (key_present t ++ (all_present t ++ (d ++ e))) =
    e0 ∙ ap₂ (λ (x y : List ℕ). x ++ y) (rows_is place t t0 u f0) (e1 ∙ ap₂ (λ (x y : List ℕ). x ++ y) f1.1 (e2 ∙ ap₂ (λ (x y : List ℕ). x ++ y) f2.1 (e3 ∙ ap₂ (λ (x y : List ℕ). x ++ y) key_text after.image.text_is))) in
    record {
      body_is = whole ∙ sym (five (rows_text place t) (key_present t) (all_present t) d e);
      fits = both_true (values_fit t.columns row) (not (is_null (key_of row))) after.image.fits (ap not after.image.key);
      name = refl;
      values = after.image.values;
    }

delete_is : (place : ℕ) (t : Table) (text : List ℕ) (key : Value) → 1 ≤ length t.columns → Spells (delete_form place t) text key → RowOf place t text (Delete t.name key)
unfolding delete_form
delete_is place t text key some s =
    let (u, t0, m0, f0, s1, e0) = s in
    let (a, t1, m1, f1, s2, e1) = s1 in
    let k = key_is t.columns m1 key some s2 in
    let whole : text ≡ rows_text place t ++ (key_present t ++ image_text t.columns (key ∷ [])) = e0 ∙ ap₂ (λ (x y : List ℕ). x ++ y) (rows_is place t t0 u f0) (e1 ∙ ap₂ (λ (x y : List ℕ). x ++ y) f1.1 k.text_is) in
    record { body_is = whole ∙ sym (append_assoc (rows_text place t) (key_present t) (image_text t.columns (key ∷ []))); fits = k.fits; name = refl; values = k.value }

pub due_of : {A : Type 0} (test : Bool) (this other : Due A) (body : List ℕ) (a : A) → IsDue (due_if test this other) body a → ((test ≡ true) × IsDue this body a) ⊎ IsDue other body a
due_of true this other body a h = inl (refl, h)
due_of false this other body a h = inr h

pub typed : (kind flags n : ℕ) → (kind == n && flags == 0) ≡ true → (kind ≡ n) × (flags ≡ 0)
typed kind flags n h = let p = both (kind == n) (flags == 0) h in (eqb-true _ _ p.0, eqb-true _ _ p.1)

pub record RowTaken (place : ℕ) (t : Table) (kind flags : ℕ) (body : List ℕ) (c : Change) : Type 0 where
  pub kind_is : kind ≡ kind_of c
  pub flags_is : flags ≡ 0
  pub row : RowOf place t body c

pub row_taken : (schema : Schema) (place kind flags : ℕ) (body : List ℕ) (c : Change) → 1 ≤ length (table_at schema place).columns → IsDue (due_rows schema place kind flags) body c → RowTaken place (table_at schema place) kind flags body c
row_taken schema place kind flags body c some h =
    let t : Table = table_at schema place in
    let Goal : Change → Type 0 = RowTaken place t kind flags body in
    let delete : Due Change = due_if (kind == 32 && flags == 0) (Bodies (delete_form place t) (λ key. Delete t.name key)) Nothing in
    let update : Due Change = due_if (kind == 31 && flags == 0) (Bodies (update_form place t) (λ row. Update t.name row)) delete in
    elim (due_of (kind == 30 && flags == 0) (Bodies (write_form place t) (λ row. Insert t.name row)) update body c h) [
      | inl w ↦
          let k = typed kind flags 30 w.0 in
          let (row, s, e) = w.1 in
          subst Goal e (record { kind_is = k.0; flags_is = k.1; row = write_is place t body row some s })
      | inr more ↦ elim (due_of (kind == 31 && flags == 0) (Bodies (update_form place t) (λ row. Update t.name row)) delete body c more) [
        | inl w ↦
            let k = typed kind flags 31 w.0 in
            let (row, s, e) = w.1 in
            subst Goal e (record { kind_is = k.0; flags_is = k.1; row = update_is place t body row some s })
        | inr last ↦ elim (due_of (kind == 32 && flags == 0) (Bodies (delete_form place t) (λ key. Delete t.name key)) Nothing body c last) [
          | inl w ↦
              let k = typed kind flags 32 w.0 in
              let (key, s, e) = w.1 in
              subst Goal e (record { kind_is = k.0; flags_is = k.1; row = delete_is place t body key some s })
          | inr none ↦ absurd none
        ]
      ]
    ]
