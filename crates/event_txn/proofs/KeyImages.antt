-- The image of the key alone: its bit is 0, and no value stands behind it.
use Rattle.std.proofs.Common.{◌≡◌, ℕ, suc, ◌≤◌, Bool, true, false, List, [], ◌∷◌, ◌++◌, length, get_or, refl, sym, ap, ◌∙◌, append_assoc, arith}
use Rattle.std.specs.Prelude.{◌&&◌, not}
use Rattle.std.proofs.lemmas.List.{append-nil}
use Rattle.ring_types.specs.Rows.{is_null, value_fits, values_fit, key_fits_in}
use Rattle.ring_types.specs.declared.values.Value.{Value}
use Rattle.ring_types.specs.declared.values.Value.TheVariants as value
use Rattle.ring_types.specs.declared.schemas.Column.{Column}
use Rattle.event_txn.specs.Rows.{value_text, values_text, image_text}

pub both : (a b : Bool) → (a && b) ≡ true → (a ≡ true) × (b ≡ true)
both true b h = (refl, h)
both false b h = absurd cc

pub no_key : (fits : Bool) → (fits && false) ≡ true → ⊥
no_key true h = cc
no_key false h = cc

no_values : (columns : List Column) → values_text columns [] ≡ []
no_values [] = refl
no_values (c ∷ columns) = refl

pub key_image : (c : Column) (columns : List Column) (key : Value) → key_fits_in (c ∷ columns) key ≡ true → image_text (c ∷ columns) (key ∷ []) ≡ 0 ∷ [] ++ value_text c.shape key
key_image c columns value.Null h = absurd (no_key (value_fits c.shape value.Null) h)
key_image c columns (value.Int n) h = ap (λ (x : List ℕ). 0 ∷ value_text c.shape (value.Int n) ++ x) (no_values columns) ∙ ap (λ (x : List ℕ). 0 ∷ x) (append-nil (value_text c.shape (value.Int n)))
key_image c columns (value.Text t) h = ap (λ (x : List ℕ). 0 ∷ value_text c.shape (value.Text t) ++ x) (no_values columns) ∙ ap (λ (x : List ℕ). 0 ∷ x) (append-nil (value_text c.shape (value.Text t)))

-- a row that fits has a value for each column
pub one_each : (columns : List Column) (row : List Value) → values_fit columns row ≡ true → length row ≡ length columns
one_each [] [] h = refl
one_each [] (v ∷ row) h = absurd cc
one_each (c ∷ columns) [] h = absurd cc
one_each (c ∷ columns) (v ∷ row) h = ap suc (one_each columns row (both (value_fits c.shape v) (values_fit columns row) h).1)

key_of_columns : (columns : List Column) (c : Column) (key : Value) → 1 ≤ length columns → c ≡ get_or columns 0 c → key_fits_in columns key ≡ true → image_text columns (key ∷ []) ≡ 0 ∷ [] ++ value_text c.shape key
key_of_columns [] c key some is h = absurd (omega (arith, some))
key_of_columns (d ∷ columns) c key some is h = key_image d columns key h ∙ ap (λ (x : Column). 0 ∷ [] ++ value_text x.shape key) (sym is)

-- the bit was put, then the value
pub key_is_put : (columns : List Column) (c : Column) (key : Value) (old mid new : List ℕ) → 1 ≤ length columns → c ≡ get_or columns 0 c → key_fits_in columns key ≡ true
    → mid ≡ old ++ 0 ∷ [] → new ≡ mid ++ value_text c.shape key → new ≡ old ++ image_text columns (key ∷ [])
key_is_put columns c key old mid new some is h m n =
    n ∙ ap (λ (x : List ℕ). x ++ value_text c.shape key) m ∙ append_assoc old (0 ∷ []) (value_text c.shape key) ∙ ap (λ (x : List ℕ). old ++ x) (sym (key_of_columns columns c key some is h))

-- the key of a row that fits may stand first
pub key_of_row : (columns : List Column) (key : Value) (row : List Value) → (values_fit columns (key ∷ row) && not (is_null key)) ≡ true → key_fits_in columns key ≡ true
key_of_row [] key row h = absurd cc
key_of_row (c ∷ columns) key row h =
    let p = both (values_fit (c ∷ columns) (key ∷ row)) (not (is_null key)) h in
    let q = both (value_fits c.shape key) (values_fit columns row) p.0 in
    rw (q.0, p.1) refl
