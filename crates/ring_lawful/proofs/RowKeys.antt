-- A change of a table adds or removes the row of its own key alone, so every other key stays as it was.
use Rattle.std.proofs.Common.{◌≡◌, ℕ, ◌<◌, ◌==◌, ◌||◌, [], ◌∷◌, ◌∙◌, Bool, List, ap, arith, false, length, refl, subst, suc, sym, true, zero}
use Rattle.std.proofs.lemmas.Bool.Decides.{Decides-int_eq, nat_tests}
use Rattle.std.proofs.lemmas.Slice.Eq.{bytes_eq-Decides}
use Rattle.std.specs.Prelude.{nat_lt, slice_set}
use Rattle.ring_types.specs.declared.values.Change.{Change}
use Rattle.ring_types.specs.declared.values.Change.TheVariants.{Delete, Insert, Update}
use Rattle.ring_types.specs.declared.values.Value.{Value}
use Rattle.ring_types.specs.declared.values.Value.TheVariants as value
use Rattle.ring_types.specs.Rows.{Rows, Tables, change_key, comes_before, has_key, key_of, placed, rows_after, rows_at, same_value, with_row, without_key}

-- ---- keys
same_true : (a b : Value) → same_value a b ≡ true → a ≡ b
same_true value.Null value.Null is = refl
same_true value.Null (value.Int b) is = absurd cc
same_true value.Null (value.Text b) is = absurd cc
same_true (value.Int a) value.Null is = absurd cc
same_true (value.Int a) (value.Int b) is = ap value.Int ((Decides-int_eq a b).0 is)
same_true (value.Int a) (value.Text b) is = absurd cc
same_true (value.Text a) value.Null is = absurd cc
same_true (value.Text a) (value.Int b) is = absurd cc
same_true (value.Text a) (value.Text b) is = ap value.Text ((bytes_eq-Decides a b).0 is)

same_self : (a : Value) → same_value a a ≡ true
same_self value.Null = refl
same_self (value.Int a) = (Decides-int_eq a a).1 refl
same_self (value.Text a) = (bytes_eq-Decides a a).1 refl

pub same_turned : (a b : Value) → same_value a b ≡ false → same_value b a ≡ false
same_turned a b is = go (same_value b a) refl
  where
    go : (t : Bool) → same_value b a ≡ t → same_value b a ≡ false
    go false x = x
    go true x =
        absurd (let z : b ≡ a = same_true b a x in let y : same_value a b ≡ true = subst (λ (v : Value). same_value a v ≡ true) (sym z) (same_self a) in let q : true ≡ false = sym y ∙ is in cc)

-- ---- the keys of a table after a change
key_gone : (rs : Rows) (key : Value) → has_key (without_key rs key) key ≡ false
key_gone [] key = refl
key_gone (row ∷ rs) key = go (same_value (key_of row) key) refl (key_gone rs key)
  where
    go : (b : Bool) → same_value (key_of row) key ≡ b → has_key (without_key rs key) key ≡ false → has_key (without_key (row ∷ rs) key) key ≡ false
    go true is rest = rw is rest
    go false is rest = rw is (rw is rest)

key_left : (rs : Rows) (k key : Value) → same_value k key ≡ false → has_key (without_key rs k) key ≡ has_key rs key
key_left [] k key other = refl
key_left (row ∷ rs) k key other = go (same_value (key_of row) k) refl (key_left rs k key other)
  where
    go : (b : Bool) → same_value (key_of row) k ≡ b → has_key (without_key rs k) key ≡ has_key rs key
        → has_key (without_key (row ∷ rs) k) key ≡ has_key (row ∷ rs) key
    go true is rest =
        let z : key_of row ≡ k = same_true (key_of row) k is in
        let y : same_value (key_of row) key ≡ false = subst (λ (v : Value). same_value v key ≡ false) (sym z) other in
        rw is (rw y rest)
    go false is rest = rw is (ap (λ (b : Bool). same_value (key_of row) key || b) rest)

key_placed : (rs : Rows) (row : List Value) (key : Value) → has_key (placed rs row) key ≡ (same_value (key_of row) key || has_key rs key)
key_placed [] row key = refl
key_placed (r ∷ rs) row key = go (comes_before (key_of row) (key_of r)) refl (key_placed rs row key)
  where
    turn : (a b c : Bool) → (a || (b || c)) ≡ (b || (a || c))
    turn true true c = refl
    turn true false c = refl
    turn false true c = refl
    turn false false c = refl

    go : (b : Bool) → comes_before (key_of row) (key_of r) ≡ b → has_key (placed rs row) key ≡ (same_value (key_of row) key || has_key rs key)
        → has_key (placed (r ∷ rs) row) key ≡ (same_value (key_of row) key || has_key (r ∷ rs) key)
    go true is rest = rw is refl
    go false is rest =
        rw is (ap (λ (b : Bool). same_value (key_of r) key || b) rest ∙ turn (same_value (key_of r) key) (same_value (key_of row) key) (has_key rs key))

-- the change leaves a row of its key
abbrev pub leaves_row : Change → Bool
leaves_row (Insert name row) = true
leaves_row (Update name row) = true
leaves_row (Delete name key) = false

row_here : (rs : Rows) (row : List Value) (key : Value) → same_value (key_of row) key ≡ true → has_key (with_row rs row) key ≡ true
row_here rs row key is = key_placed (without_key rs (key_of row)) row key ∙ rw is refl

row_there : (rs : Rows) (row : List Value) (key : Value) → same_value (key_of row) key ≡ false → has_key (with_row rs row) key ≡ has_key rs key
row_there rs row key is = key_placed (without_key rs (key_of row)) row key ∙ rw is (key_left rs (key_of row) key is)

pub after_here : (rs : Rows) (c : Change) (key : Value) → same_value (change_key c) key ≡ true → has_key (rows_after rs c) key ≡ leaves_row c
after_here rs (Insert name row) key is = row_here rs row key is
after_here rs (Update name row) key is = row_here rs row key is
after_here rs (Delete name k) key is = subst (λ (v : Value). has_key (without_key rs k) v ≡ false) (same_true k key is) (key_gone rs k)

pub after_there : (rs : Rows) (c : Change) (key : Value) → same_value (change_key c) key ≡ false → has_key (rows_after rs c) key ≡ has_key rs key
after_there rs (Insert name row) key is = row_there rs row key is
after_there rs (Update name row) key is = row_there rs row key is
after_there rs (Delete name k) key is = key_left rs k key is

-- ---- the tables after one of them was set
pub set_here : (tables : Tables) (p : ℕ) (r : Rows) → p < length tables → rows_at (slice_set tables p r) p ≡ r
set_here [] p r lt = absurd (omega (arith, lt))
set_here (t ∷ tables) zero r lt = refl
set_here (t ∷ tables) (suc p) r lt = set_here tables p r (omega (arith, lt))

pub set_there : (tables : Tables) (p q : ℕ) (r : Rows) → (p == q) ≡ false → rows_at (slice_set tables p r) q ≡ rows_at tables q
set_there [] p q r other = refl
set_there (t ∷ tables) zero zero r other = absurd cc
set_there (t ∷ tables) zero (suc q) r other = refl
set_there (t ∷ tables) (suc p) zero r other = refl
set_there (t ∷ tables) (suc p) (suc q) r other = set_there tables p q r (grind (arith, nat_tests, other))

pub set_past : (tables : Tables) (p : ℕ) (r : Rows) → nat_lt p (length tables) ≡ false → rows_at (slice_set tables p r) p ≡ []
set_past [] p r past = refl
set_past (t ∷ tables) zero r past =
    absurd (let z : nat_lt zero (suc (length tables)) ≡ true = grind (arith, nat_tests) in let q : true ≡ false = sym z ∙ past in cc)
set_past (t ∷ tables) (suc p) r past = set_past tables p r (grind (arith, nat_tests, past))
