-- The map's orders tie exactly the equal texts and the equal values, so that what it has at a key is what a look-up by equality finds.
use Rattle.std.proofs.Common.{◌≡◌, ℕ, Bool, true, cond, List, [], ◌∷◌, Option, Some, refl, sym, ◌∙◌, ap, ap₂}
use Rattle.std.specs.Prelude.{bytes_eq}
use Rattle.std.specs.BTreeMap.{is_at}
use Rattle.std.specs.Cmp.{int_eq_equiv}
use Rattle.std.specs.Cmp.Lexicographic.{slice_cmp, nat_list_eq_equiv}
use Rattle.std.specs.Map.{lookup}
use Rattle.std.specs.Ordering.{is_eq, nat_cmp}
use Rattle.std.specs.declared.cmp.Ordering.{Ordering}
use Rattle.std.proofs.lemmas.Bool.Decides.{Decides-int_eq}
use Rattle.std.proofs.lemmas.Map.Text.{is_eq-slice_cmp}
use Rattle.std.proofs.lemmas.Slice.Eq.{bytes_eq-Decides}
use Rattle.ring_types.specs.Rows.{same_value}
use Rattle.ring_types.specs.contracts.values.ValueOrd.TheImpl as value_ord
use Rattle.ring_types.specs.declared.values.Value.{Value}
use Rattle.ring_types.specs.declared.values.Value.TheVariants as value

-- ---- values
abbrev pub value_cmp : Value → Value → Ordering
value_cmp = (value_ord.ghosts).cmp

pub values_tie : (a b : Value) → is_eq (value_cmp a b) ≡ same_value a b
values_tie value.Null value.Null = refl
values_tie value.Null (value.Int n) = refl
values_tie value.Null (value.Text t) = refl
values_tie (value.Int m) value.Null = refl
values_tie (value.Int m) (value.Int n) = refl
values_tie (value.Int m) (value.Text t) = refl
values_tie (value.Text s) value.Null = refl
values_tie (value.Text s) (value.Int n) = refl
values_tie (value.Text s) (value.Text t) = is_eq-slice_cmp s t

pub values_turn : (a b : Value) → same_value a b ≡ same_value b a
values_turn value.Null value.Null = refl
values_turn value.Null (value.Int n) = refl
values_turn value.Null (value.Text t) = refl
values_turn (value.Int m) value.Null = refl
values_turn (value.Int m) (value.Int n) = int_eq_equiv.symm m n
values_turn (value.Int m) (value.Text t) = refl
values_turn (value.Text s) value.Null = refl
values_turn (value.Text s) (value.Int n) = refl
values_turn (value.Text s) (value.Text t) = nat_list_eq_equiv.symm s t

pub values_same : (a b : Value) → same_value a b ≡ true → a ≡ b
values_same value.Null value.Null is = refl
values_same value.Null (value.Int n) is = absurd cc
values_same value.Null (value.Text t) is = absurd cc
values_same (value.Int m) value.Null is = absurd cc
values_same (value.Int m) (value.Int n) is = ap (λ k. value.Int k) ((Decides-int_eq m n).0 is)
values_same (value.Int m) (value.Text t) is = absurd cc
values_same (value.Text s) value.Null is = absurd cc
values_same (value.Text s) (value.Int n) is = absurd cc
values_same (value.Text s) (value.Text t) is = ap (λ k. value.Text k) ((bytes_eq-Decides s t).0 is)

-- ---- texts
pub texts_turn : (a b : List ℕ) → bytes_eq a b ≡ bytes_eq b a
texts_turn a b = nat_list_eq_equiv.symm a b

pub texts_same : (a b : List ℕ) → bytes_eq a b ≡ true → a ≡ b
texts_same a b is = (bytes_eq-Decides a b).0 is

-- ---- look-ups
alike : {K X : Type 0} (f g : K → Bool) → ((k : K) → f k ≡ g k) → (es : List (K × X)) → lookup f es ≡ lookup g es
alike f g same [] = refl
alike f g same (e ∷ es) = ap₂ (λ b o. cond b (Some e.1) o) (same e.0) (alike f g same es)

module _ {K X : Type 0} (cmp : K → K → Ordering) (same : K → K → Bool) (tie : (a b : K) → is_eq (cmp a b) ≡ same a b)
    (turn : (a b : K) → same a b ≡ same b a) where
  found_by : (k : K) (es : List (K × X)) → lookup (is_at (cmp k)) es ≡ lookup (same k) es
  found_by k es = alike (is_at (cmp k)) (same k) (tie k) es

  updated_by : (old new : List (K × X)) (k : K) (w : Option X)
      → ((q : K) → lookup (is_at (cmp q)) new ≡ cond (is_at (cmp k) q) w (lookup (is_at (cmp q)) old)) → (q : K)
      → lookup (same q) new ≡ cond (same q k) w (lookup (same q) old)
  updated_by old new k w update q = sym (found_by q new) ∙ update q ∙ ap₂ (λ b o. cond b w o) (tie k q ∙ turn k q) (found_by q old)

pub text_found : {X : Type 0} (t : List ℕ) (es : List (List ℕ × X)) → lookup (is_at (slice_cmp nat_cmp t)) es ≡ lookup (bytes_eq t) es
text_found = found_by (slice_cmp nat_cmp) bytes_eq is_eq-slice_cmp texts_turn

pub text_updated : {X : Type 0} (old new : List (List ℕ × X)) (t : List ℕ) (w : Option X)
    → ((q : List ℕ) → lookup (is_at (slice_cmp nat_cmp q)) new ≡ cond (is_at (slice_cmp nat_cmp t) q) w (lookup (is_at (slice_cmp nat_cmp q)) old))
    → (q : List ℕ)
    → lookup (bytes_eq q) new ≡ cond (bytes_eq q t) w (lookup (bytes_eq q) old)
text_updated = updated_by (slice_cmp nat_cmp) bytes_eq is_eq-slice_cmp texts_turn

pub value_found : {X : Type 0} (v : Value) (es : List (Value × X)) → lookup (is_at (value_cmp v)) es ≡ lookup (same_value v) es
value_found = found_by value_cmp same_value values_tie values_turn

pub value_updated : {X : Type 0} (old new : List (Value × X)) (v : Value) (w : Option X)
    → ((q : Value) → lookup (is_at (value_cmp q)) new ≡ cond (is_at (value_cmp v) q) w (lookup (is_at (value_cmp q)) old)) → (q : Value)
    → lookup (same_value q) new ≡ cond (same_value q v) w (lookup (same_value q) old)
value_updated = updated_by value_cmp same_value values_tie values_turn
