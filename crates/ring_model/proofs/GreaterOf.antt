-- The greater and the smaller of two numbers are one of the two, whichever the test picks; so what holds of both holds of either.
use Rattle.std.proofs.Common.{◌≡◌, ℕ, ◌≤◌, Bool, arith, false, refl, subst, sym, true}
use Rattle.std.specs.Prelude.{nat_le}
use Rattle.std.proofs.lemmas.Bool.Decides.{nat_tests}
use Rattle.ring_model.specs.Steps.{greater_of, smaller_of}

-- what holds of both holds of the greater
pub greater_by : (P : ℕ → Type 0) (a b : ℕ) → P a → P b → P (greater_of a b)
greater_by P a b x y = go (nat_le a b) refl
  where
    go : (c : Bool) → nat_le a b ≡ c → P (greater_of a b)
    go true is = subst P (sym (let z : greater_of a b ≡ b = rw is refl in z)) y
    go false is = subst P (sym (let z : greater_of a b ≡ a = rw is refl in z)) x

pub greater_both : (a b : ℕ) → (a ≤ greater_of a b) × (b ≤ greater_of a b)
greater_both a b = go (nat_le a b) refl
  where
    go : (c : Bool) → nat_le a b ≡ c → (a ≤ greater_of a b) × (b ≤ greater_of a b)
    go true is = rw is (grind (arith, nat_tests, is), omega arith)
    go false is = rw is (omega arith, grind (arith, nat_tests, is))

pub smaller_low : (a b : ℕ) → (smaller_of a b ≤ a) × (smaller_of a b ≤ b)
smaller_low a b = go (nat_le a b) refl
  where
    go : (c : Bool) → nat_le a b ≡ c → (smaller_of a b ≤ a) × (smaller_of a b ≤ b)
    go true is = rw is (omega arith, grind (arith, nat_tests, is))
    go false is = rw is (grind (arith, nat_tests, is), omega arith)
