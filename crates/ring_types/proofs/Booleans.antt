-- What a test of two tests, or of two numbers, says of the two: by cases, or by the arithmetic of the test.
use Rattle.std.proofs.Common.{◌≡◌, ℕ, ◌<◌, ◌≤◌, ◌==◌, Bool, true, false, not, ◌&&◌, ◌||◌, nat_lt, nat_le, refl, arith}
use Rattle.std.proofs.lemmas.Bool.Decides.{nat_tests}

pub lt_true : (a b : ℕ) → a < b → nat_lt a b ≡ true
lt_true a b h = grind (arith, nat_tests)

pub le_true : (a b : ℕ) → a ≤ b → nat_le a b ≡ true
le_true a b h = grind (arith, nat_tests)

pub eq_true : (a : ℕ) → (a == a) ≡ true
eq_true a = grind (arith, nat_tests)

pub both_false : (a b : Bool) → (a || b) ≡ false → (a ≡ false) × (b ≡ false)
both_false false b h = (refl, h)
both_false true b h = cc

pub both_true : (a b : Bool) → (a && b) ≡ true → (a ≡ true) × (b ≡ true)
both_true true b h = (refl, h)
both_true false b h = cc

pub as_and : (a b : Bool) → a ≡ true → b ≡ true → (a && b) ≡ true
as_and a b p q = rw (p, q) refl

pub true_from_not : (a : Bool) → not a ≡ false → a ≡ true
true_from_not true h = refl
true_from_not false h = cc
