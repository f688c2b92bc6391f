-- Each table has for each byte its remainder times x so often: the first by evaluation, each further one since its entries are eight steps on.
use Rattle.std.proofs.Common.{◌≡◌, ℕ, zero, suc, ◌+◌, ◌<◌, Bool, true, false, List, [], ◌∷◌, length, get_or, refl, sym, ap, ◌∙◌, arith}
use Rattle.std.specs.Prelude.{◌==◌, ◌&&◌}
use Rattle.std.proofs.lemmas.Bool.{eqb-true}
use Rattle.event_frame.specs.declared.table.TheConstants.{AFTER_ONE, AFTER_TWO, AFTER_THREE, AFTER_FOUR, AFTER_FIVE, AFTER_SIX, AFTER_SEVEN, AFTER_EIGHT}
use Rattle.event_frame.proofs.Times.{times, times-add}

-- the table has what eight steps make of each byte
pub holds_from : ℕ → List ℕ → Bool
holds_from i [] = true
holds_from i (x ∷ xs) = (x == times 8 i) && holds_from (i + 1) xs

both : (a b : Bool) → a && b ≡ true → (a ≡ true) × (b ≡ true)
both true b h = (refl, h)
both false b h = absurd cc

pub held_at : (i : ℕ) (xs : List ℕ) (k : ℕ) → holds_from i xs ≡ true → k < length xs → get_or xs k 0 ≡ times 8 (i + k)
unfolding holds_from
held_at i [] k h lt = absurd (omega arith)
held_at i (x ∷ xs) zero h lt =
    let here : x ≡ times 8 i = eqb-true _ _ (both (x == times 8 i) (holds_from (i + 1) xs) h).0 in
    here ∙ ap (times 8) (omega arith)
held_at i (x ∷ xs) (suc k) h lt = held_at (i + 1) xs k (both (x == times 8 i) (holds_from (i + 1) xs) h).1 (omega arith) ∙ ap (times 8) (omega arith)

pub table_holds : holds_from 0 AFTER_ONE ≡ true
unfolding times holds_from
table_holds = refl

-- each further table is eight steps on from the one before
pub follows : List ℕ → List ℕ → Bool
follows [] ys = true
follows (x ∷ xs) [] = false
follows (x ∷ xs) (y ∷ ys) = (y == times 8 x) && follows xs ys

pub followed_at : (xs ys : List ℕ) (k : ℕ) → follows xs ys ≡ true → k < length xs → get_or ys k 0 ≡ times 8 (get_or xs k 0)
unfolding follows
followed_at [] ys k h lt = absurd (omega arith)
followed_at (x ∷ xs) [] k h lt = absurd cc
followed_at (x ∷ xs) (y ∷ ys) zero h lt = eqb-true _ _ (both (y == times 8 x) (follows xs ys) h).0
followed_at (x ∷ xs) (y ∷ ys) (suc k) h lt = followed_at xs ys k (both (y == times 8 x) (follows xs ys) h).1 (omega arith)

pub at_one : (k : ℕ) → k < 256 → get_or AFTER_ONE k 0 ≡ times 8 k
at_one k lt = held_at 0 AFTER_ONE k table_holds lt ∙ (let e : 0 + k ≡ k = omega arith in ap (times 8) e)

next : (xs ys : List ℕ) (n k : ℕ) → follows xs ys ≡ true → k < length xs → get_or xs k 0 ≡ times n k → get_or ys k 0 ≡ times (n + 8) k
next xs ys n k h lt e = followed_at xs ys k h lt ∙ ap (times 8) e ∙ sym (times-add n 8 k)

two_follows : follows AFTER_ONE AFTER_TWO ≡ true
unfolding times follows
two_follows = refl

pub at_two : (k : ℕ) → k < 256 → get_or AFTER_TWO k 0 ≡ times 16 k
at_two k lt = next AFTER_ONE AFTER_TWO 8 k two_follows lt (at_one k lt)

three_follows : follows AFTER_TWO AFTER_THREE ≡ true
unfolding times follows
three_follows = refl

pub at_three : (k : ℕ) → k < 256 → get_or AFTER_THREE k 0 ≡ times 24 k
at_three k lt = next AFTER_TWO AFTER_THREE 16 k three_follows lt (at_two k lt)

four_follows : follows AFTER_THREE AFTER_FOUR ≡ true
unfolding times follows
four_follows = refl

pub at_four : (k : ℕ) → k < 256 → get_or AFTER_FOUR k 0 ≡ times 32 k
at_four k lt = next AFTER_THREE AFTER_FOUR 24 k four_follows lt (at_three k lt)

five_follows : follows AFTER_FOUR AFTER_FIVE ≡ true
unfolding times follows
five_follows = refl

pub at_five : (k : ℕ) → k < 256 → get_or AFTER_FIVE k 0 ≡ times 40 k
at_five k lt = next AFTER_FOUR AFTER_FIVE 32 k five_follows lt (at_four k lt)

six_follows : follows AFTER_FIVE AFTER_SIX ≡ true
unfolding times follows
six_follows = refl

pub at_six : (k : ℕ) → k < 256 → get_or AFTER_SIX k 0 ≡ times 48 k
at_six k lt = next AFTER_FIVE AFTER_SIX 40 k six_follows lt (at_five k lt)

seven_follows : follows AFTER_SIX AFTER_SEVEN ≡ true
unfolding times follows
seven_follows = refl

pub at_seven : (k : ℕ) → k < 256 → get_or AFTER_SEVEN k 0 ≡ times 56 k
at_seven k lt = next AFTER_SIX AFTER_SEVEN 48 k seven_follows lt (at_six k lt)

eight_follows : follows AFTER_SEVEN AFTER_EIGHT ≡ true
unfolding times follows
eight_follows = refl

pub at_eight : (k : ℕ) → k < 256 → get_or AFTER_EIGHT k 0 ≡ times 64 k
at_eight k lt = next AFTER_SEVEN AFTER_EIGHT 56 k eight_follows lt (at_seven k lt)
