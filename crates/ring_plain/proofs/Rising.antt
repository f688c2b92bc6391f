-- a number put into a list of numbers that are not above a bound
use Rattle.std.proofs.Common.{◌≡◌, ℕ, ◌<◌, ◌≤◌, ◌==◌, ◌&&◌, Bool, true, false, List, [], ◌∷◌, ◌++◌, max, nat_lt, nat_le, Result, Ok, Err, if◌then◌else◌, refl, arith}
use Rattle.std.specs.Prelude.{IfOk}
use Rattle.std.specs.List.{list_all}
use Rattle.std.proofs.lemmas.Bool.Decides.{nat_tests}
use Rattle.ring_types.specs.Gtids.{with_number}
use Rattle.ring_types.proofs.Booleans.{both_true}

abbrev are_below : ℕ → List ℕ → Bool
are_below bound xs = list_all (λ (x : ℕ). nat_le x bound) xs

pub put_last : (bound n : ℕ) (xs : List ℕ) → bound < n → are_below bound xs ≡ true → with_number n xs ≡ xs ++ n ∷ []
put_last bound n [] above h = refl
put_last bound n (x ∷ xs) above h =
    let parts = both_true (nat_le x bound) (are_below bound xs) h in
    let first : x ≤ bound = let t = parts.0 in grind (arith, nat_tests) in
    let rest = put_last bound n xs above parts.1 in
    grind (arith, nat_tests)

pub last_below : (bound n : ℕ) (xs : List ℕ) → bound < n → are_below bound xs ≡ true → are_below (max bound n) (xs ++ n ∷ []) ≡ true
last_below bound n [] above h = grind (arith, nat_tests)
last_below bound n (x ∷ xs) above h =
    let parts = both_true (nat_le x bound) (are_below bound xs) h in
    let first : nat_le x (max bound n) ≡ true = let t = parts.0 in grind (arith, nat_tests) in
    rw first (last_below bound n xs above parts.1)

put_by : (bound n x : ℕ) (xs : List ℕ) (a b : Bool) → nat_le n bound ≡ true → nat_le x bound ≡ true → are_below bound xs ≡ true → are_below bound (with_number n xs) ≡ true
    → are_below bound (if a then n ∷ (x ∷ xs) else (if b then x ∷ xs else x ∷ with_number n xs)) ≡ true
put_by bound n x xs true b within first h more = rw (within, first) h
put_by bound n x xs false true within first h more = rw first h
put_by bound n x xs false false within first h more = rw first more

put_under : (bound n : ℕ) (xs : List ℕ) → nat_le n bound ≡ true → are_below bound xs ≡ true → are_below bound (with_number n xs) ≡ true
put_under bound n [] within h = rw within refl
put_under bound n (x ∷ xs) within h =
    let parts = both_true (nat_le x bound) (are_below bound xs) h in
    put_by bound n x xs (nat_lt n x) (n == x) within parts.0 parts.1 (put_under bound n xs within parts.1)

pub put_below : (bound n : ℕ) (xs : List ℕ) → n ≤ bound → are_below bound xs ≡ true → are_below (max bound n) (with_number n xs) ≡ true
put_below bound n xs within h =
    let same : max bound n ≡ bound = omega arith in
    rw same (put_under bound n xs (grind (arith, nat_tests, within)) h)

pub put_below_ok : {E : Type 0} (bound n : ℕ) (xs : List ℕ) (r : Result (List ℕ) E) → n ≤ bound → are_below bound xs ≡ true → IfOk r (λ it. it ≡ with_number n xs)
    → IfOk r (λ it. are_below (max bound n) it ≡ true)
put_below_ok bound n xs (Ok it) within h is = rw is (put_below bound n xs within h)
put_below_ok bound n xs (Err e) within h is = tt
