-- A file's number is found exactly where its six digits stand, since each digit is a remainder of ten and their places add up to the number.
use Rattle.std.proofs.Common.{◌≡◌, ℕ, ◌+◌, ◌-◌, ◌*◌, ◌/◌, ◌%◌, ◌<◌, ◌≤◌, Bool, true, false, List, [], ◌∷◌, length, refl, arith}
use Rattle.std.specs.Prelude.{◌&&◌}
use Rattle.std.specs.List.{list_all}
use Rattle.std.proofs.lemmas.Bool.Decides.{nat_tests}
use Rattle.event_frame.proofs.Forms.{IsField}
use Rattle.event_frame.proofs.Fields.{taken_is_field}
use Rattle.ring_types.specs.declared.limits.TheConstants.{LAST_FILE}
use Rattle.event_control.specs.Bodies.{is_digit, digits_value, six_digits, file_number}

digit_is : (n : ℕ) → n < 10 → is_digit (48 + n) ≡ true
digit_is n lt = grind (arith, nat_tests, lt)

is_digit_of : (byte : ℕ) → is_digit byte ≡ true → (48 ≤ byte) × (byte ≤ 57)
is_digit_of byte h = grind (arith, nat_tests, h)

-- the places of six digits
places : (n : ℕ) → n ≤ 999999
    → 10 * (10 * (10 * (10 * (10 * (n / 100000 % 10) + n / 10000 % 10) + n / 1000 % 10) + n / 100 % 10) + n / 10 % 10) + n / 1 % 10 ≡ n
places n le =
    let s0 : n ≡ n / 10 * 10 + n / 1 % 10 = omega arith in
    let s1 : n / 10 ≡ n / 100 * 10 + n / 10 % 10 = omega arith in
    let s2 : n / 100 ≡ n / 1000 * 10 + n / 100 % 10 = omega arith in
    let s3 : n / 1000 ≡ n / 10000 * 10 + n / 1000 % 10 = omega arith in
    let s4 : n / 10000 ≡ n / 100000 * 10 + n / 10000 % 10 = omega arith in
    let top : n / 100000 % 10 ≡ n / 100000 = omega arith in
    omega (arith, s0, s1, s2, s3, s4, top)

both : (a b : Bool) → a && b ≡ true → (a ≡ true) × (b ≡ true)
both true b h = (refl, h)
both false b h = absurd cc

abbrev number_of : ℕ → ℕ → ℕ → ℕ → ℕ → ℕ → ℕ
number_of a b c d e f = 10 * (10 * (10 * (10 * (10 * a + b) + c) + d) + e) + f

-- the digits of a number that was made of them
again : (a b c d e f n : ℕ) → a < 10 → b < 10 → c < 10 → d < 10 → e < 10 → f < 10
    → n ≡ number_of a b c d e f
    → (n / 100000 % 10 ≡ a) × (n / 10000 % 10 ≡ b) × (n / 1000 % 10 ≡ c) × (n / 100 % 10 ≡ d) × (n / 10 % 10 ≡ e) × (n / 1 % 10 ≡ f) × (n ≤ 999999)
again a b c d e f n la lb lc ld le lf is =
    let q1 : n / 10 ≡ 10 * (10 * (10 * (10 * a + b) + c) + d) + e = omega (arith, is, lf) in
    let q2 : n / 100 ≡ 10 * (10 * (10 * a + b) + c) + d = omega (arith, is, lf, le) in
    let q3 : n / 1000 ≡ 10 * (10 * a + b) + c = omega (arith, is, lf, le, ld) in
    let q4 : n / 10000 ≡ 10 * a + b = omega (arith, is, lf, le, ld, lc) in
    let q5 : n / 100000 ≡ a = omega (arith, is, lf, le, ld, lc, lb) in (
      omega (arith, q5, la),
      omega (arith, q4, lb),
      omega (arith, q3, lc),
      omega (arith, q2, ld),
      omega (arith, q1, le),
      omega (arith, is, lf),
      omega (arith, is, la, lb, lc, ld, le, lf),
    )

digits_back : (digits : List ℕ) → length digits ≡ 6 → list_all is_digit digits ≡ true
    → (digits_value digits ≤ LAST_FILE) × (six_digits (digits_value digits) ≡ digits)
digits_back [] len h = absurd cc
digits_back (a ∷ []) len h = absurd (let k : 1 ≡ 6 = len in omega (arith, k))
digits_back (a ∷ b ∷ []) len h = absurd (let k : 2 ≡ 6 = len in omega (arith, k))
digits_back (a ∷ b ∷ c ∷ []) len h = absurd (let k : 3 ≡ 6 = len in omega (arith, k))
digits_back (a ∷ b ∷ c ∷ d ∷ []) len h = absurd (let k : 4 ≡ 6 = len in omega (arith, k))
digits_back (a ∷ b ∷ c ∷ d ∷ e ∷ []) len h = absurd (let k : 5 ≡ 6 = len in omega (arith, k))
digits_back (a ∷ b ∷ c ∷ d ∷ e ∷ f ∷ []) len h =
    let h1 = both (is_digit a) (list_all is_digit (b ∷ c ∷ d ∷ e ∷ f ∷ [])) h in
    let h2 = both (is_digit b) (list_all is_digit (c ∷ d ∷ e ∷ f ∷ [])) h1.1 in
    let h3 = both (is_digit c) (list_all is_digit (d ∷ e ∷ f ∷ [])) h2.1 in
    let h4 = both (is_digit d) (list_all is_digit (e ∷ f ∷ [])) h3.1 in
    let h5 = both (is_digit e) (list_all is_digit (f ∷ [])) h4.1 in
    let h6 = both (is_digit f) (list_all is_digit []) h5.1 in
    let ia = is_digit_of a h1.0 in
    let ib = is_digit_of b h2.0 in
    let ic = is_digit_of c h3.0 in
    let id = is_digit_of d h4.0 in
    let ie = is_digit_of e h5.0 in
    let if0 = is_digit_of f h6.0 in
    let n : ℕ = digits_value (a ∷ b ∷ c ∷ d ∷ e ∷ f ∷ []) in
    let is : n ≡ number_of (a - 48) (b - 48) (c - 48) (d - 48) (e - 48) (f - 48) = omega arith in
    let g = again (a - 48) (b - 48) (c - 48) (d - 48) (e - 48) (f - 48) n (omega (arith, ia)) (omega (arith, ib)) (omega (arith, ic)) (omega (arith, id)) (omega (arith, ie)) (omega (arith, if0)) is in
    let da : 48 + n / 100000 % 10 ≡ a = omega (arith, g.0, ia) in
    let db : 48 + n / 10000 % 10 ≡ b = omega (arith, g.1, ib) in
    let dc : 48 + n / 1000 % 10 ≡ c = omega (arith, g.2, ic) in
    let dd : 48 + n / 100 % 10 ≡ d = omega (arith, g.3, id) in
    let de : 48 + n / 10 % 10 ≡ e = omega (arith, g.4, ie) in
    let df : 48 + n / 1 % 10 ≡ f = omega (arith, g.5, if0) in
    (g.6, rw (da, db, dc, dd, de, df) refl)
digits_back (a ∷ b ∷ c ∷ d ∷ e ∷ f ∷ g ∷ digits) len h = let k : length digits + 7 ≡ 6 = omega (arith, len) in absurd (omega (arith, k))

digits_are : (n : ℕ) → list_all is_digit (six_digits n) ≡ true
digits_are n =
    let a = digit_is (n / 100000 % 10) (omega arith) in
    let b = digit_is (n / 10000 % 10) (omega arith) in
    let c = digit_is (n / 1000 % 10) (omega arith) in
    let d = digit_is (n / 100 % 10) (omega arith) in
    let e = digit_is (n / 10 % 10) (omega arith) in
    let f = digit_is (n / 1 % 10) (omega arith) in
    rw (a, b, c, d, e, f) refl

digits_there : (n : ℕ) → n ≤ LAST_FILE → digits_value (six_digits n) ≡ n
digits_there n le =
    let p = places n le in
    omega (arith, p)

pub file_number_is_field : IsField file_number
file_number_is_field = taken_is_field 6 (λ digits. list_all is_digit digits) digits_value six_digits (λ file. file ≤ LAST_FILE)
    (λ n le. (refl, digits_are n, digits_there n le))
    (λ bytes len fits ok. digits_back bytes len ok)
