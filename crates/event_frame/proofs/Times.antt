-- A remainder is linear in what is added above its lowest bits: so its bits may be taken in at once.
use Rattle.std.proofs.Common.{◌≡◌, ◌≢◌, ℕ, zero, suc, ◌+◌, ◌*◌, ◌/◌, ◌%◌, ◌^◌, ◌<◌, Bool, true, false, cond, List, [], ◌∷◌, length, refl, sym, ap, ap₂, ◌∙◌, arith}
use Rattle.std.specs.Prelude.{bit_xor, fold, ◌==◌}
use Rattle.std.specs.Int.Bits.{xor_self, xor_assoc, xor_zero_r, xor_zero_l}
use Rattle.std.proofs.Math.Nat.{pow-suc, mul_assoc}
use Rattle.std.proofs.lemmas.Nat.{shr_split, mod_below, pow_pos, xor_comm, xor_shr, xor_mod, xor_block}
use Rattle.std.proofs.lemmas.Bool.{eqb-true, eqb-false}
use Rattle.event_frame.specs.Checksums.{polynomial, times_x, with_bit, bits_of}

-- n times x
unfoldable pub times : ℕ → ℕ → ℕ
times zero r = r
times (suc n) r = times n (times_x r)

even : (y : ℕ) → y * 2 % 2 ≡ 0
even y = omega arith

half : (y : ℕ) → y * 2 / 2 ≡ y
half y = omega arith

xor_low : (r y : ℕ) → bit_xor r (y * 2) % 2 ≡ r % 2
xor_low r y = xor_mod r (y * 2) 1 ∙ ap (bit_xor (r % 2)) (even y) ∙ xor_zero_r (r % 2)

xor_high : (r y : ℕ) → bit_xor r (y * 2) / 2 ≡ bit_xor (r / 2) y
xor_high r y = xor_shr r (y * 2) 1 ∙ ap (bit_xor (r / 2)) (half y)

pub swap_last : (a b c : ℕ) → bit_xor (bit_xor a b) c ≡ bit_xor (bit_xor a c) b
swap_last a b c = xor_assoc a b c ∙ ap (bit_xor a) (xor_comm b c) ∙ sym (xor_assoc a c b)

times_x-cases : (b : Bool) (h y : ℕ) → cond b (bit_xor (bit_xor h y) polynomial) (bit_xor h y) ≡ bit_xor (cond b (bit_xor h polynomial) h) y
times_x-cases true h y = swap_last h y polynomial
times_x-cases false h y = refl

-- what is added above the lowest bit comes down by one
pub times_x-above : (r y : ℕ) → times_x (bit_xor r (y * 2)) ≡ bit_xor (times_x r) y
times_x-above r y = rw (xor_low r y, xor_high r y) (times_x-cases (r % 2 == 1) (r / 2) y)

shift_suc : (y n : ℕ) → y * 2 ^ suc n ≡ y * 2 ^ n * 2
shift_suc y n = ap (λ (x : ℕ). y * x) (pow-suc 2 n) ∙ sym (mul_assoc y (2 ^ n) 2)

pub times-above : (n r y : ℕ) → times n (bit_xor r (y * 2 ^ n)) ≡ bit_xor (times n r) y
unfolding times
times-above zero r y = ap (bit_xor r) (omega arith)
times-above (suc n) r y = rw (shift_suc y n) (ap (times n) (times_x-above r (y * 2 ^ n)) ∙ times-above n (times_x r) y)

-- a number is its lowest bits, and what stands above them
pub xor_parts : (k n : ℕ) → bit_xor (n % 2 ^ k) (n / 2 ^ k * 2 ^ k) ≡ n
xor_parts k n =
    let low : n % 2 ^ k < 2 ^ k = mod_below n (2 ^ k) (pow_pos k) in
    let e : bit_xor (0 * 2 ^ k + n % 2 ^ k) (n / 2 ^ k * 2 ^ k + 0) ≡ bit_xor 0 (n / 2 ^ k) * 2 ^ k + bit_xor (n % 2 ^ k) 0 = xor_block k 0 (n / 2 ^ k) (n % 2 ^ k) 0 low (pow_pos k) in
    let l : 0 * 2 ^ k + n % 2 ^ k ≡ n % 2 ^ k = omega arith in
    let h : n / 2 ^ k * 2 ^ k + 0 ≡ n / 2 ^ k * 2 ^ k = omega arith in
    ap₂ bit_xor (sym l) (sym h) ∙ e ∙ ap₂ (λ (x y : ℕ). x * 2 ^ k + y) (xor_zero_l (n / 2 ^ k)) (xor_zero_r (n % 2 ^ k)) ∙ shr_split n k

-- the bits one by one, or all at once
pub bits_at_once : (n r b : ℕ) → b < 2 ^ n → fold with_bit r (bits_of n b) ≡ times n (bit_xor r b)
unfolding times bits_of
bits_at_once zero r b lt = let e : b ≡ 0 = omega arith in rw e (sym (xor_zero_r r))
bits_at_once (suc n) r b lt =
    let two : 2 ^ suc n ≡ 2 ^ n * 2 = pow-suc 2 n in
    let small : b / 2 < 2 ^ n = omega (arith, two) in
    let parts : bit_xor (b % 2) (b / 2 * 2) ≡ b = xor_parts 1 b in
    bits_at_once n (times_x (bit_xor r (b % 2))) (b / 2) small
    ∙ ap (times n) (sym (times_x-above (bit_xor r (b % 2)) (b / 2)) ∙ ap times_x (xor_assoc r (b % 2) (b / 2 * 2) ∙ ap (bit_xor r) parts))

-- a byte at once: what stands above the lowest eight bits comes down
pub byte_at_once : (r b : ℕ) → b < 256 → fold with_bit r (bits_of 8 b) ≡ bit_xor (times 8 (bit_xor r b % 256)) (r / 256)
byte_at_once r b lt =
    let c : ℕ = bit_xor r b in
    let high : c / 2 ^ 8 ≡ r / 256 = xor_shr r b 8 ∙ (let z : b / 2 ^ 8 ≡ 0 = omega arith in ap (bit_xor (r / 2 ^ 8)) z ∙ xor_zero_r (r / 2 ^ 8)) in
    bits_at_once 8 r b lt ∙ ap (times 8) (sym (xor_parts 8 c)) ∙ times-above 8 (c % 2 ^ 8) (c / 2 ^ 8) ∙ ap (bit_xor (times 8 (c % 2 ^ 8))) high

pub times-add : (m n r : ℕ) → times (m + n) r ≡ times n (times m r)
unfolding times
times-add zero n r = let e : zero + n ≡ n = omega arith in ap (λ (k : ℕ). times k r) e
times-add (suc m) n r = let e : suc m + n ≡ suc (m + n) = omega arith in ap (λ (k : ℕ). times k r) e ∙ times-add m n (times_x r)

swap_inner : (a b c d : ℕ) → bit_xor (bit_xor a b) (bit_xor c d) ≡ bit_xor (bit_xor a c) (bit_xor b d)
swap_inner a b c d = sym (xor_assoc (bit_xor a b) c d) ∙ ap (λ (x : ℕ). bit_xor x d) (swap_last a b c) ∙ xor_assoc (bit_xor a c) b d

both_odd : (h k : ℕ) → bit_xor (bit_xor h polynomial) (bit_xor k polynomial) ≡ bit_xor h k
both_odd h k = swap_inner h polynomial k polynomial ∙ ap (bit_xor (bit_xor h k)) (xor_self polynomial) ∙ xor_zero_r (bit_xor h k)

one_bit : (a : ℕ) (p : Bool) → (a % 2 == 1) ≡ p → a % 2 ≡ cond p 1 0
one_bit a true e = eqb-true (a % 2) 1 e
one_bit a false e = let h : a % 2 ≢ 1 = eqb-false (a % 2) 1 e in omega arith

-- times x is linear
times_x-parts : (a b : ℕ) (p q : Bool) → (a % 2 == 1) ≡ p → (b % 2 == 1) ≡ q → times_x (bit_xor a b) ≡ bit_xor (times_x a) (times_x b)
times_x-parts a b true true ep eq =
    let low : bit_xor a b % 2 ≡ 0 = xor_mod a b 1 ∙ ap₂ bit_xor (one_bit a true ep) (one_bit b true eq) in
    rw (low, ep, eq) (xor_shr a b 1 ∙ sym (both_odd (a / 2) (b / 2)))
times_x-parts a b true false ep eq =
    let low : bit_xor a b % 2 ≡ 1 = xor_mod a b 1 ∙ ap₂ bit_xor (one_bit a true ep) (one_bit b false eq) in
    rw (low, ep, eq) (ap (λ (x : ℕ). bit_xor x polynomial) (xor_shr a b 1) ∙ swap_last (a / 2) (b / 2) polynomial)
times_x-parts a b false true ep eq =
    let low : bit_xor a b % 2 ≡ 1 = xor_mod a b 1 ∙ ap₂ bit_xor (one_bit a false ep) (one_bit b true eq) in
    rw (low, ep, eq) (ap (λ (x : ℕ). bit_xor x polynomial) (xor_shr a b 1) ∙ xor_assoc (a / 2) (b / 2) polynomial)
times_x-parts a b false false ep eq =
    let low : bit_xor a b % 2 ≡ 0 = xor_mod a b 1 ∙ ap₂ bit_xor (one_bit a false ep) (one_bit b false eq) in
    rw (low, ep, eq) (xor_shr a b 1)

pub times_x-linear : (a b : ℕ) → times_x (bit_xor a b) ≡ bit_xor (times_x a) (times_x b)
times_x-linear a b = times_x-parts a b (a % 2 == 1) (b % 2 == 1) refl refl

-- what the remainder was before goes on by itself
pub fold-linear : (bits : List ℕ) (u v : ℕ) → fold with_bit (bit_xor u v) bits ≡ bit_xor (times (length bits) u) (fold with_bit v bits)
unfolding times
fold-linear [] u v = refl
fold-linear (b ∷ bits) u v =
    let one : with_bit (bit_xor u v) b ≡ bit_xor (times_x u) (with_bit v b) = ap times_x (xor_assoc u v b) ∙ times_x-linear u (bit_xor v b) in
    ap (λ (r : ℕ). fold with_bit r bits) one ∙ fold-linear bits (times_x u) (with_bit v b)
