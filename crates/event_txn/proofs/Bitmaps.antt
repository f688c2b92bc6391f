-- The two fields of a change's bodies that are neither texts nor numbers of a width: the number of a table, and the bits of the Nulls. Each is found exactly where it is spelled.
use Rattle.std.proofs.Common.{◌≡◌, ℕ, zero, suc, ◌+◌, ◌-◌, ◌*◌, ◌%◌, ◌^◌, ◌<◌, ◌≤◌, Bool, true, List, [], ◌∷◌, ◌++◌, length, take, drop, refl, sym, ap, ap₂, ◌∙◌, arith, inl, inr}
use Rattle.std.specs.Prelude.{◌==◌, ◌&&◌, nat_lt, nat_le, bytes_eq, replicate}
use Rattle.std.specs.Int.{w32, w64, to_le_bytes, from_le_bytes}
use Rattle.std.proofs.Math.Nat.{pow-le-pow_right}
use Rattle.std.proofs.lemmas.Bool.{cases_lt, lt-ltb, ltb-true, leb-true, le-leb, eqb-true, eq-eqb}
use Rattle.std.proofs.lemmas.List.{take_at, take-append-drop, length-append, length-take, length-replicate, get_or_append_left, get_or-append_right, get_or-replicate, get_or_past}
use Rattle.std.proofs.lemmas.Nat.{le_bytes_4, le_bytes_8, from_le_bytes-to_le_bytes_4, from_le_bytes-to_le_bytes_8}
use Rattle.std.proofs.lemmas.Slice.Eq.{bytes_eq-Decides}
use Rattle.event_frame.proofs.Forms.{IsBytes, IsField}
use Rattle.event_frame.proofs.Fields.{taken_is_field, wide32, IsBytes-take}
use Rattle.ring_types.specs.Sizes.{bitmap_size}
use Rattle.event_txn.specs.Tables.{bitmap, table_number, number_in, table_of_many}
use Rattle.event_txn.specs.Rows.{bits_in, nulls}
use Rattle.event_txn.proofs.KeyImages.{both}
use Rattle.event_txn.proofs.Lengths.{bitmap_length}

-- a number below 256^k is told by its k lowest bytes
few_bytes : (k n : ℕ) → k ≤ 8 → n < 2 ^ (8 * k) → bits_in (take k (to_le_bytes w64 n)) ≡ n
few_bytes zero n le lt = omega arith
few_bytes (suc zero) n le lt = omega arith
few_bytes (suc (suc zero)) n le lt = omega (arith, from_le_bytes-to_le_bytes_8 n (omega arith))
few_bytes (suc (suc (suc zero))) n le lt = omega (arith, from_le_bytes-to_le_bytes_8 n (omega arith))
few_bytes (suc (suc (suc (suc zero)))) n le lt = omega (arith, from_le_bytes-to_le_bytes_8 n (omega arith))
few_bytes (suc (suc (suc (suc (suc zero))))) n le lt = omega (arith, from_le_bytes-to_le_bytes_8 n (omega arith))
few_bytes (suc (suc (suc (suc (suc (suc zero)))))) n le lt = omega (arith, from_le_bytes-to_le_bytes_8 n (omega arith))
few_bytes (suc (suc (suc (suc (suc (suc (suc zero))))))) n le lt = omega (arith, from_le_bytes-to_le_bytes_8 n (omega arith))
few_bytes (suc (suc (suc (suc (suc (suc (suc (suc zero)))))))) n le lt = from_le_bytes-to_le_bytes_8 n lt
few_bytes (suc (suc (suc (suc (suc (suc (suc (suc (suc k))))))))) n le lt = absurd (omega arith)

padded_fits : (bytes : List ℕ) (m : ℕ) → IsBytes bytes → IsBytes (bytes ++ replicate m 0)
padded_fits bytes m fits i =
    elim (cases_lt i (length bytes)) [
      | inl lt ↦ rw (get_or_append_left bytes (replicate m 0) 0 i lt) (fits i)
      | inr le ↦
          rw (get_or-append_right bytes (replicate m 0) (length bytes) i 0 refl le) (elim (cases_lt (i - length bytes) m) [
            | inl lt ↦ rw (get_or-replicate {A = ℕ} m (i - length bytes) 0 0 lt) (omega arith)
            | inr past ↦ rw (get_or_past {X = ℕ} (replicate m 0) (i - length bytes) 0 (omega (arith, length-replicate {A = ℕ} m 0))) (omega arith)
          ])
    ]

-- at most eight bytes are told by their number
bytes_back : (k : ℕ) (bytes : List ℕ) → k ≤ 8 → length bytes ≡ k → IsBytes bytes → take k (to_le_bytes w64 (bits_in bytes)) ≡ bytes
bytes_back k bytes le len fits =
    let m : ℕ = 8 - length bytes in
    let padded : List ℕ = bytes ++ replicate m 0 in
    let eight : length padded ≡ 8 = omega (arith, length-append bytes (replicate m 0), length-replicate {A = ℕ} m 0, len) in
    let back : to_le_bytes w64 (bits_in bytes) ≡ padded = le_bytes_8 padded (bits_in bytes) eight (padded_fits bytes m fits) refl in
    rw back (take_at bytes (replicate m 0) k len)

bits_fit : (bits n : ℕ) → n < 2 ^ bits → n < 2 ^ (8 * bitmap_size bits)
bits_fit bits n lt =
    let le : bits ≤ 8 * bitmap_size bits = omega arith in
    let some : 0 < 2 = omega arith in
    omega (arith, lt, pow-le-pow_right {n = 2} some le)

even : (n : ℕ) → n % 2 ≡ 0 → (n % 2 == 0) ≡ true
even n e = eq-eqb (n % 2) 0 e

pub both_true : (a b : Bool) → a ≡ true → b ≡ true → (a && b) ≡ true
both_true a b h k = rw (h, k) refl

pub nulls_is_field : (bits : ℕ) → bits ≤ 64 → IsField (nulls bits)
nulls_is_field bits few = taken_is_field (bitmap_size bits) (λ bytes. nat_lt (bits_in bytes) (2 ^ bits) && (bits_in bytes % 2 == 0)) bits_in (bitmap bits) (λ n. (n < 2 ^ bits) × (n % 2 ≡ 0))
    (λ n ok.
    let back : bits_in (bitmap bits n) ≡ n = few_bytes (bitmap_size bits) n (omega arith) (bits_fit bits n ok.0) in
    (bitmap_length bits n few, rw back (both_true _ _ (lt-ltb n (2 ^ bits) ok.0) (even n ok.1)), back))
    (λ bytes len fits ok.
    let p = both (nat_lt (bits_in bytes) (2 ^ bits)) (bits_in bytes % 2 == 0) ok in
    ((ltb-true _ _ p.0, eqb-true _ _ p.1), bytes_back (bitmap_size bits) bytes (omega arith) len fits))

number_back : (place : ℕ) → place + 1 < 2 ^ 32 → number_in (table_number place) ≡ place + 1
number_back place small = from_le_bytes-to_le_bytes_4 (place + 1) small

word_small : (bytes : List ℕ) → length bytes ≡ 4 → IsBytes bytes → from_le_bytes w32 bytes < 2 ^ 32
word_small bytes len fits = wide32.below bytes len fits

pub table_is_field : (count : ℕ) → IsField (table_of_many count)
table_is_field count = taken_is_field 6 (λ bytes. bytes_eq (drop 4 bytes) (0 ∷ 0 ∷ []) && nat_le 1 (number_in bytes) && nat_le (number_in bytes) count) (λ bytes. number_in bytes - 1) table_number (λ place. (place < count) × (place + 1 < 2 ^ 32))
    (λ place ok.
    let back : number_in (table_number place) ≡ place + 1 = number_back place ok.1 in
    let one : nat_le 1 (place + 1) ≡ true = le-leb 1 (place + 1) (omega arith) in
    let most : nat_le (place + 1) count ≡ true = le-leb (place + 1) count (omega (arith, ok.0)) in
    (refl, rw (back, one, most) refl, omega (arith, back)))
    (λ bytes len fits ok.
    let p = both (bytes_eq (drop 4 bytes) (0 ∷ 0 ∷ []) && nat_le 1 (number_in bytes)) (nat_le (number_in bytes) count) ok in
    let q = both (bytes_eq (drop 4 bytes) (0 ∷ 0 ∷ [])) (nat_le 1 (number_in bytes)) p.0 in
    let some : 1 ≤ number_in bytes = leb-true _ _ q.1 in
    let most : number_in bytes ≤ count = leb-true _ _ p.1 in
    let front_fits = IsBytes-take 4 bytes fits in
    let four : length (take 4 bytes) ≡ 4 = omega (arith, length-take 4 bytes, len) in
    let front : to_le_bytes w32 (number_in bytes) ≡ take 4 bytes = le_bytes_4 (take 4 bytes) (number_in bytes) four front_fits refl in
    let small : number_in bytes < 2 ^ 32 = word_small (take 4 bytes) four front_fits in
    let again : number_in bytes - 1 + 1 ≡ number_in bytes = omega (arith, some) in
    let zeros : drop 4 bytes ≡ 0 ∷ 0 ∷ [] = (bytes_eq-Decides (drop 4 bytes) (0 ∷ 0 ∷ [])).0 q.0 in (
      (omega (arith, some, most), omega (arith, some, small)),
      ap (λ (n : ℕ). to_le_bytes w32 n ++ 0 ∷ 0 ∷ []) again ∙ ap₂ (λ (x y : List ℕ). x ++ y) front (sym zeros) ∙ take-append-drop 4 bytes,
    ))
