-- A number is read where its bytes were written, whatever follows: they tell it, and they are eight, or sixteen.
use Rattle.std.proofs.Common.{◌≡◌, ℕ, ◌^◌, ◌<◌, false, List, ◌++◌, length, nat_lt, Some, ap, arith}
use Rattle.std.specs.Int.{w64, w128, to_le_bytes, to_be_bytes}
use Rattle.std.proofs.lemmas.Bool.Decides.{nat_tests}
use Rattle.std.proofs.lemmas.Nat.{from_le_bytes-to_le_bytes_8}
use Rattle.uuid.proofs.OrderLemmas.{from_be_bytes-to_be_bytes_16}
use Rattle.gtid_set.specs.Bytes.{number_bytes, uuid_bytes}
use Rattle.gtid_set.specs.Reading.{number_at, uuid_at}

pub number_again : (n : ℕ) (rest : List ℕ) → n < 2 ^ 64 → number_at (number_bytes n ++ rest) ≡ Some (n, rest)
unfolding number_at number_bytes
number_again n rest fits =
    let long : nat_lt (length (to_le_bytes w64 n ++ rest)) 8 ≡ false = grind (arith, nat_tests) in
    rw long (ap (λ (m : ℕ). Some (m, rest)) (from_le_bytes-to_le_bytes_8 n fits))

pub uuid_again : (n : ℕ) (rest : List ℕ) → n < 2 ^ 128 → uuid_at (uuid_bytes n ++ rest) ≡ Some (n, rest)
unfolding uuid_at uuid_bytes
uuid_again n rest fits =
    let long : nat_lt (length (to_be_bytes w128 n ++ rest)) 16 ≡ false = grind (arith, nat_tests) in
    rw long (ap (λ (m : ℕ). Some (m, rest)) (from_be_bytes-to_be_bytes_16 n fits))
