-- Reading the bytes of a text one after the other: what was read, put before what is still read, is the whole.
use Rattle.std.proofs.Common.{◌≡◌, ℕ, ◌<◌, ◌==◌, true, false, List, [], ◌∷◌, ◌++◌, length, refl, sym, ap, append_assoc, Option, Some, None, arith}
use Rattle.std.proofs.lemmas.Bool.Decides.{nat_tests}
use Rattle.schedule_text.specs.Values.{is_escaped, onto, bytes_of}

abbrev pub with_bytes : List ℕ → Option (List ℕ) → Option (List ℕ)
with_bytes front None = None
with_bytes front (Some bs) = Some (front ++ bs)

pub with_bytes-onto : (front : List ℕ) (b : ℕ) (more : Option (List ℕ)) → with_bytes front (onto (Some b) more) ≡ with_bytes (front ++ b ∷ []) more
with_bytes-onto front b None = refl
with_bytes-onto front b (Some bs) = ap (λ (x : List ℕ). Some x) (sym (append_assoc front (b ∷ []) bs))

-- a byte that is not escaped stands for itself
pub plain_step : (b : ℕ) (rest : List ℕ) → is_escaped b ≡ false → bytes_of (b ∷ rest) ≡ onto (Some b) (bytes_of rest)
plain_step b [] e = grind (arith, nat_tests)
plain_step b (x ∷ []) e = grind (arith, nat_tests)
plain_step b (x ∷ y ∷ []) e = grind (arith, nat_tests)
plain_step b (x ∷ y ∷ z ∷ rest) e = grind (arith, nat_tests)

-- an escaped byte that is no quote begins nothing, unless it is a backslash with three bytes behind it
pub escaped_none : (b : ℕ) (rest : List ℕ) → is_escaped b ≡ true → (b == 39) ≡ false → (b ≡ 92 → length rest < 3) → bytes_of (b ∷ rest) ≡ None
escaped_none b [] e q short = grind (arith, nat_tests)
escaped_none b (x ∷ []) e q short = grind (arith, nat_tests)
escaped_none b (x ∷ y ∷ []) e q short = grind (arith, nat_tests)
escaped_none b (x ∷ y ∷ z ∷ rest) e q short = grind (arith, nat_tests)
