-- No more bytes agree than there are.
use Rattle.std.proofs.Common.{◌≡◌, ℕ, ◌≤◌, ◌==◌, Bool, true, false, suc, List, [], ◌∷◌, length, drop, arith, length-drop}
use Rattle.std.specs.Prelude.{if◌then◌else◌}
use Rattle.binlog_store.specs.Damages.{agreeing}

pub agreeing_within : (a b : List ℕ) → agreeing a b ≤ length b
agreeing_within [] b = omega arith
agreeing_within (x ∷ a) [] = omega arith
agreeing_within (x ∷ a) (y ∷ b) = go (x == y) (agreeing_within a b)
  where
    go : (same : Bool) → agreeing a b ≤ length b → (if same then suc (agreeing a b) else 0) ≤ length (y ∷ b)
    go true less = omega (arith, less)
    go false less = omega arith

pub agreeing_out : (a b : List ℕ) (k : ℕ) → length b ≤ k → agreeing (drop k a) (drop k b) ≡ 0
agreeing_out a b k out = omega (arith, agreeing_within (drop k a) (drop k b), length-drop k b, out)
