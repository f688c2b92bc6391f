-- What a writer leaves of the bytes before it.
use Rattle.std.specs.Prelude.{◌≡◌, List, ℕ, ◌++◌}

-- the old bytes stand, and others may stand behind them
pub record Keeps (old new : List ℕ) : Type 0 where
  pub more : List ℕ
  pub parts : new ≡ old ++ more
