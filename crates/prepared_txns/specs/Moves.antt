-- Pairs that move down in their list, since some before them are gone. Only private contracts cite this.
use Rattle.std.specs.Prelude.{◌≡◌, ℕ, ◌+◌, List, [], ◌∷◌, ◌++◌, length, take, drop, slice_get, Some}
use Rattle.ring_types.specs.declared.entries.Pair.{Pair}

-- the pair at `from` stands at `to`, those before `to` and those behind `from` stay
pub record MovesDown (from to : ℕ) (old new : List Pair) : Type 0 where
  pub front : (p : Pair) → slice_get old from ≡ Some p → take (to + 1) new ≡ take to old ++ p ∷ []
  pub rest : drop (from + 1) new ≡ drop (from + 1) old
  pub long : length new ≡ length old
