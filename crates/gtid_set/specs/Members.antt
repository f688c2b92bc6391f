-- What a change makes of a set's members: of which GTIDs it has, whatever the intervals that say so.
use Rattle.std.specs.Prelude.{◌≡◌, ℕ, ◌==◌, not, ◌&&◌, ◌||◌, List}
use Rattle.ring_types.specs.declared.gtid_sets.ServerSet.{ServerSet}
use Rattle.ring_types.specs.Gtids.{has}

-- a set has what another has and one GTID besides
abbrev pub HasAlso : List ServerSet → ℕ → ℕ → List ServerSet → Type 0
HasAlso old server number new = (s n : ℕ) → has new s n ≡ (has old s n || (s == server && n == number))

-- a set has what another has but for one GTID
abbrev pub HasAllBut : List ServerSet → ℕ → ℕ → List ServerSet → Type 0
HasAllBut old server number new = (s n : ℕ) → has new s n ≡ (has old s n && not (s == server && n == number))

-- a set has what one of two has
abbrev pub HasBoth : List ServerSet → List ServerSet → List ServerSet → Type 0
HasBoth a b new = (s n : ℕ) → has new s n ≡ (has a s n || has b s n)
