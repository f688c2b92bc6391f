-- an open interval before the intervals of greater numbers
use Rattle.std.proofs.Common.{ℕ, ◌+◌, ◌==◌, List, [], ◌∷◌, if◌then◌else◌}
use Rattle.ring_types.specs.declared.gtid_sets.Interval.{Interval}

-- the open interval goes on into the first of those after it where that begins just above its end
abbrev pub led : ℕ → ℕ → List Interval → List Interval
led first last [] = record { first = first; last = last } ∷ []
led first last (i ∷ rest) = if i.first == last + 1 then record { first = first; last = i.last } ∷ rest else record { first = first; last = last } ∷ (i ∷ rest)
