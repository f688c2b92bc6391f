-- What a canonical GTID set is: the one way to write a set as servers with their merged intervals (the MySQL manual, "GTID Sets").
use Rattle.std.specs.Prelude.{◌≡◌, ℕ, ◌+◌, ◌^◌, ◌<◌, ◌≤◌, List, [], ◌∷◌, length, Option, Some, None}
use Rattle.ring_types.specs.declared.limits.TheConstants.{LAST_GTID}
use Rattle.ring_types.specs.declared.gtid_sets.Interval.{Interval}
use Rattle.ring_types.specs.declared.gtid_sets.ServerSet.{ServerSet}

-- the intervals ascend from above a number; none is empty, and between two a number is missing
abbrev pub AreMerged : ℕ → List Interval → Type 0
AreMerged below [] = Unit {0}
AreMerged below (i ∷ is) = (below < i.first) × (i.first ≤ i.last) × (i.last ≤ LAST_GTID) × AreMerged (i.last + 1) is

-- the servers ascend from this one on, each with a number of 128 bits, and each has an interval; numbers begin at 1
abbrev pub AreCanonicalFrom : ℕ → List ServerSet → Type 0
AreCanonicalFrom low [] = Unit {0}
AreCanonicalFrom low (s ∷ set) = (low ≤ s.server) × (s.server < 2 ^ 128) × (0 < length s.intervals) × AreMerged 0 s.intervals × AreCanonicalFrom (s.server + 1) set

abbrev pub IsCanonical : List ServerSet → Type 0
IsCanonical set = AreCanonicalFrom 0 set

-- a text, in some spelling, is that of this canonical set, or of none
abbrev pub IsSpelled : (List ServerSet → List ℕ) → List ℕ → Option (List ServerSet) → Type 0
IsSpelled spell text None = (set : List ServerSet) → IsCanonical set → spell set ≡ text → ⊥
IsSpelled spell text (Some set) = IsCanonical set × (spell set ≡ text)
