use Rattle.std.specs.Prelude.{◌≡◌, ℕ, ◌<◌, List, Option, Some, None, Result, Ok, Err, IsSomeAnd, length}
use Rattle.edge_traits.specs.Counts.{Rose}
use Rattle.edge_traits.specs.declared.shelves.FetchError.{FetchError}
use Rattle.edge_traits.specs.declared.shelves.FetchError.TheVariants as fetch

-- what the answer says of the file of that name, where there is one
abbrev pub FetchIs : Option (List ℕ) → ℕ → Result (List ℕ) FetchError → Type 0
FetchIs file limit (Ok bytes) = file ≡ Some bytes
FetchIs file limit (Err fetch.Absent) = file ≡ None
FetchIs file limit (Err fetch.TooLarge) = IsSomeAnd file (λ bytes. limit < length bytes)
FetchIs file limit (Err fetch.Failed) = Unit {0}
FetchIs file limit (Err fetch.Memory) = Unit {0}

-- a fault comes only where the count of faults rose
abbrev pub FetchFails : ℕ → ℕ → Result (List ℕ) FetchError → Type 0
FetchFails before now (Err fetch.Failed) = Rose before now
FetchFails before now _ = Unit {0}
