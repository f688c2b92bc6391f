-- What is read of a text before it is tested whether it spells it: anything is read as something. Only contracts of private functions cite these.
use Rattle.std.specs.Prelude.{ℕ, ◌+◌, ◌-◌, ◌*◌, ◌^◌, ◌==◌, List, [], ◌∷◌, map, min, Option, Some, None, option_map}
use Rattle.std.specs.List.{slice_split}
use Rattle.std.specs.Option.{unwrap_or}
use Rattle.std.specs.Int.{from_be_bytes, w128}
use Rattle.uuid.specs.Text.{parsed}
use Rattle.ring_types.specs.declared.gtid_sets.Interval.{Interval}
use Rattle.ring_types.specs.declared.gtid_sets.ServerSet.{ServerSet}

-- the pieces between marks; no piece is left where nothing is
abbrev pub pieces : ℕ → List ℕ → List (List ℕ)
pieces mark bytes = slice_split (λ b. b == mark) bytes

abbrev pub pieces_left : ℕ → Option (List ℕ) → List (List ℕ)
pieces_left mark None = []
pieces_left mark (Some bytes) = pieces mark bytes

-- a number that stops at the greatest of 64 bits
abbrev pub number_after : ℕ → List ℕ → ℕ
number_after n [] = n
number_after n (d ∷ ds) = number_after (min (min (n * 10) (2 ^ 64 - 1) + (d - 48)) (2 ^ 64 - 1)) ds

abbrev pub of_ends : List (List ℕ) → Interval
of_ends [] = record { first = 0; last = 0 }
of_ends (a ∷ []) = record { first = number_after 0 a; last = number_after 0 a }
of_ends (a ∷ (b ∷ more)) = record { first = number_after 0 a; last = number_after 0 b }

abbrev pub interval_in : List ℕ → Interval
interval_in piece = of_ends (pieces 45 piece)

unfoldable pub uuid_in : List ℕ → ℕ
uuid_in piece = unwrap_or (option_map (from_be_bytes w128) (parsed piece)) 0

abbrev pub of_parts : List (List ℕ) → ServerSet
of_parts [] = record { server = 0; intervals = [] }
of_parts (u ∷ parts) = record { server = uuid_in u; intervals = map interval_in parts }

abbrev pub server_in : List ℕ → ServerSet
server_in piece = of_parts (pieces 58 piece)

abbrev pub set_in : List ℕ → List ServerSet
set_in [] = []
set_in (b ∷ bs) = map server_in (pieces 44 (b ∷ bs))
