-- What is read of bytes before it is tested whether they spell it. Only contracts of private functions cite these.
use Rattle.std.specs.Prelude.{ℕ, zero, suc, ◌+◌, ◌-◌, ◌^◌, Bool, true, ◌&&◌, List, [], ◌∷◌, ◌++◌, length, take, drop, nat_lt, nat_le, if◌then◌else◌, Option, Some, None}
use Rattle.std.specs.Int.{w64, w128, from_le_bytes, from_be_bytes}
use Rattle.ring_types.specs.declared.limits.TheConstants.{LAST_GTID}
use Rattle.ring_types.specs.declared.gtid_sets.Interval.{Interval}
use Rattle.ring_types.specs.declared.gtid_sets.ServerSet.{ServerSet}

-- a value and what stands behind it
abbrev pub Read : Type 0 → Type 0
Read X = Option (X × List ℕ)

abbrev pub and_then : {X Y : Type 0} → Read X → (X → List ℕ → Option Y) → Option Y
and_then None f = None
and_then (Some p) f = f p.0 p.1

unfoldable pub number_at : List ℕ → Read ℕ
number_at bytes = if nat_lt (length bytes) 8 then None else Some (from_le_bytes w64 (take 8 bytes), drop 8 bytes)

unfoldable pub uuid_at : List ℕ → Read ℕ
uuid_at bytes = if nat_lt (length bytes) 16 then None else Some (from_be_bytes w128 (take 16 bytes), drop 16 bytes)

abbrev pub interval_at : List ℕ → Read Interval
interval_at bytes = and_then (number_at bytes) (λ first rest. and_then (number_at rest) (λ end more. Some (record { first = first; last = end - 1 }, more)))

abbrev pub intervals_at : List Interval → ℕ → List ℕ → Read (List Interval)
intervals_at found zero bytes = Some (found, bytes)
intervals_at found (suc n) bytes = and_then (interval_at bytes) (λ i rest. intervals_at (found ++ i ∷ []) n rest)

abbrev pub server_at : List ℕ → Read ServerSet
server_at bytes =
    and_then (uuid_at bytes) (λ server rest. and_then (number_at rest) (λ count more. and_then (intervals_at [] count more) (λ is behind. Some (record { server = server; intervals = is }, behind))))

abbrev pub servers_at : List ServerSet → ℕ → List ℕ → Read (List ServerSet)
servers_at found zero bytes = Some (found, bytes)
servers_at found (suc n) bytes = and_then (server_at bytes) (λ s rest. servers_at (found ++ s ∷ []) n rest)

abbrev pub set_at : List ℕ → Read (List ServerSet)
set_at bytes = and_then (number_at bytes) (λ count rest. servers_at [] count rest)

-- ---- the test whether a list of servers is canonical
abbrev pub are_merged : ℕ → List Interval → Bool
are_merged below [] = true
are_merged below (i ∷ is) = (nat_lt below i.first && (nat_le i.first i.last && nat_le i.last LAST_GTID)) && are_merged (i.last + 1) is

abbrev pub is_whole : ℕ → ServerSet → Bool
is_whole low s = (nat_le low s.server && nat_lt s.server (2 ^ 128)) && (nat_lt 0 (length s.intervals) && are_merged 0 s.intervals)

abbrev pub are_canonical : ℕ → List ServerSet → Bool
are_canonical low [] = true
are_canonical low (s ∷ set) = is_whole low s && are_canonical (s.server + 1) set

-- the least server that may follow
abbrev pub floor : Option ℕ → ℕ
floor None = 0
floor (Some server) = server + 1
