-- The bytes of a GTID set, as MySQL's PREVIOUS_GTIDS event has them.
--   count of servers   8 bytes, lowest first
--   each server        its uuid, 16 bytes, highest first; its count of intervals, 8 bytes, lowest first
--   each interval      its first number and the number behind its last, 8 bytes each, lowest first
use Rattle.std.specs.Prelude.{ℕ, ◌+◌, List, ◌++◌, length, Some, None, Result, Ok, Err}
use Rattle.std.specs.List.{flat_map}
use Rattle.std.specs.Int.{w64, w128, to_le_bytes, to_be_bytes}
use Rattle.ring_types.specs.declared.gtid_sets.Interval.{Interval}
use Rattle.ring_types.specs.declared.gtid_sets.ServerSet.{ServerSet}
use Rattle.gtid_set.specs.declared.faults.SetError.{SetError}
use Rattle.gtid_set.specs.declared.faults.SetError.TheVariants as fault
use Rattle.gtid_set.specs.Canonical.{IsSpelled}

-- a number in eight bytes, and a server's in sixteen
unfoldable pub number_bytes : ℕ → List ℕ
number_bytes n = to_le_bytes w64 n

unfoldable pub uuid_bytes : ℕ → List ℕ
uuid_bytes server = to_be_bytes w128 server

abbrev pub interval_bytes : Interval → List ℕ
interval_bytes i = number_bytes i.first ++ number_bytes (i.last + 1)

abbrev pub server_bytes : ServerSet → List ℕ
server_bytes s = uuid_bytes s.server ++ (number_bytes (length s.intervals) ++ flat_map interval_bytes s.intervals)

abbrev pub set_bytes : List ServerSet → List ℕ
set_bytes set = number_bytes (length set) ++ flat_map server_bytes set

-- what is read of some bytes: the canonical set that has them, or that none has
abbrev pub ReadsBytes : List ℕ → Result (List ServerSet) SetError → Type 0
ReadsBytes bytes (Ok set) = IsSpelled set_bytes bytes (Some set)
ReadsBytes bytes (Err fault.NotASet) = IsSpelled set_bytes bytes None
ReadsBytes bytes (Err fault.NotText) = ⊥
ReadsBytes bytes (Err fault.Memory) = Unit {0}
