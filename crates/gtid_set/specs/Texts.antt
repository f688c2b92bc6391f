-- The text of a GTID set (the MySQL manual, "GTID Sets"): servers joined by commas; of each its uuid in lower case with hyphens, and a colon before each interval,
-- which is one number or its first and its last with a hyphen between. The empty set has no text.
use Rattle.std.specs.Prelude.{ℕ, ◌==◌, Bool, false, ◌&&◌, List, [], ◌∷◌, ◌++◌, if◌then◌else◌, codes, decimal, Some, None, Result, Ok, Err}
use Rattle.std.specs.List.{flat_map}
use Rattle.std.specs.Int.{to_be_bytes, w128}
use Rattle.uuid.specs.Text.{hyphenated_text, lower}
use Rattle.ring_types.specs.declared.gtid_sets.Interval.{Interval}
use Rattle.ring_types.specs.declared.gtid_sets.ServerSet.{ServerSet}
use Rattle.gtid_set.specs.declared.faults.SetError.{SetError}
use Rattle.gtid_set.specs.declared.faults.SetError.TheVariants as fault
use Rattle.gtid_set.specs.Canonical.{IsSpelled}

unfoldable pub uuid_text : ℕ → List ℕ
uuid_text server = hyphenated_text lower (to_be_bytes w128 server)

abbrev pub range_text : Interval → List ℕ
range_text i = if i.first == i.last then decimal i.first else decimal i.first ++ codes "-" ++ decimal i.last

abbrev pub interval_text : Interval → List ℕ
interval_text i = codes ":" ++ range_text i

abbrev pub server_text : ServerSet → List ℕ
server_text s = uuid_text s.server ++ flat_map interval_text s.intervals

abbrev pub after_comma : ServerSet → List ℕ
after_comma s = codes "," ++ server_text s

abbrev pub set_text : List ServerSet → List ℕ
set_text [] = []
set_text (s ∷ set) = server_text s ++ flat_map after_comma set

-- a text without one line feed behind each comma
abbrev pub unfed : Bool → List ℕ → List ℕ
unfed behind_comma [] = []
unfed behind_comma (b ∷ bs) = if behind_comma && b == 10 then unfed false bs else b ∷ unfed (b == 44) bs

abbrev pub without_feeds : List ℕ → List ℕ
without_feeds text = unfed false text

-- what is read of a text: the canonical set that it spells, or that it spells none
abbrev pub ReadsText : List ℕ → Result (List ServerSet) SetError → Type 0
ReadsText text (Ok set) = IsSpelled set_text (without_feeds text) (Some set)
ReadsText text (Err fault.NotText) = IsSpelled set_text (without_feeds text) None
ReadsText text (Err fault.NotASet) = ⊥
ReadsText text (Err fault.Memory) = Unit {0}
