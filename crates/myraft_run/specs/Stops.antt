-- Why the program stops, the status that says so, and the line that it writes to the errors.
use Rattle.std.specs.Prelude.{ℕ, List, [], ◌++◌, codes, decimal}
use Rattle.ring_types.specs.declared.rings.BuildError.{BuildError}
use Rattle.ring_types.specs.declared.rings.BuildError.TheVariants as refusal
use Rattle.ring_file.specs.declared.faults.RingError.{RingError}
use Rattle.ring_file.specs.declared.faults.RingError.TheVariants as fault
use Rattle.myraft_run.specs.declared.stops.Stop.{Stop}
use Rattle.myraft_run.specs.declared.stops.Stop.TheVariants as stop
use Rattle.myraft_run.specs.Words.{name_in}

abbrev pub status_of : Stop → ℕ
status_of (stop.NoFile file) = 3
status_of (stop.TooLarge file) = 4
status_of (stop.ReadFault file) = 5
status_of (stop.BadRing e) = 6
status_of (stop.BadLine line) = 7
status_of stop.WriteFault = 8
status_of stop.Memory = 13
status_of stop.Unbuilt = 15

-- the number of a refusal of the building, in the order in which they are tested
abbrev pub cause_word : BuildError → List ℕ
cause_word refusal.TooMany = codes "1"
cause_word refusal.TwiceNamed = codes "2"
cause_word refusal.NoRegion = codes "3"
cause_word refusal.NoVoter = codes "4"
cause_word refusal.BadSchema = codes "5"
cause_word refusal.Memory = codes "-"

-- the number of a ring file's fault, and its place
abbrev pub fault_number : RingError → List ℕ
fault_number fault.NotToml = codes "1 "
fault_number (fault.Missing place) = codes "2 "
fault_number (fault.Unknown place) = codes "3 "
fault_number (fault.Range place) = codes "4 "
fault_number (fault.Build cause) = codes "5 "
fault_number fault.Memory = codes "- "

abbrev pub fault_place : RingError → List ℕ
fault_place fault.NotToml = codes "-"
fault_place (fault.Missing place) = place
fault_place (fault.Unknown place) = place
fault_place (fault.Range place) = place
fault_place (fault.Build cause) = cause_word cause
fault_place fault.Memory = codes "-"

-- the line begins with these words, then names what is at fault, and ends
unfoldable pub head_of : Stop → List ℕ
head_of stop.Unbuilt = codes "myraft: unbuilt"
head_of (stop.NoFile file) = codes "myraft: no file "
head_of (stop.TooLarge file) = codes "myraft: file too large "
head_of (stop.ReadFault file) = codes "myraft: read fault "
head_of (stop.BadRing e) = codes "myraft: bad ring "
head_of (stop.BadLine line) = codes "myraft: bad schedule line "
head_of stop.WriteFault = codes "myraft: write fault"
head_of stop.Memory = codes "myraft: out of memory"

unfoldable pub object_of : List (List ℕ) → Stop → List ℕ
object_of words (stop.NoFile file) = name_in words file
object_of words (stop.TooLarge file) = name_in words file
object_of words (stop.ReadFault file) = name_in words file
object_of words (stop.BadRing e) = fault_number e ++ fault_place e
object_of words (stop.BadLine line) = decimal line
object_of words _ = []

-- the whole line
unfoldable pub line_of : List (List ℕ) → Stop → List ℕ
line_of words s = head_of s ++ object_of words s ++ codes "\n"
