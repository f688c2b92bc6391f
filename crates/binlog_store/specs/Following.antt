-- How the groups of a log are read from one file, behind each other, and from file to file. Only private contracts cite this.
use Rattle.std.specs.Prelude.{◌≡◌, ◌≢◌, ℕ, ◌+◌, ◌<◌, ◌≤◌, ◌==◌, ◌&&◌, not, nat_lt, Bool, ◌⊎◌, List, [], ◌∷◌, ◌++◌, length, drop, Option, Some, None, Result, Ok, Err, if◌then◌else◌}
use Rattle.event_frame.specs.Laws.{IsBytes}
use Rattle.ring_types.specs.declared.entries.Entry.{Entry}
use Rattle.ring_types.specs.declared.entries.Payload.TheVariants as payload
use Rattle.ring_types.specs.declared.entries.Place.{Place}
use Rattle.ring_types.specs.declared.limits.TheConstants.{TERM_END}
use Rattle.ring_types.specs.declared.schemas.Schema.{Schema}
use Rattle.ring_types.specs.Logs.{last}
use Rattle.edge_traits.specs.FileStates.{Contents}
use Rattle.edge_traits.specs.declared.disks.FileId.{FileId}
use Rattle.edge_traits.specs.declared.disks.FileId.TheVariants as file
use Rattle.entry_group.specs.Files.{head_after}
use Rattle.entry_group.specs.declared.groups.EntryError.{EntryError}
use Rattle.entry_group.specs.declared.groups.EntryError.TheVariants as error
use Rattle.entry_group.specs.declared.groups.EntryRead.{EntryRead}
use Rattle.binlog_store.specs.Damages.{agreeing, before_end, ending_of, ends_within, in_head}
use Rattle.binlog_store.specs.Faults.{damage}
use Rattle.binlog_store.specs.Longest.{Tells, last_end, last_file, next_behind, next_in, rest_behind}
use Rattle.binlog_store.specs.declared.endings.Ending.{Ending}
use Rattle.binlog_store.specs.declared.endings.Ending.TheVariants.{Earlier, Reaching, TooShort}
use Rattle.binlog_store.specs.declared.faults.StoreFault.{StoreFault}
use Rattle.binlog_store.specs.declared.points.LogPoint.{LogPoint}
use Rattle.binlog_store.specs.declared.reading.ReadFault.{ReadFault}
use Rattle.binlog_store.specs.declared.reading.ReadFault.TheVariants as fault

-- what may come behind a log (Raft): an entry of the next position and of no lower term than the last one's
pub record FollowsLog (log : List Entry) (e : Entry) : Type 0 where
  pub position : e.opid.position ≡ length log + 1
  pub short : length log + 1 < TERM_END
  pub term : (last log).term ≤ e.opid.term

abbrev pub read_fault : EntryError → ReadFault
read_fault (error.NotAnEntry at why) = fault.NotNext 0 at
read_fault error.Memory = fault.Memory

abbrev pub fault_behind : ℕ → ReadFault → ReadFault
fault_behind begin (fault.NotNext group at) = fault.NotNext (begin + group) (begin + at)
fault_behind begin fault.Memory = fault.Memory

-- the group is due at the event or before it, and the event begins there at most
abbrev pub Fits : ℕ → ReadFault → Type 0
Fits most (fault.NotNext group at) = (group ≤ at) × (at ≤ most)
Fits most fault.Memory = Unit {0}

-- the group is due before the end of so many bytes, and the event begins there at most
abbrev pub IsInside : ℕ → ReadFault → Type 0
IsInside most (fault.NotNext group at) = (group < most) × (at ≤ most)
IsInside most fault.Memory = Unit {0}

-- ---- one group
pub record IsNextRead (schema : Schema) (log : List Entry) (bytes : List ℕ) (p : Place) (size : ℕ) (longer : List Entry) : Type 0 where
  pub read : EntryRead
  pub next : next_in schema log bytes p ≡ Ok read
  pub size_is : size ≡ read.size
  pub grown : longer ≡ log ++ read.entry ∷ []

-- what is told of the next group is what stands there
abbrev pub ReadsNext : Schema → List Entry → List ℕ → Place → Result ℕ ReadFault → List Entry → Type 0
ReadsNext schema log bytes p (Ok size) longer = IsNextRead schema log bytes p size longer
ReadsNext schema log bytes p (Err (fault.NotNext group at)) longer =
    (next_in schema log bytes p ≡ Err at) × (group ≡ 0) × (at ≤ length bytes)
ReadsNext schema log bytes p (Err fault.Memory) longer = Unit {0}

-- ---- one file
-- the log is told and ends in file n, there
pub record GoesOn (schema : Schema) (c : Contents) (n : ℕ) (log : List Entry) (at : ℕ) : Type 0 where
  pub told : Tells schema c log
  pub here : last_file schema log ≡ n
  pub ends : last_end schema log ≡ at

-- the last entry of the log is a Rotate, of which the group ends in file n, there; the log before it is told
pub record IsEnded (schema : Schema) (c : Contents) (n : ℕ) (log : List Entry) (at : ℕ) : Type 0 where
  pub before : List Entry
  pub read : EntryRead
  pub on : GoesOn schema c n before (last_end schema before)
  pub next : next_behind schema c before ≡ Ok read
  pub rotate : read.entry.payload ≡ payload.Rotate
  pub in_range : IsBytes (rest_behind schema c before)
  pub grown : log ≡ before ++ read.entry ∷ []
  pub ends : at ≡ last_end schema before + read.size

abbrev pub IsWalked : Schema → Contents → ℕ → List Entry → ℕ → Type 0
IsWalked schema c n log at = GoesOn schema c n log at ⊎ IsEnded schema c n log at

-- behind the log, which is told and ends in file n, stands no next group
pub record IsRefused (schema : Schema) (c : Contents) (n : ℕ) (log : List Entry) (group at : ℕ) : Type 0 where
  pub on : GoesOn schema c n log group
  pub off : ℕ
  pub next : next_behind schema c log ≡ Err off
  pub at_is : at ≡ group + off

abbrev pub IfRefused : Schema → Contents → ℕ → List Entry → Result ℕ ReadFault → Type 0
IfRefused schema c n log (Err (fault.NotNext group at)) = IsRefused schema c n log group at
IfRefused schema c n log _ = Unit {0}

-- ---- from file to file
-- file n + 1 is due: there is no entry yet, or a Rotate ended file n, where its bytes end
abbrev pub IsBegun : Schema → Contents → ℕ → List Entry → Type 0
IsBegun schema c n log = ((n ≡ 0) × (log ≡ [])) ⊎ IsEnded schema c n log (length (c (file.Binlog n)))

-- the log's files are those of the content, all of them
pub record IsAll (schema : Schema) (p : LogPoint) (c : Contents) (log : List Entry) : Type 0 where
  pub on : GoesOn schema (before_end p c) p.file log (length (before_end p c (file.Binlog p.file)))
  pub count : length log ≡ p.count

abbrev pub ComesTo : Schema → LogPoint → Contents → ℕ → List Entry → Ending → Type 0
ComesTo schema p c n log Earlier = IsBegun schema (before_end p c) n log
ComesTo schema p c n log TooShort = ⊥
ComesTo schema p c n log Reaching = IsAll schema p c log

-- these are the bytes of the next file, up to the point, and so it ends there
pub record IsShown (schema : Schema) (p : LogPoint) (c : Contents) (n : ℕ) (log : List Entry) (shown : List ℕ) (ending : Ending) (count : ℕ) : Type 0 where
  pub within : n + 1 ≤ p.file
  pub begun : IsBegun schema (before_end p c) n log
  pub bytes : shown ≡ before_end p c (file.Binlog (n + 1))
  pub ending_is : ending ≡ ending_of p c (n + 1)
  pub count_is : count ≡ p.count

-- the file does not begin with the head that is due behind this log, and so it is at fault
pub record HasNoHead (log : List Entry) (shown : List ℕ) (ending : Ending) (n : ℕ) (f : FileId) (at : ℕ) : Type 0 where
  pub differs : agreeing shown (head_after log) ≢ length (head_after log)
  pub there : (f, at) ≡ in_head ending n (agreeing shown (head_after log)) (length shown)

-- what a file is, of which so many bytes are groups: whether a Rotate ended it, and whether the log has as many entries as it should
abbrev pub at_end : Ending → ℕ → ℕ → ℕ → Bool → Bool → Option (FileId × ℕ)
at_end Earlier n at long rotated counted = if rotated && at == long then None else Some (file.Binlog n, at)
at_end TooShort n at long rotated counted = Some (file.Binlog n, at)
at_end Reaching n at long rotated counted =
    if nat_lt at long then Some (file.Binlog n, at) else if not rotated && counted then None else Some (file.LogCtl, 0)

-- an answer that names this place, or none
abbrev pub Answers : Option (FileId × ℕ) → Result (Unit {0}) StoreFault → Type 0
Answers None result = result ≡ Ok tt
Answers (Some place) result = result ≡ Err (damage place)

-- the event that is named where the next group is due at `group`, and the event at `at` is none of it
abbrev pub group_event : Ending → ℕ → ℕ → List ℕ → ℕ
group_event Earlier group at bytes = at
group_event TooShort group at bytes = at
group_event Reaching group at bytes = if ends_within (drop at bytes) then at else group
