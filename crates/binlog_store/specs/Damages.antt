-- Where a log is damaged on a disk: the file, and the offset in it of the first event with which no log goes on. It is told of the longest log that the files tell, up to the end that the control file names.
use Rattle.std.specs.Prelude.{◌≡◌, ℕ, suc, ◌+◌, ◌==◌, ◌⊎◌, Bool, ◌&&◌, ◌||◌, List, [], ◌∷◌, length, take, drop, nat_lt, nat_le, Option, Some, None, Result, Ok, Err, if◌then◌else◌}
use Rattle.event_frame.specs.Events.{word_in}
use Rattle.event_frame.specs.Forms.{body_of}
use Rattle.event_frame.specs.declared.field_readers.FieldFault.{FieldFault}
use Rattle.event_frame.specs.declared.field_readers.FieldFault.TheVariants.{Cut}
use Rattle.ring_types.specs.declared.entries.Entry.{Entry}
use Rattle.ring_types.specs.declared.limits.TheConstants.{LAST_FILE}
use Rattle.ring_types.specs.declared.schemas.Schema.{Schema}
use Rattle.edge_traits.specs.FileStates.{Contents}
use Rattle.edge_traits.specs.declared.disks.FileId.{FileId}
use Rattle.edge_traits.specs.declared.disks.FileId.TheVariants as file
use Rattle.control_block.specs.ControlFiles.{control_of}
use Rattle.entry_group.specs.Files.{head_after}
use Rattle.entry_group.specs.declared.groups.EntryRead.{EntryRead}
use Rattle.binlog_store.specs.Longest.{IsLongest, Tells, last_end, last_file, next_behind, rest_behind}
use Rattle.binlog_store.specs.Points.{point_form}
use Rattle.binlog_store.specs.declared.endings.Ending.{Ending}
use Rattle.binlog_store.specs.declared.endings.Ending.TheVariants.{Earlier, Reaching, TooShort}
use Rattle.binlog_store.specs.declared.points.LogPoint.{LogPoint}

-- ---- the point
-- its last file has a number that files can have, and no greater one than the greatest so far
abbrev pub may_end : LogPoint → Bool
may_end p = nat_le 1 p.file && (nat_le p.file p.highest && nat_le p.highest LAST_FILE)

abbrev pub named : Result LogPoint FieldFault → Option LogPoint
named (Ok p) = if may_end p then Some p else None
named (Err fault) = None

-- the point that the bytes of a control file name
abbrev pub point_in : List ℕ → Option LogPoint
point_in bytes = named (body_of Cut point_form bytes)

-- ---- up to the point
-- what stands before the end that a point names: the files up to its own, and that one up to the end
abbrev pub before_end : LogPoint → Contents → Contents
before_end p c (file.Binlog n) = if nat_lt n p.file then c (file.Binlog n) else if n == p.file then take p.end (c (file.Binlog n)) else []
before_end p c f = c f

-- how a file ends: another one follows it; or it is the last, and ends before the log does, or reaches so far
abbrev pub ending_of : LogPoint → Contents → ℕ → Ending
ending_of p c n = if nat_lt n p.file then Earlier else if nat_lt (length (c (file.Binlog n))) p.end then TooShort else Reaching

-- ---- heads
-- how many bytes at the front of two lists are equal
abbrev pub agreeing : List ℕ → List ℕ → ℕ
agreeing [] b = 0
agreeing (x ∷ a) [] = 0
agreeing (x ∷ a) (y ∷ b) = if x == y then suc (agreeing a b) else 0

-- where the first event of a head begins that is not there, if so many bytes of it are: the magic ends at 4, FORMAT_DESCRIPTION at 126
abbrev pub head_event : ℕ → ℕ
head_event same = if nat_lt same 4 then 0 else if nat_lt same 126 then 4 else 126

-- where the log ends within a head, the control file is at fault
abbrev pub in_head : Ending → ℕ → ℕ → ℕ → FileId × ℕ
in_head Earlier n same long = (file.Binlog n, head_event same)
in_head TooShort n same long = (file.Binlog n, head_event same)
in_head Reaching n same long = if same == long then (file.LogCtl, 0) else (file.Binlog n, head_event same)

-- file n does not begin with this head
abbrev pub head_fault : LogPoint → Contents → ℕ → List ℕ → FileId × ℕ
head_fault p c n head =
    in_head (ending_of p c n) n (agreeing (before_end p c (file.Binlog n)) head) (length (before_end p c (file.Binlog n)))

-- ---- groups
-- the event at the front of the bytes ends in them by its own size, or says a size that no event has
abbrev pub ends_within : List ℕ → Bool
ends_within bytes = nat_le 13 (length bytes) && (nat_lt (word_in bytes 9) 23 || nat_le (word_in bytes 9) (length bytes))

-- behind offset `at` of file n stand these bytes, and `off` further begins an event that the next group does not have; `whole` tells whether the log is as long as the point says. A log that ends where the point does is damaged in its length alone; and where no event is at fault that ends before that end, the group is named that is not finished
abbrev pub in_group : Ending → ℕ → ℕ → List ℕ → ℕ → Bool → Option (FileId × ℕ)
in_group Earlier n at bytes off whole = Some (file.Binlog n, at + off)
in_group TooShort n at bytes off whole = Some (file.Binlog n, at + off)
in_group Reaching n at [] off whole = if whole then None else Some (file.LogCtl, 0)
in_group Reaching n at (b ∷ bytes) off whole = Some (file.Binlog n, if ends_within (drop off (b ∷ bytes)) then at + off else at)

-- behind `at` stands the group of a Rotate, of this size, but the next file does not begin behind it: bytes stand there, or its head is at fault, or the log ends there
abbrev pub in_rotation : Ending → ℕ → ℕ → List ℕ → ℕ → FileId × ℕ → Option (FileId × ℕ)
in_rotation Earlier n at bytes size next = if nat_lt size (length bytes) then Some (file.Binlog n, at + size) else Some next
in_rotation TooShort n at bytes size next = Some (file.Binlog n, at + size)
in_rotation Reaching n at bytes size next = if nat_lt size (length bytes) then Some (file.Binlog n, at + size) else Some (file.LogCtl, 0)

abbrev pub in_next : Schema → LogPoint → Contents → List Entry → Result EntryRead ℕ → Option (FileId × ℕ)
in_next schema p c log (Err off) =
    in_group (ending_of p c (last_file schema log)) (last_file schema log) (last_end schema log) (rest_behind schema (before_end p c) log) off (length log == p.count)
in_next schema p c log (Ok read) =
    in_rotation (ending_of p c (last_file schema log)) (last_file schema log) (last_end schema log) (rest_behind schema (before_end p c) log) read.size
    (head_fault p c (last_file schema log + 1) (head_after log))

-- where the content is at fault behind the longest log that its files tell; only a Rotate's group may stand there and not be of the log
abbrev pub fault_behind : Schema → LogPoint → Contents → List Entry → Option (FileId × ℕ)
fault_behind schema p c log = in_next schema p c log (next_behind schema (before_end p c) log)

-- ---- the fault
pub record NoLogFault (schema : Schema) (p : LogPoint) (c : Contents) (f : FileId) (at : ℕ) : Type 0 where
  pub none : (log : List Entry) → Tells schema (before_end p c) log → ⊥
  pub there : (f, at) ≡ head_fault p c 1 (head_after [])

pub record LongestFault (schema : Schema) (p : LogPoint) (c : Contents) (f : FileId) (at : ℕ) : Type 0 where
  pub log : List Entry
  pub longest : IsLongest schema (before_end p c) log
  pub there : fault_behind schema p c log ≡ Some (f, at)

-- up to this point the files are damaged: they tell no log, or none that ends there
abbrev pub FilesFault : Schema → LogPoint → Contents → FileId → ℕ → Type 0
FilesFault schema p c f at = NoLogFault schema p c f at ⊎ LongestFault schema p c f at

abbrev pub PointFault : Schema → Contents → FileId → ℕ → Option LogPoint → Type 0
PointFault schema c f at None = (f ≡ file.LogCtl) × (at ≡ 0)
PointFault schema c f at (Some p) = FilesFault schema p c f at

-- a damaged control file is at fault, and one whose bytes name no point; without bytes there is no fault
abbrev pub ControlFault : Schema → Contents → FileId → ℕ → Option (Option (List ℕ)) → Type 0
ControlFault schema c f at None = (f ≡ file.LogCtl) × (at ≡ 0)
ControlFault schema c f at (Some None) = ⊥
ControlFault schema c f at (Some (Some bytes)) = PointFault schema c f at (point_in bytes)

-- the log of a content is damaged in this file, at this offset
abbrev pub LogFault : Schema → Contents → FileId → ℕ → Type 0
LogFault schema c f at = ControlFault schema c f at (control_of (c file.LogCtl))
