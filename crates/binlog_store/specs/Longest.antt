-- The longest log that the binary log files of a content tell: its files are theirs, and with no entry more are they.
use Rattle.std.specs.Prelude.{ℕ, ◌+◌, ◌==◌, Bool, false, ◌&&◌, List, [], ◌∷◌, ◌++◌, length, drop, nat_lt, nat_le, Result, Ok, Err, if◌then◌else◌}
use Rattle.event_control.specs.ControlEvents.{opid_event_at}
use Rattle.event_control.specs.declared.faults.ControlError.{ControlError}
use Rattle.event_control.specs.declared.opid_events.OpidEvent.{OpidEvent}
use Rattle.ring_types.specs.declared.entries.Entry.{Entry}
use Rattle.ring_types.specs.declared.entries.Opid.{Opid}
use Rattle.ring_types.specs.declared.entries.Place.{Place}
use Rattle.ring_types.specs.declared.limits.TheConstants.{TERM_END}
use Rattle.ring_types.specs.declared.schemas.Schema.{Schema}
use Rattle.ring_types.specs.Logs.{last}
use Rattle.edge_traits.specs.FileStates.{Contents}
use Rattle.edge_traits.specs.declared.disks.FileId.TheVariants as file
use Rattle.entry_group.specs.Files.{files}
use Rattle.entry_group.specs.Groups.{entry_at}
use Rattle.entry_group.specs.declared.groups.EntryError.{EntryError}
use Rattle.entry_group.specs.declared.groups.EntryRead.{EntryRead}
use Rattle.entry_group.specs.Reading.{fault_at}
use Rattle.binlog_store.specs.Added.{end_of}
use Rattle.binlog_store.specs.Stands.{IsWritten, ReadsFiles, last_length}

-- ---- the longest log
-- a log that files can have, and the content's files begin with its files
pub record Tells (schema : Schema) (c : Contents) (log : List Entry) : Type 0 where
  pub written : IsWritten schema log
  pub read : ReadsFiles c 1 (files schema log)

pub record IsLongest (schema : Schema) (c : Contents) (log : List Entry) : Type 0 where
  pub told : Tells schema c log
  pub longest : (e : Entry) → Tells schema c (log ++ e ∷ []) → ⊥

-- ---- what stands behind a log
-- an entry of this opid may come behind the log (Raft): it has the next position, and its term is no lower than the last one's
abbrev pub follows : List Entry → Opid → Bool
follows log o = o.position == length log + 1 && (nat_lt (length log + 1) TERM_END && nat_le (last log).term o.term)

abbrev pub begins_next : List Entry → Result OpidEvent ControlError → Bool
begins_next log (Err fault) = false
begins_next log (Ok o) = follows log o.opid

abbrev pub group_read : Result EntryRead EntryError → Result EntryRead ℕ
group_read (Ok read) = Ok read
group_read (Err fault) = Err (fault_at fault)

-- the next group of a log, of which these bytes stand at this place; else the offset of the first event that the next group does not have there
abbrev pub next_in : Schema → List Entry → List ℕ → Place → Result EntryRead ℕ
next_in schema log bytes p = if begins_next log (opid_event_at bytes p.at) then group_read (entry_at schema bytes p) else Err 0

-- the number of the file in which a log ends, and where it ends there
abbrev pub last_file : Schema → List Entry → ℕ
last_file schema log = length (files schema log)

abbrev pub last_end : Schema → List Entry → ℕ
last_end schema log = last_length (files schema log)

-- what stands behind a log in the file in which it ends
abbrev pub rest_behind : Schema → Contents → List Entry → List ℕ
rest_behind schema c log = drop (last_end schema log) (c (file.Binlog (last_file schema log)))

abbrev pub next_behind : Schema → Contents → List Entry → Result EntryRead ℕ
next_behind schema c log = next_in schema log (rest_behind schema c log) (end_of schema log)
