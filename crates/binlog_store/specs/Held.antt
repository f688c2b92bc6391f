-- A log in memory, with its end. Only private contracts and the store's invariant cite this.
use Rattle.std.specs.Prelude.{◌≡◌, ◌≤◌, ◌+◌, ℕ, List, [], ◌∷◌, ◌++◌, IfSome, length, max}
use Rattle.ring_types.specs.declared.entries.Entry.{Entry}
use Rattle.ring_types.specs.declared.entries.Place.{Place}
use Rattle.ring_types.specs.declared.limits.TheConstants.{LAST_GTID}
use Rattle.ring_types.specs.declared.schemas.Schema.{Schema}
use Rattle.ring_types.specs.declared.values.Gtid.{Gtid}
use Rattle.ring_types.specs.Gtids.{gtid_of, gtids, gtids_in}
use Rattle.gtid_set.specs.Laws.{AreInRange}
use Rattle.entry_group.specs.Files.{files, files_from, head_after, place_behind}
use Rattle.binlog_store.specs.Added.{end_of, reach}
use Rattle.binlog_store.specs.Stands.{last_length}
use Rattle.binlog_store.specs.declared.ends.LogEnd.{LogEnd}
use Rattle.binlog_store.specs.declared.held.Growing.{Growing}
use Rattle.binlog_store.specs.declared.held.HeldLog.{HeldLog}
use Rattle.binlog_store.specs.declared.points.LogPoint.{LogPoint}

-- the entry's number, if it has one, is one that a transaction may have
abbrev pub IsNumbered : Entry → Type 0
IsNumbered e = IfSome (gtid_of e) (λ (g : Gtid). (1 ≤ g.number) × (g.number ≤ LAST_GTID))

-- the end of this log, which ends where its last file does; its GTIDs are in range
pub record IsEnd (schema : Schema) (log : List Entry) (end : LogEnd) : Type 0 where
  pub in_range : AreInRange (gtids_in log)
  pub set_is : end.gtids ≡ gtids log
  pub place_is : end.place ≡ end_of schema log
  pub at_is : end.place.at ≡ last_length (files schema log)

-- what is kept beside the entries is the end that they make
abbrev pub IsHeldLog : Schema → HeldLog → Type 0
IsHeldLog schema held = IsEnd schema held.entries held.end

-- the place behind an entry, and it is where the file ends in which the entry comes to stand or which it begins
pub record IsBehind (schema : Schema) (place : Place) (before : List Entry) (e : Entry) (behind : Place) : Type 0 where
  pub place_is : behind ≡ place_behind schema before e place
  pub at_is : behind.at ≡ reach place.at (files_from schema place before (e ∷ []))

-- the files, the one that goes on last
abbrev pub files_of : Growing → List (List ℕ)
files_of growing = growing.ended ++ growing.current.items ∷ []

-- where the log ends, if files of no greater number than this were begun before
abbrev pub point_of : HeldLog → ℕ → LogPoint
point_of held highest = record { count = length held.entries; file = held.end.place.file; end = held.end.place.at; highest = max highest held.end.place.file }

-- the log ends behind the head of the next file
pub record IsNextFile (place : Place) (held : HeldLog) : Type 0 where
  pub number : held.end.place.file ≡ place.file + 1
  pub at_is : held.end.place.at ≡ length (head_after held.entries)

-- the log ends in this file, there, and has so many entries
pub record IsLastFile (place : Place) (at count : ℕ) (held : HeldLog) : Type 0 where
  pub number : held.end.place.file ≡ place.file
  pub at_is : held.end.place.at ≡ at
  pub count_is : length held.entries ≡ count

-- the log ends at the point
pub record EndsThere (point : LogPoint) (held : HeldLog) : Type 0 where
  pub number : held.end.place.file ≡ point.file
  pub at_is : held.end.place.at ≡ point.end
  pub count_is : length held.entries ≡ point.count
