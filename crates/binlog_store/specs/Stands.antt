-- The log for which the content of a disk stands: the control file says where it ends, and up to there the binary log files are those of the log.
use Rattle.std.specs.Prelude.{◌≡◌, ℕ, suc, ◌^◌, ◌<◌, ◌≤◌, List, [], ◌∷◌, length, take, Option, Some, None}
use Rattle.ring_types.specs.declared.entries.Entry.{Entry}
use Rattle.ring_types.specs.declared.limits.TheConstants.{LAST_FILE}
use Rattle.ring_types.specs.declared.schemas.Schema.{Schema}
use Rattle.ring_types.specs.Logs.{IsLog}
use Rattle.edge_traits.specs.FileStates.{Contents}
use Rattle.edge_traits.specs.declared.disks.FileId.TheVariants as file
use Rattle.control_block.specs.ControlFiles.{control_of}
use Rattle.entry_group.specs.Files.{files, first_place}
use Rattle.entry_group.specs.Laws.{AllStand}
use Rattle.binlog_store.specs.Points.{point_bytes}
use Rattle.binlog_store.specs.declared.points.LogPoint.{LogPoint}

-- a log that files can have: its entries are those of a log, and each may stand where it comes to stand
pub record IsWritten (schema : Schema) (log : List Entry) : Type 0 where
  pub is_log : IsLog log
  pub stand : AllStand schema first_place [] log

-- file n is the first of these, the next file the second, and so on; the last may go on past its bytes
abbrev pub ReadsFiles : Contents → ℕ → List (List ℕ) → Type 0
ReadsFiles c n [] = ⊥
ReadsFiles c n (bytes ∷ []) = take (length bytes) (c (file.Binlog n)) ≡ bytes
ReadsFiles c n (bytes ∷ (next ∷ more)) = (c (file.Binlog n) ≡ bytes) × ReadsFiles c (suc n) (next ∷ more)

abbrev pub last_length : List (List ℕ) → ℕ
last_length [] = 0
last_length (bytes ∷ []) = length bytes
last_length (bytes ∷ (next ∷ more)) = last_length (next ∷ more)

-- the point at which these files of a log end
abbrev pub point_at : List Entry → List (List ℕ) → ℕ → LogPoint
point_at log written highest = record { count = length log; file = length written; end = last_length written; highest = highest }

-- the numbers of a point are in range
pub record PointFits (p : LogPoint) : Type 0 where
  pub count : p.count < 2 ^ 64
  pub file : p.file ≤ p.highest
  pub end : p.end < 2 ^ 64
  pub highest : p.highest ≤ LAST_FILE

-- the control file has these bytes, which say where the log ends, and the files read so far as that
pub record LogHeld (schema : Schema) (log : List Entry) (c : Contents) (bytes : List ℕ) : Type 0 where
  pub highest : ℕ
  pub point : bytes ≡ point_bytes (point_at log (files schema log) highest)
  pub point_fits : PointFits (point_at log (files schema log) highest)
  pub written : IsWritten schema log
  pub read : ReadsFiles c 1 (files schema log)

-- a control file without bytes says the empty log, and one that is damaged none
abbrev pub LogRead : Schema → List Entry → Contents → Option (Option (List ℕ)) → Type 0
LogRead schema log c None = ⊥
LogRead schema log c (Some None) = log ≡ []
LogRead schema log c (Some (Some bytes)) = LogHeld schema log c bytes

abbrev pub LogStands : Schema → List Entry → Contents → Type 0
LogStands schema log c = LogRead schema log c (control_of (c file.LogCtl))
