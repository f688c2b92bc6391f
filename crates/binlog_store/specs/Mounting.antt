-- What a mount reads of a disk, and what it leaves there.
use Rattle.std.specs.Prelude.{◌≡◌, ℕ, ◌≤◌, ◌<◌, List, Option, Some, None, Result, Ok, Err}
use Rattle.edge_traits.specs.FileStates.{Contents, Files, settled}
use Rattle.edge_traits.specs.Works.{MayIn, WorksOn}
use Rattle.edge_traits.specs.declared.disks.FileId.TheVariants as file
use Rattle.control_block.specs.ControlFiles.{control_of}
use Rattle.binlog_store.specs.Damages.{before_end, point_in}
use Rattle.binlog_store.specs.Groups.{log_files}
use Rattle.binlog_store.specs.Points.{point_bytes}
use Rattle.binlog_store.specs.Stands.{PointFits}
use Rattle.binlog_store.specs.declared.faults.StoreFault.{StoreFault}
use Rattle.binlog_store.specs.declared.faults.StoreFault.TheVariants as fault
use Rattle.binlog_store.specs.declared.points.LogPoint.{LogPoint}

-- what is read of each file
abbrev pub seen_of : Files → Contents
seen_of files f = (files f).bytes

-- as far as the control file says, both contents read the same: its bytes, and up to the end that they name the binary log files
pub record ReadAlike (b c : Contents) : Type 0 where
  pub control : control_of (b file.LogCtl) ≡ control_of (c file.LogCtl)
  pub files : (bytes : List ℕ) (p : LogPoint) → control_of (b file.LogCtl) ≡ Some (Some bytes) → point_in bytes ≡ Some p → (n : ℕ) → 1 ≤ n
      → before_end p b (file.Binlog n) ≡ before_end p c (file.Binlog n)

-- the log's files read like what a crash may leave of these
pub record ReadsAsLeft (files : Files) (c : Contents) : Type 0 where
  pub left : Contents
  pub may : MayIn log_files files left
  pub alike : ReadAlike left c

-- at each moment a crash leaves what reads like something that it might have left before, be it a log or damaged
abbrev pub Keeps : {D : Type 0} → (D → Files) → (D → ℕ) → (D → ℕ → Contents → Type 0) → D → D → Type 0
Keeps files moment left_since old new = WorksOn log_files files moment left_since old new (ReadsAsLeft (files old))

-- P tells contents apart only by what is read so
abbrev pub IsOfLog : (Contents → Type 0) → Type 0
IsOfLog P = (b c : Contents) → ReadAlike b c → P b → P c

-- the content's binary log files are those that are read
abbrev pub IsSeen : Contents → Files → Type 0
IsSeen c files = (n : ℕ) → c (file.Binlog n) ≡ (files (file.Binlog n)).bytes

-- the binary log files below this number were synced, and have the bytes that they had
abbrev pub AreRead : ℕ → Files → Files → Type 0
AreRead end old new = (n : ℕ) → 1 ≤ n → n < end → new (file.Binlog n) ≡ settled (old (file.Binlog n)).bytes

-- the binary log files have the bytes that they had
abbrev pub HaveTheirBytes : Files → Files → Type 0
HaveTheirBytes old new = (n : ℕ) → (new (file.Binlog n)).bytes ≡ (old (file.Binlog n)).bytes

-- these bytes name the point and are those of it, and a log may end there
pub record IsNamed (bytes : List ℕ) (point : LogPoint) : Type 0 where
  pub named : point_in bytes ≡ Some point
  pub is : bytes ≡ point_bytes point
  pub fits : PointFits point
  pub first : 1 ≤ point.file

abbrev pub Names : Option (List ℕ) → LogPoint → Type 0
Names None point = ⊥
Names (Some bytes) point = IsNamed bytes point

-- what is told of a control file's bytes: the point that they name, if there are any, or that they name none
abbrev pub PointTold : Option (List ℕ) → Result (Option LogPoint) StoreFault → Type 0
PointTold None told = told ≡ Ok None
PointTold (Some bytes) (Ok (Some point)) = IsNamed bytes point
PointTold (Some bytes) (Err (fault.Damaged f at)) = (point_in bytes ≡ None) × (f ≡ file.LogCtl) × (at ≡ 0)
PointTold (Some bytes) told = ⊥
