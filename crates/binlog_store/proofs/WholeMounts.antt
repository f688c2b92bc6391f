-- What the parts of a mount bring makes its whole: the log stands on the disk as it was found, and the disk holds it now.
use Rattle.std.proofs.Common.{◌≡◌, ℕ, List, Option, Some, None, Result, Ok, Err, sym, ap, subst, ◌∙◌}
use Rattle.std.specs.Prelude.{IfOk}
use Rattle.ring_types.specs.declared.schemas.Schema.{Schema}
use Rattle.edge_traits.specs.DiskCalls.{Elsewhere}
use Rattle.edge_traits.specs.FileStates.{Contents, FileState, Files}
use Rattle.edge_traits.specs.Works.{Holds, IsTelling, Telling}
use Rattle.edge_traits.specs.declared.disks.FileId.{FileId}
use Rattle.edge_traits.specs.declared.disks.FileId.TheVariants as file
use Rattle.control_block.specs.ControlFiles.{control_of}
use Rattle.control_block.specs.declared.blocks.ControlBlock.{ControlBlock}
use Rattle.entry_group.specs.Files.{files}
use Rattle.binlog_store.specs.Damages.{ControlFault, FilesFault, LogFault, PointFault}
use Rattle.binlog_store.specs.Groups.{log_files}
use Rattle.binlog_store.specs.Mounted.{IsMounted, IsStore, log_of}
use Rattle.binlog_store.specs.Mounting.{HaveTheirBytes, IsSeen, PointTold, seen_of}
use Rattle.binlog_store.specs.Stands.{LogStands, ReadsFiles}
use Rattle.binlog_store.specs.declared.faults.StoreFault.{StoreFault}
use Rattle.binlog_store.specs.declared.points.LogPoint.{LogPoint}
use Rattle.binlog_store.specs.declared.stores.BinlogStore.{BinlogStore}
use Rattle.binlog_store.proofs.Appending.{mounted_holds}
use Rattle.binlog_store.proofs.Phases.{said_stands}

pub ok_holds : (schema : Schema) (r : Result BinlogStore StoreFault) (now : Telling) → IfOk r (λ (it : BinlogStore). IsStore schema it)
    → IfOk r (λ (it : BinlogStore). IsMounted schema it now.files) → IsTelling now
    → IfOk r (λ (it : BinlogStore). Holds log_files now (LogStands schema (log_of it)))
ok_holds schema (Ok it) now store mounted tells = mounted_holds schema it now store mounted tells
ok_holds schema (Err e) now store mounted tells = tt

pub ok_stands : (schema : Schema) (r : Result BinlogStore StoreFault) (control : ControlBlock) (c : Contents) → control_of (c file.LogCtl) ≡ Some control.bytes
    → IfOk r (λ (it : BinlogStore). IsStore schema it) → IfOk r (λ (it : BinlogStore). it.control ≡ control)
    → IfOk r (λ (it : BinlogStore). ReadsFiles c 1 (files schema (log_of it)))
    → IfOk r (λ (it : BinlogStore). LogStands schema (log_of it) c)
ok_stands schema (Ok it) control c says store same read =
    said_stands schema (log_of it) it.highest it.control.bytes c store.said read (says ∙ ap (λ (b : ControlBlock). Some b.bytes) (sym same))
ok_stands schema (Err e) control c says store same read = tt

-- the control file alone was written
pub still_seen : (old mid : Files) → Elsewhere file.LogCtl old mid → IsSeen (seen_of old) mid
still_seen old mid other n = sym (ap (λ (s : FileState). s.bytes) (other (file.Binlog n) (λ is. cc)))

pub files_fault : (schema : Schema) (c : Contents) (bytes : Option (List ℕ)) (p : LogPoint) → control_of (c file.LogCtl) ≡ Some bytes
    → PointTold bytes (Ok (Some p)) → (f : FileId) (at : ℕ) → FilesFault schema p c f at → LogFault schema c f at
files_fault schema c None p says told f at fault = absurd (let z : Ok (Some p) ≡ Ok None = told in cc)
files_fault schema c (Some bytes) p says told f at fault =
    subst (ControlFault schema c f at) (sym says) (subst (PointFault schema c f at) (sym told.named) fault)

pub fault_files : (schema : Schema) (c : Contents) (bytes : Option (List ℕ)) (p : LogPoint) → control_of (c file.LogCtl) ≡ Some bytes
    → PointTold bytes (Ok (Some p)) → (f : FileId) (at : ℕ) → LogFault schema c f at → FilesFault schema p c f at
fault_files schema c None p says told f at fault = absurd (let z : Ok (Some p) ≡ Ok None = told in cc)
fault_files schema c (Some bytes) p says told f at fault = subst (PointFault schema c f at) told.named (subst (ControlFault schema c f at) says fault)

pub no_fault : (schema : Schema) (c : Contents) (bytes : Option (List ℕ)) → control_of (c file.LogCtl) ≡ Some bytes → PointTold bytes (Ok None) → (f : FileId) (at : ℕ)
    → LogFault schema c f at → ⊥
no_fault schema c None says told f at fault = subst (ControlFault schema c f at) says fault
no_fault schema c (Some bytes) says told f at fault = told

-- ---- the bytes of the binary log files
pub bytes_elsewhere : (old mid : Files) → Elsewhere file.LogCtl old mid → HaveTheirBytes old mid
bytes_elsewhere old mid other n = ap (λ (s : FileState). s.bytes) (other (file.Binlog n) (λ is. cc))

pub bytes_then : (old mid new : Files) → HaveTheirBytes old mid → HaveTheirBytes mid new → HaveTheirBytes old new
bytes_then old mid new first later n = later n ∙ first n
