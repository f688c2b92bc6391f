-- A store in memory, and the disk on which it is mounted.
use Rattle.std.specs.Prelude.{◌≡◌, ℕ, suc, List, [], ◌∷◌, length, Option, Some, None}
use Rattle.ring_types.specs.declared.entries.Entry.{Entry}
use Rattle.ring_types.specs.declared.schemas.Schema.{Schema}
use Rattle.edge_traits.specs.FileStates.{FileState, Files, settled}
use Rattle.edge_traits.specs.declared.disks.FileId.TheVariants as file
use Rattle.control_block.specs.Blocks.{Stands}
use Rattle.entry_group.specs.Files.{files}
use Rattle.binlog_store.specs.Files.{EndsAt}
use Rattle.binlog_store.specs.Held.{IsHeldLog}
use Rattle.binlog_store.specs.Points.{point_bytes}
use Rattle.binlog_store.specs.Stands.{IsWritten, PointFits, point_at}
use Rattle.binlog_store.specs.declared.stores.BinlogStore.{BinlogStore}

-- the log of a store
abbrev pub log_of : BinlogStore → List Entry
log_of store = store.held.entries

-- the bytes of a control file say where the log ends; without bytes it is empty, and had its first file alone
abbrev pub Says : Schema → List Entry → ℕ → Option (List ℕ) → Type 0
Says schema log highest None = (log ≡ []) × (highest ≡ 1)
Says schema log highest (Some bytes) = bytes ≡ point_bytes (point_at log (files schema log) highest)

-- a log that files can have, with a point that fits, which the bytes of a control file say
pub record IsSaid (schema : Schema) (log : List Entry) (highest : ℕ) (bytes : Option (List ℕ)) : Type 0 where
  pub written : IsWritten schema log
  pub fits : PointFits (point_at log (files schema log) highest)
  pub says : Says schema log highest bytes

-- what the store keeps in memory is what its log makes
pub record IsStore (schema : Schema) (store : BinlogStore) : Type 0 where
  pub held : IsHeldLog schema store.held
  pub said : IsSaid schema (log_of store) store.highest store.control.bytes
  pub control : store.control.file ≡ file.LogCtl

-- the file reads as these bytes, and they stand
pub record IsLast (bytes : List ℕ) (f : FileState) : Type 0 where
  pub reads : f.bytes ≡ bytes
  pub ends : EndsAt (length bytes) f

-- file n and those that follow are these; all but the last are synced
abbrev pub AreHeld : Files → ℕ → List (List ℕ) → Type 0
AreHeld on n [] = ⊥
AreHeld on n (bytes ∷ []) = IsLast bytes (on (file.Binlog n))
AreHeld on n (bytes ∷ (next ∷ more)) = (on (file.Binlog n) ≡ settled bytes) × AreHeld on (suc n) (next ∷ more)

-- the disk's files are those of the store; also of an empty log, whose first file has its head
pub record IsMounted (schema : Schema) (store : BinlogStore) (on : Files) : Type 0 where
  pub control : Stands store.control (on file.LogCtl)
  pub files : AreHeld on 1 (files schema (log_of store))
