use Rattle.std.specs.Prelude.{ℕ, Result, Err}
use Rattle.edge_traits.specs.Counts.{Rose}
use Rattle.edge_traits.specs.declared.disks.DiskFault.{DiskFault}
use Rattle.edge_traits.specs.declared.disks.DiskFault.TheVariants as disk
use Rattle.edge_traits.specs.declared.disks.FileId.{FileId}
use Rattle.engine_redo.specs.declared.faults.EngineFault.{EngineFault}
use Rattle.engine_redo.specs.declared.faults.EngineFault.TheVariants as fault

abbrev pub fault_of : DiskFault → EngineFault
fault_of disk.Failed = fault.Disk
fault_of disk.Memory = fault.Memory

-- a fault of the disk comes only if its count of faults rose; damage is found at a mount alone
abbrev pub EngineFails : {T : Type 0} → ℕ → ℕ → Result T EngineFault → Type 0
EngineFails before now (Err fault.Disk) = Rose before now
EngineFails before now (Err (fault.Damaged f at)) = ⊥
EngineFails before now _ = Unit {0}

abbrev pub MountFails : {T : Type 0} → ℕ → ℕ → Result T EngineFault → Type 0
MountFails before now (Err fault.Disk) = Rose before now
MountFails before now _ = Unit {0}

-- the damage that is answered has P
abbrev pub IfDamaged : {T : Type 0} → (FileId → ℕ → Type 0) → Result T EngineFault → Type 0
IfDamaged P (Err (fault.Damaged f at)) = P f at
IfDamaged P _ = Unit {0}

-- an answer that no disk gives
abbrev pub IsNoDisk : {T : Type 0} → Result T EngineFault → Type 0
IsNoDisk (Err fault.Disk) = ⊥
IsNoDisk _ = Unit {0}
