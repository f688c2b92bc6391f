-- What a mount reads of a disk, and what it leaves there.
use Rattle.std.specs.Prelude.{◌≡◌, ℕ, List, take, Option, Some, None, Result, Ok, Err}
use Rattle.control_block.specs.ControlFiles.{control_of}
use Rattle.edge_traits.specs.FileStates.{Contents, Files}
use Rattle.edge_traits.specs.Works.{MayIn, WorksOn}
use Rattle.edge_traits.specs.declared.disks.FileId.TheVariants as file
use Rattle.engine_redo.specs.Groups.{engine_files}
use Rattle.engine_redo.specs.Points.{PointFits, point_bytes, point_in}
use Rattle.engine_redo.specs.Stands.{IsRedo}
use Rattle.engine_redo.specs.Mounted.{schema_of, state_of}
use Rattle.engine_redo.specs.declared.engines.Engine.{Engine}
use Rattle.engine_redo.specs.declared.faults.EngineFault.{EngineFault}
use Rattle.engine_redo.specs.declared.faults.EngineFault.TheVariants as fault
use Rattle.engine_redo.specs.declared.points.RedoPoint.{RedoPoint}

-- what is read of each file
abbrev pub seen_of : Files → Contents
seen_of files f = (files f).bytes

-- the control file stands for the same in both contents, and the redo files are the same
pub record ReadAlike (b c : Contents) : Type 0 where
  pub control : control_of (b file.EngineCtl) ≡ control_of (c file.EngineCtl)
  pub redo : (n : ℕ) → b (file.Redo n) ≡ c (file.Redo n)

-- at each moment a crash leaves of the engine's files what reads like something that it might have left of them before
abbrev pub Keeps : {D : Type 0} → (D → Files) → (D → ℕ) → (D → ℕ → Contents → Type 0) → D → D → Type 0
Keeps files moment left_since old new =
    WorksOn engine_files files moment left_since old new (λ c. (b : Contents) × MayIn engine_files (files old) b × ReadAlike b c)

-- the redo files have the bytes that they had
abbrev pub HaveTheirBytes : Files → Files → Type 0
HaveTheirBytes old new = (n : ℕ) → (new (file.Redo n)).bytes ≡ (old (file.Redo n)).bytes

-- these bytes are those of the point, whose numbers are in range
pub record IsNamed (bytes : List ℕ) (point : RedoPoint) : Type 0 where
  pub is : bytes ≡ point_bytes point
  pub fits : PointFits point

-- what is told of a control file's bytes: the point that they name, if there are any, or that they name none
abbrev pub PointTold : Option (List ℕ) → Result (Option RedoPoint) EngineFault → Type 0
PointTold None told = told ≡ Ok None
PointTold (Some bytes) (Ok (Some point)) = (point_in bytes ≡ Some point) × IsNamed bytes point
PointTold (Some bytes) (Err (fault.Damaged f at)) = (point_in bytes ≡ None) × (f ≡ file.EngineCtl) × (at ≡ 0)
PointTold (Some bytes) told = ⊥

-- the bytes up to the engine's end are a redo that makes it
abbrev pub HasRedone : List ℕ → Engine → Type 0
HasRedone bytes engine = IsRedo (schema_of engine) (take engine.point.end bytes) (state_of engine)

abbrev pub Names : Option (List ℕ) → RedoPoint → Type 0
Names None point = ⊥
Names (Some bytes) point = IsNamed bytes point
