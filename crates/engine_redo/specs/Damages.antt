-- Where the redo of a content is at fault: the file, and the offset of the first item with which none goes on.
use Rattle.std.specs.Prelude.{◌≡◌, ℕ, ◌<◌, ◌≤◌, List, ◌++◌, length, take, drop, Option, Some, None}
use Rattle.control_block.specs.ControlFiles.{control_of}
use Rattle.edge_traits.specs.FileStates.{Contents}
use Rattle.edge_traits.specs.declared.disks.FileId.{FileId}
use Rattle.edge_traits.specs.declared.disks.FileId.TheVariants as file
use Rattle.engine_redo.specs.Items.{IsItem}
use Rattle.engine_redo.specs.Points.{point_in}
use Rattle.engine_redo.specs.Stands.{IsRedo, MayRedo}
use Rattle.engine_redo.specs.declared.points.RedoPoint.{RedoPoint}
use Rattle.prepared_txns.specs.Engines.{EngineState}
use Rattle.ring_model.specs.declared.effects.Action.{Action}
use Rattle.ring_types.specs.declared.schemas.Schema.{Schema}

-- the bytes begin with a redo of this length, which no further item continues
pub record IsLongest (schema : Schema) (bytes : List ℕ) (at : ℕ) : Type 0 where
  pub within : at ≤ length bytes
  pub made : EngineState
  pub redo : IsRedo schema (take at bytes) made
  pub ends : (a : Action) (text rest : List ℕ) → drop at bytes ≡ text ++ rest → IsItem schema text a → MayRedo schema made a → ⊥

-- the redo does not go to the end that is recorded
pub record RedoDamaged (schema : Schema) (p : RedoPoint) (c : Contents) (f : FileId) (at : ℕ) : Type 0 where
  pub here : f ≡ file.Redo p.number
  pub short : at < p.end
  pub longest : IsLongest schema (take p.end (c (file.Redo p.number))) at

abbrev pub AtControl : FileId → ℕ → Type 0
AtControl f at = (f ≡ file.EngineCtl) × (at ≡ 0)

abbrev pub PointDamaged : Schema → Contents → Option RedoPoint → FileId → ℕ → Type 0
PointDamaged schema c None f at = AtControl f at
PointDamaged schema c (Some p) f at = RedoDamaged schema p c f at

-- the control file is damaged, or its bytes name no point, or the redo is at fault
abbrev pub ControlDamaged : Schema → Contents → Option (Option (List ℕ)) → FileId → ℕ → Type 0
ControlDamaged schema c None f at = AtControl f at
ControlDamaged schema c (Some None) f at = ⊥
ControlDamaged schema c (Some (Some bytes)) f at = PointDamaged schema c (point_in bytes) f at

abbrev pub IsDamaged : Schema → Contents → FileId → ℕ → Type 0
IsDamaged schema c f at = ControlDamaged schema c (control_of (c file.EngineCtl)) f at
