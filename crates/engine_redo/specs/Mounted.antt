-- An engine in memory, and the disk on which it is mounted.
use Rattle.std.specs.Prelude.{◌≡◌, ◌≢◌, ℕ, true, List, ◌++◌, take, Option, Some, None}
use Rattle.control_block.specs.Blocks.{Stands}
use Rattle.edge_traits.specs.FileStates.{Files, Firm}
use Rattle.edge_traits.specs.declared.disks.FileId.TheVariants as file
use Rattle.engine_redo.specs.Items.{IsItem}
use Rattle.engine_redo.specs.Points.{PointFits, point_bytes}
use Rattle.engine_redo.specs.Stands.{IsRedo}
use Rattle.engine_redo.specs.declared.engines.Engine.{Engine}
use Rattle.engine_redo.specs.declared.points.RedoPoint.{RedoPoint}
use Rattle.prepared_txns.specs.Engines.{EngineState}
use Rattle.ring_model.specs.declared.effects.Action.{Action}
use Rattle.ring_types.specs.Rings.{is_schema}
use Rattle.ring_types.specs.declared.schemas.Schema.{Schema}

abbrev pub state_of : Engine → EngineState
state_of engine = record { applied = engine.applied; prepared = engine.prepared; rows = engine.tables.rows }

abbrev pub schema_of : Engine → Schema
schema_of engine = engine.tables.schema

-- the bytes of the control file say where the redo ends; without bytes it is empty, and the first file
abbrev pub Says : RedoPoint → Option (List ℕ) → Type 0
Says point None = point ≡ record { number = 1; end = 0 }
Says point (Some bytes) = bytes ≡ point_bytes point

-- what an engine keeps in memory beside its state
pub record IsEngine (engine : Engine) : Type 0 where
  pub schema : is_schema (schema_of engine) ≡ true
  pub fits : PointFits engine.point
  pub said : Says engine.point engine.control.bytes
  pub control : engine.control.file ≡ file.EngineCtl

-- the redo up to its end stands, whatever a crash leaves, and makes the engine; what is behind it counts for nothing
pub record IsMounted (engine : Engine) (on : Files) : Type 0 where
  pub control : Stands engine.control (on file.EngineCtl)
  pub firm : Firm engine.point.end (on (file.Redo engine.point.number))
  pub redo : IsRedo (schema_of engine) (take engine.point.end (on (file.Redo engine.point.number)).bytes) (state_of engine)

-- a call wrote this action's item behind the end of the redo, and into no other redo file
pub record HasAdded (old new : Engine) (a : Action) (before after : Files) : Type 0 where
  pub text : List ℕ
  pub item : IsItem (schema_of old) text a
  pub number : new.point.number ≡ old.point.number
  pub bytes : take new.point.end (after (file.Redo new.point.number)).bytes ≡ take old.point.end (before (file.Redo old.point.number)).bytes ++ text
  pub others : (n : ℕ) → n ≢ old.point.number → after (file.Redo n) ≡ before (file.Redo n)
