-- The engine for which the content of a disk stands: the control file says where the redo ends, and up to there its items make the engine of the empty one.
use Rattle.std.specs.Prelude.{◌≡◌, ℕ, ◌+◌, ◌≤◌, List, [], ◌∷◌, ◌++◌, length, take, Option, Some, None}
use Rattle.control_block.specs.ControlFiles.{control_of}
use Rattle.edge_traits.specs.FileStates.{Contents}
use Rattle.edge_traits.specs.declared.disks.FileId.TheVariants as file
use Rattle.engine_redo.specs.Items.{IsItem}
use Rattle.engine_redo.specs.Points.{PointFits, point_bytes}
use Rattle.engine_redo.specs.declared.points.RedoPoint.{RedoPoint}
use Rattle.prepared_txns.specs.Engines.{EngineState, engine_done}
use Rattle.ring_model.specs.Actions.{IsPossible}
use Rattle.ring_model.specs.Nodes.{empty_durable}
use Rattle.ring_model.specs.declared.effects.Action.{Action}
use Rattle.ring_model.specs.declared.effects.Action.TheVariants as action
use Rattle.ring_types.specs.Rows.{empty_tables}
use Rattle.ring_types.specs.declared.schemas.Schema.{Schema}

abbrev pub empty_engine : Schema → EngineState
empty_engine schema = record { applied = 0; prepared = []; rows = empty_tables schema }

-- what an engine can tell of an action without the log: a transaction is prepared where a durable part with its pairs may prepare it, and entries are applied one after another
abbrev pub MayRedo : Schema → EngineState → Action → Type 0
MayRedo schema e (action.Prepare pair) = IsPossible schema (record empty_durable { prepared = e.prepared }) (action.Prepare pair)
MayRedo schema e (action.Commit position) = position ≡ e.applied + 1
MayRedo schema e (action.RollBackAfter position) = Unit {0}
MayRedo schema e (action.DropPairs opids) = Unit {0}
MayRedo schema e _ = ⊥

-- the bytes are these items, one behind another and each possible in its turn, and of the engine `e` they make this one
abbrev pub Redone : Schema → EngineState → List Action → List ℕ → EngineState → Type 0
Redone schema e [] bytes made = (bytes ≡ []) × (e ≡ made)
Redone schema e (a ∷ items) bytes made =
    (text : List ℕ) × (rest : List ℕ) × IsItem schema text a × MayRedo schema e a × Redone schema (engine_done schema e a) items rest made × (bytes ≡ text ++ rest)

-- the bytes are items that make this engine of the empty one
pub record IsRedo (schema : Schema) (bytes : List ℕ) (made : EngineState) : Type 0 where
  pub items : List Action
  pub redone : Redone schema (empty_engine schema) items bytes made

-- the control file has these bytes, which say where the redo ends, and the file up to there is one that makes the engine
pub record RedoHeld (schema : Schema) (e : EngineState) (c : Contents) (bytes : List ℕ) : Type 0 where
  pub point : RedoPoint
  pub named : bytes ≡ point_bytes point
  pub fits : PointFits point
  pub reaches : point.end ≤ length (c (file.Redo point.number))
  pub redo : IsRedo schema (take point.end (c (file.Redo point.number))) e

-- a control file without bytes says the empty engine, and one that is damaged none
abbrev pub EngineRead : Schema → EngineState → Contents → Option (Option (List ℕ)) → Type 0
EngineRead schema e c None = ⊥
EngineRead schema e c (Some None) = e ≡ empty_engine schema
EngineRead schema e c (Some (Some bytes)) = RedoHeld schema e c bytes

abbrev pub EngineStands : Schema → EngineState → Contents → Type 0
EngineStands schema e c = EngineRead schema e c (control_of (c file.EngineCtl))
