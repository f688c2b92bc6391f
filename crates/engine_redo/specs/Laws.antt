-- What holds of every content of a disk; the functions of `laws.rt` state it.
use Rattle.std.specs.Prelude.{◌≡◌, ℕ}
use Rattle.edge_traits.specs.FileStates.{Contents}
use Rattle.edge_traits.specs.declared.disks.FileId.{FileId}
use Rattle.engine_redo.specs.Damages.{IsDamaged}
use Rattle.engine_redo.specs.Stands.{EngineStands}
use Rattle.prepared_txns.specs.Engines.{EngineState}
use Rattle.ring_types.specs.declared.schemas.Schema.{Schema}

-- a content stands for at most one engine
abbrev pub StandsForOne : Type 0
StandsForOne = (schema : Schema) (d e : EngineState) (c : Contents) → EngineStands schema d c → EngineStands schema e c → d ≡ e

-- a content that stands for an engine has no fault
abbrev pub StandsUndamaged : Type 0
StandsUndamaged = (schema : Schema) (e : EngineState) (c : Contents) (f : FileId) (at : ℕ) → EngineStands schema e c → IsDamaged schema c f at → ⊥

-- a content has at most one fault
abbrev pub OneFaultAtMost : Type 0
OneFaultAtMost =
    (schema : Schema) (c : Contents) (f g : FileId) (at bt : ℕ) → IsDamaged schema c f at → IsDamaged schema c g bt → (f ≡ g) × (at ≡ bt)
