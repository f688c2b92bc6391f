-- What holds of every engine and every log; the functions of `laws.rt` state it.
use Rattle.std.specs.Prelude.{◌≡◌, ◌≤◌, ◌↔◌, false, List, length, None}
use Rattle.std.specs.List.{list_any}
use Rattle.ring_types.specs.declared.entries.Pair.{Pair}
use Rattle.ring_types.specs.declared.schemas.Schema.{Schema}
use Rattle.ring_types.specs.declared.values.Change.{Change}
use Rattle.ring_types.specs.Logs.{IsLog}
use Rattle.ring_model.specs.Actions.{IsPossible, done, is_held}
use Rattle.ring_model.specs.declared.nodes.Durable.{Durable}
use Rattle.ring_model.specs.declared.effects.Action.{Action}
use Rattle.prepared_txns.specs.Conflicts.{conflict_from}
use Rattle.prepared_txns.specs.Engines.{engine_of, engine_done}

-- the engine of a durable part, after a possible action, is the engine of the durable part after that action
abbrev pub EngineFollows : Type 0
EngineFollows =
    (schema : Schema) (d : Durable) (a : Action) → IsLog d.log → d.applied ≤ length d.log → IsPossible schema d a
    → engine_done schema (engine_of schema d) a ≡ engine_of schema (done d a)

-- no change is in conflict exactly where no change's key is held
abbrev pub IsFreeWithoutConflict : Type 0
IsFreeWithoutConflict = (pairs : List Pair) (changes : List Change) → (conflict_from 0 pairs changes ≡ None) ↔ (list_any (is_held pairs) changes ≡ false)
