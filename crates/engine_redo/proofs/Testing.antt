-- An item that was read is possible where its test says so.
use Rattle.std.proofs.Common.{◌≡◌, ℕ, true, false, List, Option, Some, None, refl, ap}
use Rattle.std.specs.Prelude.{is_some}
use Rattle.engine_redo.specs.Items.{IsItem}
use Rattle.engine_redo.specs.Stands.{MayRedo}
use Rattle.engine_redo.proofs.Items.{item_txn}
use Rattle.prepared_txns.specs.Conflicts.{conflict_from}
use Rattle.prepared_txns.specs.Engines.{EngineState}
use Rattle.prepared_txns.proofs.Unheld.{free_without_conflict}
use Rattle.ring_model.specs.declared.effects.Action.TheVariants as action
use Rattle.ring_types.specs.declared.entries.Conflict.{Conflict}
use Rattle.ring_types.specs.declared.entries.Pair.{Pair}
use Rattle.ring_types.specs.declared.schemas.Schema.{Schema}

none_so : (o : Option Conflict) → is_some o ≡ false → o ≡ None
none_so None is = refl
none_so (Some x) is = absurd (let z : true ≡ false = is in cc)

some_so : (o : Option Conflict) → is_some o ≡ true → o ≡ None → ⊥
some_so None is none = absurd (let z : false ≡ true = is in cc)
some_so (Some x) is none = absurd (let z : true ≡ false = ap is_some none in cc)

pub prepare_may : (schema : Schema) (e : EngineState) (p : Pair) (text : List ℕ) → IsItem schema text (action.Prepare p) → is_some (conflict_from 0 e.prepared p.txn.changes) ≡ false
    → MayRedo schema e (action.Prepare p)
prepare_may schema e p text is free =
    let fits = item_txn schema text p is in
    ((free_without_conflict e.prepared p.txn.changes).0 (none_so (conflict_from 0 e.prepared p.txn.changes) free), fits.1, fits.2)

pub prepare_refused : (schema : Schema) (e : EngineState) (p : Pair) → is_some (conflict_from 0 e.prepared p.txn.changes) ≡ true → MayRedo schema e (action.Prepare p) → ⊥
prepare_refused schema e p held may =
    some_so (conflict_from 0 e.prepared p.txn.changes) held ((free_without_conflict e.prepared p.txn.changes).1 may.0)
