use Rattle.std.proofs.Common.{subst}
use Rattle.ring_model.specs.declared.effects.Action.{Action}
use Rattle.engine_redo.specs.Mounted.{schema_of, state_of}
use Rattle.engine_redo.specs.Stands.{MayRedo}
use Rattle.prepared_txns.proofs.Unheld.{free_without_conflict}
use Rattle.engine_redo.proofs.engines.Engine.redo.Goals as goal

pub keep-requires : goal.keep-requires
keep-requires c =
    let may = subst (λ (a : Action). MayRedo (schema_of c.args.self.now) (state_of c.args.self.now) a) c.in-Prepare.is c.requires in
    (free_without_conflict c.args.self.now.prepared c.in-Prepare.pair.txn.changes).1 may.0
