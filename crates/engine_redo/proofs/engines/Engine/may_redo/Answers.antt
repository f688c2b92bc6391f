use Rattle.std.proofs.Common.{◌≡◌, true, false, ap, subst, sym, ◌∙◌}
use Rattle.std.specs.Prelude.{is_some, not}
use Rattle.engine_redo.specs.Items.{IsItem}
use Rattle.engine_redo.specs.Mounted.{schema_of, state_of}
use Rattle.engine_redo.specs.Stands.{MayRedo}
use Rattle.engine_redo.proofs.Testing.{prepare_may, prepare_refused}
use Rattle.prepared_txns.specs.Conflicts.{conflict_from}
use Rattle.ring_model.specs.declared.effects.Action.{Action}
use Rattle.engine_redo.proofs.engines.Engine.may_redo.Goals as goal

pub returns-in-Prepare-clause-may : goal.returns-in-Prepare-clause-may
returns-in-Prepare-clause-may c free_told =
    let free : is_some (conflict_from 0 c.args.self.now.prepared c.in-Prepare.pair.txn.changes) ≡ false =
    ap is_some (sym c.conflict.ensures) ∙ (c.is_none.ensures ∙ ap not free_told) in
    subst (λ (a : Action). MayRedo (schema_of c.args.self.now) (state_of c.args.self.now) a) (sym c.in-Prepare.is)
    (prepare_may (schema_of c.args.self.now) (state_of c.args.self.now) c.in-Prepare.pair c.requires.0
    (subst (λ (a : Action). IsItem (schema_of c.args.self.now) c.requires.0 a) c.in-Prepare.is c.requires.1) free)

pub returns-in-Prepare-clause-refused : goal.returns-in-Prepare-clause-refused
returns-in-Prepare-clause-refused c held_told may =
    let held : is_some (conflict_from 0 c.args.self.now.prepared c.in-Prepare.pair.txn.changes) ≡ true =
    ap is_some (sym c.conflict.ensures) ∙ (c.is_none.ensures ∙ ap not held_told) in
    prepare_refused (schema_of c.args.self.now) (state_of c.args.self.now) c.in-Prepare.pair held
    (subst (λ (a : Action). MayRedo (schema_of c.args.self.now) (state_of c.args.self.now) a) c.in-Prepare.is may)
