use Rattle.std.proofs.Common.{ap, subst, sym, ◌∙◌}
use Rattle.node_store.specs.Stores.{engine_for}
use Rattle.ring_model.specs.declared.worlds.Shown.{Shown}
use Rattle.node_unit.specs.Units.{IsFitShown}
use Rattle.node_unit.proofs.Acting.{answer_fits, answer_keeps, on_ok, on_ok2}
use Rattle.node_unit.proofs.units.Unit.step.Goals as goal

pub returns-clause-still_of : goal.returns-clause-still_of
returns-clause-still_of c =
    on_ok2 _ _ _ c.take.result
    (λ is same. same ∙ (c.requires.of ∙ ap (engine_for c.args.ring.now) (sym (ap (λ (s : Shown). s.node) is ∙ answer_keeps c.args.ring.now c.args.input.now c.args.self.now.shown))))
    c.take.ensures.node c.take.ensures.engine

pub returns-clause-still_fit : goal.returns-clause-still_fit
returns-clause-still_fit c =
    on_ok _ _ c.take.result
    (λ is. subst (IsFitShown c.args.ring.now) (sym is) (answer_fits c.args.ring.now c.args.input.now c.args.self.now.shown c.requires.fit c.requires.good))
    c.take.ensures.node
