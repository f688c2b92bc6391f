use Rattle.std.proofs.Common.{sym, subst}
use Rattle.node_unit.specs.Units.{UnitState, IsFitShown}
use Rattle.node_unit.proofs.Acting.{fit_of, step_acts}
use Rattle.node_unit.proofs.units.Unit.take.Goals as goal

pub act_all-requires-clause-possible : goal.act_all-requires-clause-possible
act_all-requires-clause-possible c =
    let fit = subst (λ (u : UnitState). IsFitShown c.args.ring.now u.shown) (sym c.self.view_is) c.requires.fit in
    (step_acts _ _ _ c.in-Some.soft _ _ _ (fit_of _ _ _ _ c.in-Some.soft (sym c.in-Some.ensures.value) fit.node) c.requires.good c.in_ok-plan.ensures.told).0

pub act_all-requires-clause-fit : goal.act_all-requires-clause-fit
act_all-requires-clause-fit c =
    let fit = subst (λ (u : UnitState). IsFitShown c.args.ring.now u.shown) (sym c.self.view_is) c.requires.fit in
    (step_acts _ _ _ c.in-Some.soft _ _ _ (fit_of _ _ _ _ c.in-Some.soft (sym c.in-Some.ensures.value) fit.node) c.requires.good c.in_ok-plan.ensures.told).1
