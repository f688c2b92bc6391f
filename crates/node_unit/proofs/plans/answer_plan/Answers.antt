use Rattle.std.proofs.Common.{◌≡◌, true, false, sym, ◌∙◌, rules}
use Rattle.transfer_core.proofs.Halves.{answered, unanswered}
use Rattle.node_unit.proofs.plans.answer_plan.Goals as goal

pub returns-then-not-hands_on-clause-told : goal.returns-then-not-hands_on-clause-told
returns-then-not-hands_on-clause-told g c =
    let no : c.counts-hands_on.result ≡ false = search rules in
    unanswered _ _ _ _ _ _ c.in_ok-plan.plan _ c.in_ok-plan.ensures.told (sym c.counts-hands_on.ensures ∙ no)

pub returns-clause-told : goal.returns-clause-told
returns-clause-told g c =
    let yes : c.counts-hands_on.result ≡ true = search rules in
    rw (c.in-Ok.ensures.ok, c.handed_on.ensures.stays)
    (answered _ _ _ _ _ _ c.in_ok-plan.plan c.in_ok-more.more _ c.in_ok-plan.ensures.told (sym c.counts-hands_on.ensures ∙ yes) c.in_ok-more.ensures.told)
