use Rattle.std.proofs.Common.{arith}
use Rattle.node_unit.proofs.Acting.{here_fits, here_possible, goes_on}
use Rattle.node_unit.proofs.units.act_all.Goals as goal

pub act-requires-clause-log : goal.act-requires-clause-log
act-requires-clause-log c = (here_fits _ _ _ _ _ _ _ _ c.loop-at.invariant).0.log

pub act-requires-clause-applied : goal.act-requires-clause-applied
act-requires-clause-applied c = (here_fits _ _ _ _ _ _ _ _ c.loop-at.invariant).0.applied_inside

pub act-requires-clause-votes : goal.act-requires-clause-votes
act-requires-clause-votes c = (here_fits _ _ _ _ _ _ _ _ c.loop-at.invariant).0.votes_below

pub act-requires-clause-possible : goal.act-requires-clause-possible
act-requires-clause-possible c = here_possible _ _ _ _ _ _ _ _ c.replace-action.result c.loop-at.invariant c.replace-action.ensures.was

pub loop-at-preserved : goal.loop-at-preserved
loop-at-preserved c =
    goes_on _ _ _ _ c.act.new.self _ _ c.replace-action.new.self _ _ _ c.replace-action.result _ c.loop-at.invariant c.replace-action.ensures.was c.replace-action.ensures.set (omega arith) c.in_ok-act.ensures.done c.in_ok-act.ensures.engine
