use Rattle.node_unit.proofs.Acting.{Going}
use Rattle.node_unit.proofs.units.act_all.Given as goal

abbrev pub invariant-loop-at : goal.invariant-loop-at
invariant-loop-at l = Going l.ring l.fn.me l.fn.store l.store l.fn.actions l.actions l.at l.at-end
