-- the pairs so far are tested, and the map stands for those that passed and those to come
use Rattle.std.proofs.Common.{◌-◌, length}
use Rattle.prepared_txns.proofs.Moving.{KeptTo}
use Rattle.prepared_txns.proofs.keeping.keep_those.Given as goal

abbrev pub invariant-loop-at : goal.invariant-loop-at
invariant-loop-at g l = KeptTo (g.K.Keeping.keeps l.test) l.at l.kept l.fn.pairs l.pairs l.holders

abbrev pub decreases-loop-at : goal.decreases-loop-at
decreases-loop-at g l = length l.pairs - l.at
