-- the set has the GTIDs of the entries so far
use Rattle.std.proofs.Common.{take}
use Rattle.node_store.specs.Kept.{Lengthens}
use Rattle.node_store.proofs.log_sets.put_gtids.Given as goal

abbrev pub invariant-loop-at : goal.invariant-loop-at
invariant-loop-at l = Lengthens (take l.at l.entries) l.fn.gtids l.gtids
