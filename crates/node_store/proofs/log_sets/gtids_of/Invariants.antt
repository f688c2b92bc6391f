-- the set is that of the entries so far
use Rattle.std.proofs.Common.{take}
use Rattle.node_store.specs.Kept.{IsSetOf}
use Rattle.node_store.proofs.log_sets.gtids_of.Given as goal

abbrev pub invariant-loop-entry : goal.invariant-loop-entry
invariant-loop-entry l = IsSetOf (take l.entry-index l.log) l.gtids
