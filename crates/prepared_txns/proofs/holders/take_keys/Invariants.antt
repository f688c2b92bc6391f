-- the keys of the changes so far are free
use Rattle.std.proofs.Common.{take, None}
use Rattle.prepared_txns.specs.Holders.{ArePut}
use Rattle.prepared_txns.proofs.holders.take_keys.Given as goal

abbrev pub invariant-loop-change : goal.invariant-loop-change
invariant-loop-change l = ArePut (take l.change-index l.changes) None l.fn.holders l.holders
