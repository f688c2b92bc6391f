-- the keys of the changes so far are held
use Rattle.std.proofs.Common.{take, Some}
use Rattle.prepared_txns.specs.Holders.{ArePut}
use Rattle.prepared_txns.proofs.holders.put_keys.Given as goal

abbrev pub invariant-loop-change : goal.invariant-loop-change
invariant-loop-change l = ArePut (take l.change-index l.changes) (Some l.opid) l.fn.holders l.holders
