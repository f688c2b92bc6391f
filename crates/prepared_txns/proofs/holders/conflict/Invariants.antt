-- no change looked at is in conflict
use Rattle.std.proofs.Common.{◌≡◌, drop}
use Rattle.prepared_txns.specs.Holders.{first_conflict}
use Rattle.prepared_txns.proofs.holders.conflict.Given as goal

abbrev pub invariant-loop-change : goal.invariant-loop-change
invariant-loop-change l = (first_conflict l.place l.holders (drop l.change-index l.changes) ≡ first_conflict 0 l.holders l.changes) × (l.place ≡ l.change-index)
