use Rattle.std.proofs.Common.{length}
use Rattle.event_txn.proofs.putting.+nulls_of.Given as goal

abbrev pub decreases-nulls_of : goal.decreases-nulls_of
decreases-nulls_of l = length l.row.now
