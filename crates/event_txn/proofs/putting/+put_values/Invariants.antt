use Rattle.std.proofs.Common.{length}
use Rattle.event_txn.proofs.putting.+put_values.Given as goal

abbrev pub decreases-put_values : goal.decreases-put_values
decreases-put_values l = length l.columns.now
