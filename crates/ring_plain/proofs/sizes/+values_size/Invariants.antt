use Rattle.std.proofs.Common.{length}
use Rattle.ring_plain.proofs.sizes.+values_size.Given as goal

abbrev pub decreases-values_size : goal.decreases-values_size
decreases-values_size l = length l.columns.now
