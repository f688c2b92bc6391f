-- the pairs before the gap stand one place lower
use Rattle.std.proofs.Common.{◌≡◌, ◌+◌, ◌-◌, ◌≤◌, length}
use Rattle.prepared_txns.proofs.Moving.{ClosedTo}
use Rattle.prepared_txns.proofs.moves.close_up.Given as goal

abbrev pub invariant-loop-at : goal.invariant-loop-at
invariant-loop-at l = ClosedTo l.at l.fn.pairs l.pairs × (l.last + 1 ≡ length l.fn.pairs) × (l.at ≤ l.last)

abbrev pub decreases-loop-at : goal.decreases-loop-at
decreases-loop-at l = l.last - l.at
