-- the interval grows to the same whatever it has taken in already
use Rattle.std.proofs.Common.{◌≡◌, length}
use Rattle.std.specs.BTreeMap.{IsOrdered}
use Rattle.std.specs.Ordering.{nat_cmp}
use Rattle.gtid_set.specs.Ranges.{intervals, grown}
use Rattle.gtid_set.proofs.intervals.swallow.Given as goal

abbrev pub invariant-loop-next : goal.invariant-loop-next
invariant-loop-next l = record {
  same : grown l.first (intervals l.ends.entries) ≡ grown l.first (intervals l.initial.ends.entries);
  ordered : IsOrdered nat_cmp l.ends;
}

abbrev pub decreases-loop-next : goal.decreases-loop-next
decreases-loop-next l = length l.ends.entries
