-- those passed are in the map
use Rattle.std.proofs.Common.{◌≡◌, take}
use Rattle.gtid_set.specs.Ranges.{intervals}
use Rattle.gtid_set.proofs.intervals.filled.Given as goal

abbrev pub invariant-loop-interval : goal.invariant-loop-interval
invariant-loop-interval l = intervals l.ends.entries ≡ take l.interval-index l.intervals
