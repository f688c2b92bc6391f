use Rattle.std.proofs.Common.{◌≡◌, drop}
use Rattle.gtid_set.specs.Reading.{are_merged}
use Rattle.gtid_set.proofs.intervals.are_merged.Given as goal

abbrev pub invariant-loop-interval : goal.invariant-loop-interval
invariant-loop-interval l = are_merged l.below (drop l.interval-index l.intervals) ≡ are_merged 0 l.intervals
