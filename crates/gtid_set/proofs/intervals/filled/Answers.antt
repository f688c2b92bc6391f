use Rattle.std.proofs.Common.{◌∙◌, ap}
use Rattle.gtid_set.specs.Ranges.{intervals}
use Rattle.gtid_set.proofs.Entries.{filled_next}
use Rattle.gtid_set.proofs.intervals.filled.Goals as goal

pub loop-interval-preserved : goal.loop-interval-preserved
loop-interval-preserved c =
    ap intervals c.in_ok-insert.ensures.entries
    ∙ filled_next c.loop-interval.interval-index (record { first = 0; last = 0 }) c.args.intervals.now c.loop-interval.ends.entries c.requires c.loop-interval-test.true c.loop-interval.invariant
