use Rattle.std.proofs.Common.{◌∙◌, ℕ, List}
use Rattle.ring_types.specs.declared.gtid_sets.Interval.{Interval}
use Rattle.gtid_set.proofs.BytesAgain.{intervals_read}
use Rattle.gtid_set.proofs.bytes.intervals_at.Goals as goal

pub loop-left-preserved : goal.loop-left-preserved
loop-left-preserved c =
    let p : Interval × List ℕ = (c.in-Some.interval, c.in-Some.more.now) in
    intervals_read c.loop-left.found.items c.push.new.self.items c.loop-left.left c.loop-left.rest.now p c.loop-left-test.true c.in-Some.ensures c.in_ok-push.ensures.items
    ∙ c.loop-left.invariant
