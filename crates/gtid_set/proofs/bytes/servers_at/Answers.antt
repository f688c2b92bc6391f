use Rattle.std.proofs.Common.{◌∙◌, ℕ, List}
use Rattle.ring_types.specs.declared.gtid_sets.ServerSet.{ServerSet}
use Rattle.gtid_set.proofs.BytesAgain.{servers_read}
use Rattle.gtid_set.proofs.bytes.servers_at.Goals as goal

pub loop-left-preserved : goal.loop-left-preserved
loop-left-preserved c =
    let p : ServerSet × List ℕ = (c.in-Some.set, c.in-Some.more.now) in
    let read = rw c.in-Some.is at c.in_ok-set.ensures in
    servers_read c.loop-left.found.items c.push.new.self.items c.loop-left.left c.loop-left.rest.now p c.loop-left-test.true read c.in_ok-push.ensures.items
    ∙ c.loop-left.invariant
