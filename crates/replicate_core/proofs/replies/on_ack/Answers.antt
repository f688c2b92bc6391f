use Rattle.std.proofs.Common.{◌≡◌, List}
use Rattle.ring_types.specs.declared.entries.Entry.{Entry}
use Rattle.commit_pipeline.specs.Advances.{advanced, pairs_left, part_after}
use Rattle.commit_pipeline.proofs.Counting.{same_told}
use Rattle.commit_pipeline.proofs.Adding.{whole_at}
use Rattle.replicate_core.proofs.Replying.{adopts, ignores, hears, short_end}
use Rattle.ring_types.proofs.Booleans.{lt_true}
use Rattle.replicate_core.proofs.Stepping.{is_not_less}
use Rattle.replicate_core.proofs.replies.on_ack.Goals as goal

pub returns-then-term-reply-clause-told : goal.returns-then-term-reply-clause-told
returns-then-term-reply-clause-told g c =
    let here = c.args.here in
    let reply = c.args.reply.now in
    adopts (g.V.LogView.sees here.view.now).log here c.args.soft.now c.demote.new.soft c.args.from reply c.in-Ok.plan
    (lt_true here.term reply.term c.if-term-reply.true) c.in-Ok.ensures c.demote.ensures

pub returns-then-not-counts-clause-told : goal.returns-then-not-counts-clause-told
returns-then-not-counts-clause-told g c =
    let v = g.V.LogView in
    let here = c.args.here in
    let reply = c.args.reply.now in
    let told = (v.sees here.view.now).log in
    let end = c.in_ok-end.field-0.position in
    ignores told here c.args.soft.now c.args.from end reply c.counts.result c.idle.result (is_not_less here.term reply.term c.if-term-reply.false)
    (whole_at told (v.sees here.view.now).length end c.in_ok-end.ensures.position c.requires.node.whole) c.counts.ensures c.if-not-counts.true
    c.idle.ensures

pub returns-clause-told : goal.returns-clause-told
returns-clause-told g c =
    let v = g.V.LogView in
    let here = c.args.here in
    let s = c.args.soft.now in
    let reply = c.args.reply.now in
    let told = (v.sees here.view.now).log in
    let end = c.in_ok-end.field-0.position in
    let leader = c.new-before.result in
    let it = c.in_ok-advanced.advanced in
    hears told here s c.settle.new.soft c.args.from end reply leader c.as_slice-known.result.now c.in-Ok-heard_among.peers c.as_slice.result.now c.idle-2.result c.counts.result it c.settle.result
    (is_not_less here.term reply.term c.if-term-reply.false) c.requires.node.told
    (whole_at told (v.sees here.view.now).length end c.in_ok-end.ensures.position c.requires.node.whole)
    (short_end end (v.sees here.view.now).length c.in_ok-end.ensures.position c.requires.node.short) c.counts.ensures c.if-not-counts.false
    c.as_slice-known.ensures c.in-Ok-heard_among.ensures c.as_slice.ensures c.new-before.ensures
    c.idle-2.ensures
    (same_told (v.sees c.last.new.view) (v.sees here.view.now) (λ (log : List Entry). it ≡ advanced leader.engine.ring.now leader.engine.me
    (part_after leader.term log leader.engine.applied (pairs_left leader.engine)) leader.commit c.as_slice.result.now leader.pending.now c.idle-2.result)
    c.in_ok-end.ensures.keeps.same c.in_ok-advanced.ensures.told)
    c.settle.ensures.plan c.settle.ensures.soft
