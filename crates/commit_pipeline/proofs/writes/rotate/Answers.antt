use Rattle.std.proofs.Common.{◌≡◌, List, ◌+◌, ◌-◌, ◌≤◌, ◌∙◌, sym, ap}
use Rattle.ring_types.specs.declared.limits.TheConstants.{LAST_FILE}
use Rattle.ring_types.specs.declared.entries.Entry.{Entry}
use Rattle.ring_types.specs.Logs.{rotates}
use Rattle.gtid_set.specs.Next.{next_in}
use Rattle.commit_pipeline.specs.Written.{rotate_by}
use Rattle.commit_pipeline.proofs.Counting.{same_told}
use Rattle.commit_pipeline.proofs.Adding.{whole_at}
use Rattle.commit_pipeline.proofs.Rotating.{refuses, rotates_on, has_room}
use Rattle.commit_pipeline.proofs.writes.rotate.Goals as goal

pub returns-in-Some-clause-told : goal.returns-in-Some-clause-told
returns-in-Some-clause-told g c =
    let v = g.V.LogView in
    let here = c.args.here in
    let told = (v.sees here.view.now).log in
    refuses told here c.args.soft.now c.args.client c.in_ok-end.field-0.position c.next_of-next.result c.in-Some.cause c.rotate_refusal.result c.refused.result
    c.requires.node.told (whole_at told (v.sees here.view.now).length c.in_ok-end.field-0.position c.in_ok-end.ensures.position c.requires.node.whole)
    (c.next_of-next.ensures ∙ ap (λ n. next_in n here.gtids.now) c.server_of-server.ensures) c.rotate_refusal.ensures c.in-Some.is c.refused.ensures.told

pub add_rotate-requires-clause-room : goal.add_rotate-requires-clause-room
add_rotate-requires-clause-room g c =
    let v = g.V.LogView in
    let here = c.args.here in
    same_told (v.sees here.view.now) (v.sees c.last.new.view) (λ (log : List Entry). rotates log + 1 ≤ LAST_FILE - 1) (sym c.in_ok-end.ensures.keeps.same)
    (has_room (v.sees here.view.now).log here c.args.soft.now c.in_ok-end.field-0.position c.next_of-next.result c.rotate_refusal.result c.requires.node.told c.rotate_refusal.ensures c.in-None.is)

pub returns-clause-told : goal.returns-clause-told
returns-clause-told g c =
    let v = g.V.LogView in
    let here = c.args.here in
    let told = (v.sees here.view.now).log in
    let end = c.in_ok-end.field-0.position in
    let leader = c.new-leader.result in
    rotates_on told here c.args.soft.now c.settle.new.soft c.args.client end c.next_of-next.result c.rotate_refusal.result leader c.in_ok-advanced.advanced c.settle.result
    c.requires.node.told (whole_at told (v.sees here.view.now).length end c.in_ok-end.ensures.position c.requires.node.whole)
    (c.next_of-next.ensures ∙ ap (λ n. next_in n here.gtids.now) c.server_of-server.ensures) c.rotate_refusal.ensures c.in-None.is
    c.new-leader.ensures
    (same_told (v.sees c.last.new.view) (v.sees here.view.now) (λ (log : List Entry). c.in_ok-advanced.advanced ≡ rotate_by leader.engine.ring.now leader.engine.me leader.term log leader.engine.applied leader.engine.pairs.now leader.commit leader.peers.now leader.pending.now c.args.client end) c.in_ok-end.ensures.keeps.same c.in_ok-advanced.ensures.told)
    c.settle.ensures.plan c.settle.ensures.soft
