use Rattle.std.proofs.Common.{◌≡◌, List, ◌∙◌, sym, ap}
use Rattle.std.specs.Option.{option_copied}
use Rattle.ring_types.specs.declared.entries.Entry.{Entry}
use Rattle.ring_types.specs.Rings.{server_of}
use Rattle.gtid_set.specs.Next.{next_in}
use Rattle.commit_pipeline.specs.Written.{write_by}
use Rattle.commit_pipeline.proofs.Counting.{same_told}
use Rattle.commit_pipeline.proofs.Adding.{whole_at}
use Rattle.commit_pipeline.proofs.Writing.{asked, allowed, refuses, writes, fits_view}
use Rattle.commit_pipeline.proofs.writes.write.Goals as goal

pub returns-in-Some-clause-told : goal.returns-in-Some-clause-told
returns-in-Some-clause-told g c =
    let v = g.V.LogView in
    let here = c.args.here in
    let told = (v.sees here.view.now).log in
    let server_is = c.server_of-server.ensures in
    refuses told here c.args.soft.now c.args.client c.args.changes.now c.in_ok-end.field-0.position c.next_of-next.result c.in-Some.cause c.in-Ok-write_refusal.refusal c.refused.result
    c.requires.node.told (whole_at told (v.sees here.view.now).length c.in_ok-end.field-0.position c.in_ok-end.ensures.position c.requires.node.whole)
    (c.next_of-next.ensures ∙ ap (λ n. next_in n here.gtids.now) server_is)
    (asked here c.args.soft.now c.schema.result.now c.next_of-next.result c.in_ok-end.field-0.position c.server_of-server.result c.args.client c.in-Ok.write c.args.changes.now c.in-Ok-write_refusal.refusal c.in-Ok-write_refusal.ensures c.schema.ensures c.in-Ok.ensures server_is)
    c.in-Some.is c.refused.ensures.told

pub add_write-requires-clause-fits : goal.add_write-requires-clause-fits
add_write-requires-clause-fits g c =
    let v = g.V.LogView in
    let here = c.args.here in
    let server_is = c.server_of-server.ensures in
    let end = c.in_ok-end.field-0.position in
    let next = c.next_of-next.result in
    let is = asked here c.args.soft.now c.schema.result.now next end c.server_of-server.result c.args.client c.in-Ok.write c.args.changes.now c.in-Ok-write_refusal.refusal c.in-Ok-write_refusal.ensures c.schema.ensures c.in-Ok.ensures server_is in
    fits_view (v.sees here.view.now) (v.sees c.last.new.view) here.ring.now.schema c.server_of-server.result c.args.client end next (server_of here.ring.now here.me) c.in-Ok.write c.args.changes.now c.in_ok-end.ensures.keeps.same c.requires.node.schema c.in-Ok.ensures server_is
    (allowed c.args.soft.now (option_copied here.tables) here.ring.now.schema next here.gtids.now (server_of here.ring.now here.me) end here.prepared.now c.args.changes.now c.requires.node.tables_fit c.requires.some (c.next_of-next.ensures ∙ ap (λ n. next_in n here.gtids.now) server_is) (sym c.in-None.is ∙ is))

pub returns-clause-told : goal.returns-clause-told
returns-clause-told g c =
    let v = g.V.LogView in
    let here = c.args.here in
    let told = (v.sees here.view.now).log in
    let server_is = c.server_of-server.ensures in
    let end = c.in_ok-end.field-0.position in
    let next = c.next_of-next.result in
    let leader = c.new-leader.result in
    let write = c.in-Ok.write in
    writes told here c.args.soft.now c.settle.new.soft c.args.client c.args.changes.now end next c.in-Ok-write_refusal.refusal leader c.server_of-server.result write c.in_ok-advanced.advanced c.settle.result
    c.requires.node.told (whole_at told (v.sees here.view.now).length end c.in_ok-end.ensures.position c.requires.node.whole)
    (c.next_of-next.ensures ∙ ap (λ n. next_in n here.gtids.now) server_is)
    (asked here c.args.soft.now c.schema.result.now next end c.server_of-server.result c.args.client write c.args.changes.now c.in-Ok-write_refusal.refusal c.in-Ok-write_refusal.ensures c.schema.ensures c.in-Ok.ensures server_is)
    c.in-None.is c.in-Ok.ensures server_is
    c.new-leader.ensures
    (same_told (v.sees c.last.new.view) (v.sees here.view.now) (λ (log : List Entry). c.in_ok-advanced.advanced ≡ write_by leader.engine.ring.now leader.engine.me leader.term log leader.engine.applied leader.engine.pairs.now leader.commit leader.peers.now leader.pending.now write.client write.txn end) c.in_ok-end.ensures.keeps.same c.in_ok-advanced.ensures.told)
    c.settle.ensures.plan c.settle.ensures.soft
