use Rattle.std.proofs.Common.{◌≡◌, ◌-◌, List, drop}
use Rattle.ring_types.specs.declared.entries.Entry.{Entry}
use Rattle.ring_model.specs.Replication.{batch_of}
use Rattle.commit_pipeline.proofs.Counting.{same_told}
use Rattle.replicate_core.proofs.Beating.{sends}
use Rattle.replicate_core.proofs.beats.beat_to.Goals as goal

pub returns-in-Ok-clause-told : goal.returns-in-Ok-clause-told
returns-in-Ok-clause-told g c =
    let v = g.V.LogView in
    let x = c.args.sender.now in
    sends (v.sees c.args.view.now).log x.ring.now x.me x.term x.commit x.peers.now c.args.peer c.in_ok-term.term c.schema.result.now c.in_ok-entries.entries
    c.in-Ok.message
    c.in_ok-term.ensures.told c.schema.ensures
    (same_told (v.sees c.term_at.new.view) (v.sees c.args.view.now) (λ (log : List Entry). c.in_ok-entries.entries ≡ batch_of c.schema.result.now
    (drop (c.args.peer.next - 1) log)) c.in_ok-term.ensures.keeps.same c.in_ok-entries.ensures.told)
    c.in-Ok.ensures
