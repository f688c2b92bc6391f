use Rattle.std.proofs.Common.{◌≡◌, List, map, ap, ap₂, ◌∙◌}
use Rattle.ring_types.specs.declared.entries.Entry.{Entry}
use Rattle.ring_model.specs.declared.effects.Action.{Action}
use Rattle.ring_model.specs.declared.effects.Plan.{Plan}
use Rattle.ring_model.specs.declared.effects.Say.{Say}
use Rattle.ring_model.specs.Replication.{beat_to, quieter}
use Rattle.commit_pipeline.proofs.Counting.{same_told}
use Rattle.replicate_core.specs.Beats.{knows_of, sends_of}
use Rattle.replicate_core.proofs.Beating.{beats, rests}
use Rattle.replicate_core.proofs.beats.beat.Goals as goal

pub returns-then-not-is_leader-clause-told : goal.returns-then-not-is_leader-clause-told
returns-then-not-is_leader-clause-told g c =
    rests (g.V.LogView.sees c.args.here.view.now).log c.args.here c.args.soft.now c.is_leader.result c.idle.result c.is_leader.ensures
    c.if-not-is_leader.true c.idle.ensures

pub returns-clause-told : goal.returns-clause-told
returns-clause-told g c =
    let v = g.V.LogView in
    let here = c.args.here in
    let s = c.args.soft.now in
    let known = c.as_slice.result.now in
    let messages = c.in_ok-messages.messages in
    let F : List Action → List Say → Plan = λ actions says. record { actions = actions; messages = messages; says = says } in
    beats (v.sees here.view.now).log here s known c.in-Ok.peers messages (F c.new.result c.new-2.result) c.is_leader.result c.is_leader.ensures
    c.if-not-is_leader.false c.as_slice.ensures
    (c.in-Ok.ensures ∙ ap (map quieter) c.as_slice-2.ensures) (ap₂ F c.new.ensures c.new-2.ensures)
    (same_told (v.sees c.last.new.view) (v.sees here.view.now) (λ (log : List Entry). messages ≡ map
    (beat_to here.ring.now here.me (sends_of here.term log) (knows_of s.commit known)) known) c.in_ok-end.ensures.keeps.same c.in_ok-messages.ensures.told)
