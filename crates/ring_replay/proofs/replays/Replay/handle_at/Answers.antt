use Rattle.std.proofs.Common.{ap, refl, sym, subst, ◌∙◌}
use Rattle.ring_replay.specs.Fit.{KeepsChosen}
use Rattle.ring_replay.specs.Steps.{shown_passed}
use Rattle.ring_replay.proofs.Held.{some_there}
use Rattle.node_unit.proofs.Acting.{on_ok}
use Rattle.ring_replay.proofs.Turning.{answered_none, answered_some, few_after, held_after, inside_after, keeps_after, place_within, world_after}
use Rattle.ring_replay.proofs.replays.Replay.handle_at.Goals as goal

pub pass-requires-in-None : goal.pass-requires-in-None
pass-requires-in-None c =
    let world = record c.self.inside.world { messages = c.self.inside.sent } in
    let old = c.args.self.now in
    let p = some_there old.world.nodes c.args.place (place_within world c.self.inside.nodes.items old c.args.place c.len.result c.self.view_is (c.len.ensures ∙ c.self.inside.nodes.ok.0) c.if-place-len.false) in
    record { few = few_after old.world c.step_at.new.self.world c.args.place _ _ (c.in_ok-step_at.ensures.world p.0 p.1) c.requires.few }

pub keep_turn-requires-clause-few : goal.keep_turn-requires-clause-few
keep_turn-requires-clause-few c =
    let world = record c.self.inside.world { messages = c.self.inside.sent } in
    let old = c.args.self.now in
    let p = some_there old.world.nodes c.args.place (place_within world c.self.inside.nodes.items old c.args.place c.len.result c.self.view_is (c.len.ensures ∙ c.self.inside.nodes.ok.0) c.if-place-len.false) in
    few_after old.world c.step_at.new.self.world c.args.place _ _ (c.in_ok-step_at.ensures.world p.0 p.1) c.requires.few

pub keep_turn-requires-clause-node : goal.keep_turn-requires-clause-node
keep_turn-requires-clause-node c =
    let world = record c.self.inside.world { messages = c.self.inside.sent } in
    let old = c.args.self.now in
    let inside = place_within world c.self.inside.nodes.items old c.args.place c.len.result c.self.view_is (c.len.ensures ∙ c.self.inside.nodes.ok.0) c.if-place-len.false in
    let p = some_there old.world.nodes c.args.place inside in
    inside_after old.world c.step_at.new.self.world c.args.place _ (c.in_ok-step_at.ensures.world p.0 p.1) inside

pub keep_turn-requires-clause-keeps : goal.keep_turn-requires-clause-keeps
keep_turn-requires-clause-keeps c = λ s at.
    let world = record c.self.inside.world { messages = c.self.inside.sent } in
    let old = c.args.self.now in
    let inside = place_within world c.self.inside.nodes.items old c.args.place c.len.result c.self.view_is (c.len.ensures ∙ c.self.inside.nodes.ok.0) c.if-place-len.false in
    let p = some_there old.world.nodes c.args.place inside in
    let it = c.in-Some.outcome in
    let turn = answered_some c.args.ring.now old.world c.args.place c.args.input.now p.0 it p.1 (sym c.in-Some.is ∙ c.in_ok-step_at.ensures.gives p.0 p.1) in
    let keeps = subst (KeepsChosen old.world) (sym turn) c.requires.keeps in
    keeps_after old.world c.step_at.new.self.world c.args.place _ s _ it.messages _ it.says (c.in_ok-step_at.ensures.world p.0 p.1) inside refl c.as_slice.ensures keeps at

pub returns-in-None-clause-world : goal.returns-in-None-clause-world
returns-in-None-clause-world c =
    let world = record c.self.inside.world { messages = c.self.inside.sent } in
    let old = c.args.self.now in
    let p = some_there old.world.nodes c.args.place (place_within world c.self.inside.nodes.items old c.args.place c.len.result c.self.view_is (c.len.ensures ∙ c.self.inside.nodes.ok.0) c.if-place-len.false) in
    c.pass-in-None.ensures.world ∙ (ap shown_passed (c.in_ok-step_at.ensures.world p.0 p.1) ∙ answered_none c.args.ring.now old.world c.args.place c.args.input.now p.0 p.1 (sym c.in-None.is ∙ c.in_ok-step_at.ensures.gives p.0 p.1))

pub returns-in-Some-clause-world : goal.returns-in-Some-clause-world
returns-in-Some-clause-world c =
    let world = record c.self.inside.world { messages = c.self.inside.sent } in
    let old = c.args.self.now in
    let inside = place_within world c.self.inside.nodes.items old c.args.place c.len.result c.self.view_is (c.len.ensures ∙ c.self.inside.nodes.ok.0) c.if-place-len.false in
    let p = some_there old.world.nodes c.args.place inside in
    let it = c.in-Some.outcome in
    let turn = answered_some c.args.ring.now old.world c.args.place c.args.input.now p.0 it p.1 (sym c.in-Some.is ∙ c.in_ok-step_at.ensures.gives p.0 p.1) in
    let made = world_after c.keep_turn.result old.world c.step_at.new.self.world c.keep_turn.new.self.world c.args.place _ _ it.messages _ it.says (c.in_ok-step_at.ensures.world p.0 p.1) inside refl c.as_slice.ensures c.keep_turn.ensures.world in
    on_ok _ _ c.keep_turn.result (λ done. done ∙ turn) made

pub returns-in-Some-clause-held : goal.returns-in-Some-clause-held
returns-in-Some-clause-held c =
    let world = record c.self.inside.world { messages = c.self.inside.sent } in
    let old = c.args.self.now in
    let inside = place_within world c.self.inside.nodes.items old c.args.place c.len.result c.self.view_is (c.len.ensures ∙ c.self.inside.nodes.ok.0) c.if-place-len.false in
    let p = some_there old.world.nodes c.args.place inside in
    held_after c.args.ring.now c.keep_turn.result old c.step_at.new.self c.keep_turn.new.self c.args.place _ _ _ (c.in_ok-step_at.ensures.world p.0 p.1) inside c.in_ok-step_at.ensures.held c.keep_turn.ensures.world c.keep_turn.ensures.engines
