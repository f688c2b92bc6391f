use Rattle.std.proofs.Common.{◌≡◌, subst, sym}
use Rattle.std.specs.Prelude.{IfOk}
use Rattle.std.specs.Option.{option_map}
use Rattle.ring_model.specs.declared.worlds.Shown.{Shown}
use Rattle.node_unit.specs.Units.{after_answer, answered, outcome_of}
use Rattle.node_unit.proofs.Acting.{answer_keeps, on_ok, on_ok2}
use Rattle.ring_replay.proofs.Turning.{at_place, has_engine, is_there, put_held, put_world, there}
use Rattle.ring_replay.proofs.replays.Replay.step_at.Goals as goal

pub step-requires-clause-of : goal.step-requires-clause-of
step-requires-clause-of c =
    let world = record c.self.inside.world { messages = c.self.inside.sent } in
    has_engine c.args.ring.now world c.self.inside.nodes.items c.args.self.now c.args.place c.index_mut.result.now c.self.view_is (at_place world c.self.inside.nodes.items c.args.self.now c.args.place c.index_mut.result.now c.self.view_is c.requires.node c.index_mut.ensures.value) c.requires.held

pub step-requires-clause-fit : goal.step-requires-clause-fit
step-requires-clause-fit c =
    let world = record c.self.inside.world { messages = c.self.inside.sent } in
    c.requires.fit.nodes c.args.place c.index_mut.result.now.shown (there world c.self.inside.nodes.items c.args.self.now c.args.place c.index_mut.result.now c.self.view_is (at_place world c.self.inside.nodes.items c.args.self.now c.args.place c.index_mut.result.now c.self.view_is c.requires.node c.index_mut.ensures.value))

pub returns-clause-world : goal.returns-clause-world
returns-clause-world c = λ s at.
    let world = record c.self.inside.world { messages = c.self.inside.sent } in
    on_ok _ _ c.step.result
    (put_world (λ (x : Shown). after_answer x (answered c.args.ring.now c.args.input.now x)) world c.self.inside.nodes.items c.args.self.now c.args.place c.index_mut.result.now c.step.new.self s
    c.self.view_is (at_place world c.self.inside.nodes.items c.args.self.now c.args.place c.index_mut.result.now c.self.view_is c.requires.node c.index_mut.ensures.value) at)
    c.step.ensures.node

pub returns-clause-gives : goal.returns-clause-gives
returns-clause-gives c = λ s at.
    let world = record c.self.inside.world { messages = c.self.inside.sent } in
    let same = is_there world c.self.inside.nodes.items c.args.self.now c.args.place c.index_mut.result.now s c.self.view_is (at_place world c.self.inside.nodes.items c.args.self.now c.args.place c.index_mut.result.now c.self.view_is c.requires.node c.index_mut.ensures.value) at in
    subst (λ (x : Shown). IfOk c.step.result (λ it. it ≡ option_map outcome_of (answered c.args.ring.now c.args.input.now x))) (sym same) c.step.ensures.gives

pub returns-clause-held : goal.returns-clause-held
returns-clause-held c =
    let world = record c.self.inside.world { messages = c.self.inside.sent } in
    on_ok2 _ _ _ c.step.result
    (put_held c.args.ring.now (λ (x : Shown). after_answer x (answered c.args.ring.now c.args.input.now x)) world c.self.inside.nodes.items c.args.self.now c.args.place c.index_mut.result.now c.step.new.self
    (answer_keeps c.args.ring.now c.args.input.now) c.self.view_is (at_place world c.self.inside.nodes.items c.args.self.now c.args.place c.index_mut.result.now c.self.view_is c.requires.node c.index_mut.ensures.value) c.requires.held)
    c.step.ensures.node c.step.ensures.engine
