use Rattle.std.proofs.Common.{refl}
use Rattle.ring_model.specs.declared.worlds.Shown.{Shown}
use Rattle.ring_replay.specs.Steps.{restarted_node}
use Rattle.node_unit.proofs.Acting.{on_ok, on_ok2}
use Rattle.ring_replay.proofs.Turning.{at_place, put_held, put_world, there}
use Rattle.ring_replay.proofs.replays.Replay.start_at.Goals as goal

pub restart-requires : goal.restart-requires
restart-requires c =
    let world = record c.self.inside.world { messages = c.self.inside.sent } in
    c.requires.log c.index_mut.result.now.shown (there world c.self.inside.nodes.items c.args.self.now c.args.place c.index_mut.result.now c.self.view_is (at_place world c.self.inside.nodes.items c.args.self.now c.args.place c.index_mut.result.now c.self.view_is c.requires.node c.index_mut.ensures.value))

pub returns-clause-world : goal.returns-clause-world
returns-clause-world c = λ s at.
    let world = record c.self.inside.world { messages = c.self.inside.sent } in
    on_ok _ _ c.restart.result
    (put_world restarted_node world c.self.inside.nodes.items c.args.self.now c.args.place c.index_mut.result.now c.restart.new.self s c.self.view_is (at_place world c.self.inside.nodes.items c.args.self.now c.args.place c.index_mut.result.now c.self.view_is c.requires.node c.index_mut.ensures.value) at)
    c.restart.ensures.node

pub returns-clause-held : goal.returns-clause-held
returns-clause-held c = λ ring held.
    let world = record c.self.inside.world { messages = c.self.inside.sent } in
    on_ok2 _ _ _ c.restart.result
    (put_held ring restarted_node world c.self.inside.nodes.items c.args.self.now c.args.place c.index_mut.result.now c.restart.new.self (λ (s : Shown). refl) c.self.view_is (at_place world c.self.inside.nodes.items c.args.self.now c.args.place c.index_mut.result.now c.self.view_is c.requires.node c.index_mut.ensures.value) held)
    c.restart.ensures.node c.restart.ensures.engine
