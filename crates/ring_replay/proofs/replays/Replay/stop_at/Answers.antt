use Rattle.std.proofs.Common.{ap, refl}
use Rattle.ring_model.specs.declared.worlds.Shown.{Shown}
use Rattle.node_unit.specs.Units.{UnitState}
use Rattle.ring_replay.specs.Steps.{downed_node}
use Rattle.ring_replay.proofs.Turning.{at_place, put_held, put_world}
use Rattle.ring_replay.proofs.replays.Replay.stop_at.Goals as goal

pub returns-clause-world : goal.returns-clause-world
returns-clause-world c = λ s at.
    let world = record c.self.inside.world { messages = c.self.inside.sent } in
    put_world downed_node world c.self.inside.nodes.items c.args.self.now c.args.place c.index_mut.result.now c.stop.new.self s c.self.view_is (at_place world c.self.inside.nodes.items c.args.self.now c.args.place c.index_mut.result.now c.self.view_is c.requires.node c.index_mut.ensures.value) at
    (ap (λ (u : UnitState). u.shown) c.stop.ensures)

pub returns-clause-held : goal.returns-clause-held
returns-clause-held c = λ ring held.
    let world = record c.self.inside.world { messages = c.self.inside.sent } in
    put_held ring downed_node world c.self.inside.nodes.items c.args.self.now c.args.place c.index_mut.result.now c.stop.new.self (λ (s : Shown). refl) c.self.view_is (at_place world c.self.inside.nodes.items c.args.self.now c.args.place c.index_mut.result.now c.self.view_is c.requires.node c.index_mut.ensures.value) held
    (ap (λ (u : UnitState). u.shown) c.stop.ensures) (ap (λ (u : UnitState). u.engine) c.stop.ensures)
