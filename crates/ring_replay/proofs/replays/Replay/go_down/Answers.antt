use Rattle.std.proofs.Common.{[], Option, refl, subst}
use Rattle.ring_model.specs.Worlds.{GoDown}
use Rattle.ring_model.specs.declared.worlds.Shown.{Shown}
use Rattle.ring_replay.specs.Fit.{KeepsChosen}
use Rattle.ring_replay.specs.Steps.{downed_node, turn_of}
use Rattle.ring_replay.proofs.Held.{some_there}
use Rattle.ring_replay.proofs.Turning.{few_after, held_after, inside_after, keeps_after, world_after}
use Rattle.ring_replay.proofs.replays.Replay.go_down.Goals as goal

pub keep_turn-requires-clause-few : goal.keep_turn-requires-clause-few
keep_turn-requires-clause-few c =
    let p = some_there c.args.self.now.world.nodes c.args.place c.requires.node in
    few_after c.args.self.now.world c.stop_at.new.self.world c.args.place _ (downed_node p.0) (c.stop_at.ensures.world p.0 p.1) c.requires.few

pub keep_turn-requires-clause-node : goal.keep_turn-requires-clause-node
keep_turn-requires-clause-node c =
    let p = some_there c.args.self.now.world.nodes c.args.place c.requires.node in
    inside_after c.args.self.now.world c.stop_at.new.self.world c.args.place (downed_node p.0) (c.stop_at.ensures.world p.0 p.1) c.requires.node

pub keep_turn-requires-clause-keeps : goal.keep_turn-requires-clause-keeps
keep_turn-requires-clause-keeps c = λ s at.
    let p = some_there c.args.self.now.world.nodes c.args.place c.requires.node in
    let keeps = subst (λ (o : Option Shown). KeepsChosen c.args.self.now.world (turn_of c.args.ring.now c.args.self.now.world c.args.place GoDown o)) p.1 c.requires.keeps in
    keeps_after c.args.self.now.world c.stop_at.new.self.world c.args.place (downed_node p.0) s _ [] _ [] (c.stop_at.ensures.world p.0 p.1) c.requires.node c.new.ensures refl keeps at

pub returns-clause-world : goal.returns-clause-world
returns-clause-world c =
    let p = some_there c.args.self.now.world.nodes c.args.place c.requires.node in
    let made = world_after c.keep_turn.result c.args.self.now.world c.stop_at.new.self.world c.keep_turn.new.self.world c.args.place (downed_node p.0) _ [] _ [] (c.stop_at.ensures.world p.0 p.1) c.requires.node c.new.ensures refl c.keep_turn.ensures.world in
    rw p.1 made

pub returns-clause-held : goal.returns-clause-held
returns-clause-held c =
    let p = some_there c.args.self.now.world.nodes c.args.place c.requires.node in
    held_after c.args.ring.now c.keep_turn.result c.args.self.now c.stop_at.new.self c.keep_turn.new.self c.args.place (downed_node p.0) _ _ (c.stop_at.ensures.world p.0 p.1) c.requires.node (c.stop_at.ensures.held c.args.ring.now c.requires.held) c.keep_turn.ensures.world c.keep_turn.ensures.engines
