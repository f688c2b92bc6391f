use Rattle.std.proofs.Common.{ap}
use Rattle.node_unit.specs.Units.{UnitState}
use Rattle.std.specs.Prelude.{List, map}
use Rattle.ring_replay.proofs.Held.{first_held, first_world_is}
use Rattle.ring_replay.proofs.replays.Replay.new.Goals as goal

pub returns-clause-world : goal.returns-clause-world
returns-clause-world c =
    first_world_is c.args.ring.now c.in_ok-nodes.nodes.items c.in_ok-cursors.cursors _ _ _ _ c.in_ok-nodes.ensures c.in_ok-cursors.ensures c.new-6.ensures c.new-3.ensures c.new-4.ensures c.new-5.ensures

pub returns-clause-held : goal.returns-clause-held
returns-clause-held c =
    first_held c.args.ring.now _
    (first_world_is c.args.ring.now c.in_ok-nodes.nodes.items c.in_ok-cursors.cursors _ _ _ _ c.in_ok-nodes.ensures c.in_ok-cursors.ensures c.new-6.ensures c.new-3.ensures c.new-4.ensures c.new-5.ensures)
    (ap (λ (units : List UnitState). map (λ (u : UnitState). u.engine) units) c.in_ok-nodes.ensures)
