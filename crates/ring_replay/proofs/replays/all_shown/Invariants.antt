-- the nodes so far stand before those of the units that are left
use Rattle.std.proofs.Common.{◌≡◌, ◌++◌, length, map}
use Rattle.node_unit.specs.Units.{UnitState}
use Rattle.ring_replay.proofs.replays.all_shown.Given as goal

abbrev pub invariant-loop-units : goal.invariant-loop-units
invariant-loop-units l = l.shown ++ map (λ (u : UnitState). u.shown) l.units.items ≡ map (λ (u : UnitState). u.shown) l.fn.units.items

abbrev pub decreases-loop-units : goal.decreases-loop-units
decreases-loop-units l = length l.units.items
