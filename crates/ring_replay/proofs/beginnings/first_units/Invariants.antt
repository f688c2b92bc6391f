-- the units of the members so far
use Rattle.std.proofs.Common.{◌≡◌, map, take}
use Rattle.ring_replay.specs.Replays.{first_unit}
use Rattle.ring_replay.proofs.beginnings.first_units.Given as goal

abbrev pub invariant-loop-member : goal.invariant-loop-member
invariant-loop-member l = l.units.items ≡ map (first_unit l.ring) (take l.member-index l.members)
