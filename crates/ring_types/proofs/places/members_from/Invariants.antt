-- the members so far are those of the parts read
use Rattle.std.proofs.Common.{◌≡◌, take, map}
use Rattle.ring_types.specs.Rings.{member_from}
use Rattle.ring_types.proofs.places.members_from.Given as goal

abbrev pub invariant-loop-part : goal.invariant-loop-part
invariant-loop-part l = l.members ≡ map (member_from l.regions) (take l.part-index l.part-items)
