-- the sets of the servers so far
use Rattle.std.proofs.Common.{◌≡◌, map, take}
use Rattle.ring_types.specs.Gtids as spec
use Rattle.ring_plain.proofs.gtid_numbers.set_of.Given as goal

abbrev pub invariant-loop-server : goal.invariant-loop-server
invariant-loop-server l = l.sets ≡ map (spec.server_set l.gtids) (take l.server-index l.server-items)
