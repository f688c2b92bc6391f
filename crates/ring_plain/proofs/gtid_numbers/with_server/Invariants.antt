-- what passed stands before what becomes of the rest
use Rattle.std.proofs.Common.{◌≡◌, ◌++◌, length}
use Rattle.ring_types.specs.Gtids as spec
use Rattle.ring_plain.proofs.gtid_numbers.with_server.Given as goal

abbrev pub invariant-loop-rest : goal.invariant-loop-rest
invariant-loop-rest l = l.passed ++ spec.with_number l.server l.rest ≡ spec.with_number l.server l.servers

abbrev pub decreases-loop-rest : goal.decreases-loop-rest
decreases-loop-rest l = length l.rest
