-- the server's numbers in what was read so far
use Rattle.std.proofs.Common.{◌≡◌, take}
use Rattle.ring_types.specs.Gtids as spec
use Rattle.ring_plain.proofs.gtid_numbers.numbers_of.Given as goal

abbrev pub invariant-loop-gtid : goal.invariant-loop-gtid
invariant-loop-gtid l = l.numbers ≡ spec.numbers_of l.server (take l.gtid-index l.gtids)
