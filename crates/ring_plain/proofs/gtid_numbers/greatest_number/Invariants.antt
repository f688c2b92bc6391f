-- the greatest so far
use Rattle.std.proofs.Common.{◌≡◌, take}
use Rattle.ring_types.specs.Gtids as spec
use Rattle.ring_plain.proofs.gtid_numbers.greatest_number.Given as goal

abbrev pub invariant-loop-entry : goal.invariant-loop-entry
invariant-loop-entry l = l.greatest ≡ spec.greatest_number l.server (take l.entry-index l.log)
