-- the GTIDs of what was read so far
use Rattle.std.proofs.Common.{◌≡◌, take}
use Rattle.ring_types.specs.Gtids as spec
use Rattle.ring_plain.proofs.gtid_numbers.gtids_in.Given as goal

abbrev pub invariant-loop-entry : goal.invariant-loop-entry
invariant-loop-entry l = l.found ≡ spec.gtids_in (take l.entry-index l.log)
