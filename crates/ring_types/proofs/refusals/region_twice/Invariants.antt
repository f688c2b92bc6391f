-- the rest names one twice exactly if all do
use Rattle.std.proofs.Common.{◌≡◌, length}
use Rattle.ring_types.specs.Names.{has_text_twice}
use Rattle.ring_types.proofs.refusals.region_twice.Given as goal

abbrev pub invariant-loop-rest : goal.invariant-loop-rest
invariant-loop-rest l = has_text_twice l.rest ≡ has_text_twice l.regions

abbrev pub decreases-loop-rest : goal.decreases-loop-rest
decreases-loop-rest l = length l.rest
