-- what is found, with what is still to be read, gives the whole
use Rattle.std.proofs.Common.{◌≡◌, []}
use Rattle.gtid_set.specs.Reading.{intervals_at}
use Rattle.gtid_set.proofs.bytes.intervals_at.Given as goal

abbrev pub invariant-loop-left : goal.invariant-loop-left
invariant-loop-left l = intervals_at l.found.items l.left l.rest ≡ intervals_at [] l.count l.bytes

abbrev pub decreases-loop-left : goal.decreases-loop-left
decreases-loop-left l = l.left
