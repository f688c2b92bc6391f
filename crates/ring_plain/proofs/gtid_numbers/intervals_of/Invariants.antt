-- the closed intervals stand before what the open one and the numbers that are left make
use Rattle.std.proofs.Common.{◌≡◌, ◌++◌, drop}
use Rattle.ring_types.specs.Gtids as spec
use Rattle.ring_plain.proofs.Merging.{led}
use Rattle.ring_plain.proofs.gtid_numbers.intervals_of.Given as goal

abbrev pub invariant-loop-other : goal.invariant-loop-other
invariant-loop-other l = l.closed ++ led l.first l.last (spec.intervals_of (drop l.other-index l.others)) ≡ spec.intervals_of l.numbers
