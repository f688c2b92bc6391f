-- what is found, with what is still to be read, is the whole
use Rattle.std.proofs.Common.{◌≡◌, ◌++◌, map}
use Rattle.std.specs.Option.{option_copied}
use Rattle.gtid_set.specs.Pieces.{pieces_left, interval_in}
use Rattle.gtid_set.proofs.TextAgain.{left_of}
use Rattle.gtid_set.proofs.texts.intervals_in.Given as goal

abbrev pub invariant-loop-rest : goal.invariant-loop-rest
invariant-loop-rest l = l.found.items ++ map interval_in (pieces_left 58 (option_copied l.rest)) ≡ map interval_in (pieces_left 58 (option_copied l.initial.rest))

abbrev pub decreases-loop-rest : goal.decreases-loop-rest
decreases-loop-rest l = left_of (option_copied l.rest)
