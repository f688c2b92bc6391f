use Rattle.std.proofs.Common.{◌≡◌, drop}
use Rattle.gtid_set.specs.Pieces.{number_after}
use Rattle.gtid_set.proofs.texts.number_in.Given as goal

abbrev pub invariant-loop-digit : goal.invariant-loop-digit
invariant-loop-digit l = number_after l.number (drop l.digit-index l.digits) ≡ number_after 0 l.digits
