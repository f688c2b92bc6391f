use Rattle.std.proofs.Common.{◌≡◌, ◌^◌, ◌<◌, drop}
use Rattle.schedule_text.specs.Numbers.{number_after}
use Rattle.schedule_text.proofs.numbers.number_of_digits.Given as goal

abbrev pub invariant-loop-digit : goal.invariant-loop-digit
invariant-loop-digit l = (number_after l.number (drop l.digit-index l.word) ≡ number_after 0 l.word) × (l.number < 2 ^ 64)
