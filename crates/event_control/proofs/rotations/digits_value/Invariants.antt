use Rattle.std.proofs.Common.{◌≡◌, ◌+◌, ◌-◌, ◌*◌, ◌^◌, ◌<◌, ℕ, drop}
use Rattle.std.specs.Prelude.{fold}
use Rattle.std.specs.List.{list_all}
use Rattle.event_control.specs.Bodies.{is_digit, digits_value}
use Rattle.event_control.proofs.rotations.digits_value.Given as goal

-- the number so far fits its digits; with it the digits that are left spell the whole; and whether all are digits depends on those that are left
abbrev pub invariant-loop-digit : goal.invariant-loop-digit
invariant-loop-digit l =
    (l.number < 10 ^ l.digit-index)
    × (fold (λ (n digit : ℕ). 10 * n + (digit - 48)) l.number (drop l.digit-index l.digits) ≡ digits_value l.digits)
    × (list_all is_digit (drop l.digit-index l.digits) ≡ list_all is_digit l.digits)
