use Rattle.std.proofs.Common.{◌<◌, length, drop, get_or, ◌+◌, ◌-◌, ◌*◌, arith}
use Rattle.schedule_text.proofs.Digits.{number_more, number_grows}
use Rattle.schedule_text.proofs.numbers.number_of_digits.Goals as goal

pub returns-in_default : goal.returns-in_default
returns-in_default c = λ h.
    let n = c.loop-digit.number in
    let ds = c.args.word.now in
    let i = c.loop-digit.digit-index in
    let lt : i < length ds = omega arith in
    let more = number_more n ds i lt in
    let grows = number_grows (n * 10 + (get_or ds i 0 - 48)) (drop (i + 1) ds) in
    c.in_default.ensures (omega (arith, more, grows, c.loop-digit.invariant.0))
