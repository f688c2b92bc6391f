-- A numeral that a 16-bit number has no room for is above every limit.
use Rattle.std.proofs.Common.{◌≡◌, ℕ, ◌<◌, ◌≤◌, ◌^◌, true, List, length, None, Result, Err, rules, arith}
use Rattle.std.specs.List.{list_all}
use Rattle.std.specs.Str.Parse.{ParsesUnsigned, digits_value}
use Rattle.std.proofs.lemmas.Bool.{and_parts}
use Rattle.std.proofs.lemmas.Bool.Decides.{nat_tests}
use Rattle.std.proofs.lemmas.Result.{OkIff-at_err}
use Rattle.std.proofs.lemmas.Str.Parse.{IsNumeralModel, numerals_by_value, parse_digits}
use Rattle.ring_file.specs.Columns.{is_digit, is_numeral, limit_of}
use Rattle.ring_file.proofs.columns.limit_of.Goals as goal

own : IsNumeralModel (λ ds. list_all is_digit ds ≡ true) (digits_value 10)
own = numerals_by_value _ (search rules)

too_large : {E : Type 0} (text : List ℕ) (r : Result ℕ E) (e : E) → ParsesUnsigned 16 10 text r → is_numeral text ≡ true → r ≡ Err e → None ≡ limit_of text
too_large text r e parses numeral failed =
    let (front, digits) = and_parts _ (list_all is_digit text) numeral in
    let some : 0 < length text = grind (arith, nat_tests) in
    let over = OkIff-at_err r _ _ e (parse_digits own 16 text r parses digits) failed in
    let large : 2 ^ 16 ≤ digits_value 10 text = grind (arith, nat_tests, over) in
    grind (arith, nat_tests)

pub returns-in-Err : goal.returns-in-Err
returns-in-Err c = too_large c.args.text.now c.parse.result _ c.parse.ensures.value.0 (grind (arith, nat_tests)) c.in-Err.is
