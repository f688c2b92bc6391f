use Rattle.std.proofs.Common.{◌≡◌, ◌∙◌, sym, ap, refl, false, nat_le, arith}
use Rattle.std.proofs.lemmas.Bool.Decides.{nat_tests}
use Rattle.gtid_set.specs.Ranges.{intervals}
use Rattle.gtid_set.proofs.Begun.{reaches}
use Rattle.gtid_set.proofs.Entries.{number_absent}
use Rattle.gtid_set.proofs.intervals.remove_number.Goals as goal

pub returns-in_default-clause-ok : goal.returns-in_default-clause-ok
returns-in_default-clause-ok c =
    let out : nat_le c.args.number c.in-Some.interval.last ≡ false = grind (arith, nat_tests, c.if-number-interval.false) in
    sym (number_absent 0 c.args.number (intervals c.args.ends.now.entries) c.requires (sym (ap (reaches c.args.number) c.in-Some.ensures) ∙ out))

pub returns-in_default-2-clause-ok : goal.returns-in_default-2-clause-ok
returns-in_default-2-clause-ok c =
    let none = sym c.begun_by.ensures ∙ c.in_default.is in
    sym (number_absent 0 c.args.number (intervals c.args.ends.now.entries) c.requires (ap (reaches c.args.number) none))
