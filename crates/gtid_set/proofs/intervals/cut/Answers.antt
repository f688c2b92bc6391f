use Rattle.std.proofs.Common.{◌≡◌, ◌∙◌, ap, refl, true, false, nat_lt, arith}
use Rattle.std.proofs.lemmas.Bool.Decides.{nat_tests}
use Rattle.gtid_set.specs.Ranges.{intervals, ended_before}
use Rattle.gtid_set.proofs.Entries.{ended_is, number_cut}
use Rattle.gtid_set.proofs.intervals.cut.Goals as goal

pub returns-in_ok-insert-clause-ok : goal.returns-in_ok-insert-clause-ok
returns-in_ok-insert-clause-ok c =
    let x = c.args.interval in
    let n = c.args.number in
    let es = c.args.ends.now.entries in
    let above : nat_lt n x.last ≡ true = grind (arith, nat_tests, c.if-number-interval.true) in
    ap intervals
    (c.end_before.ensures ∙ ap (ended_before x.first n) c.in_ok-insert.ensures.entries ∙ ended_is n (x.first, x.last) true (nat_lt x.first n) es refl)
    ∙ number_cut 0 n x true (nat_lt x.first n) es above refl c.requires.merged c.requires.begun c.requires.ends

pub returns-else-number-interval-clause-ok : goal.returns-else-number-interval-clause-ok
returns-else-number-interval-clause-ok c =
    let x = c.args.interval in
    let n = c.args.number in
    let es = c.args.ends.now.entries in
    let above : nat_lt n x.last ≡ false = grind (arith, nat_tests, c.if-number-interval.false) in
    ap intervals (c.end_before-else-number-interval.ensures ∙ ended_is n (x.first, x.last) false (nat_lt x.first n) es refl)
    ∙ number_cut 0 n x false (nat_lt x.first n) es above refl c.requires.merged c.requires.begun c.requires.ends
