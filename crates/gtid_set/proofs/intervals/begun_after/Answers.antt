use Rattle.std.proofs.Common.{◌∙◌, sym}
use Rattle.gtid_set.proofs.Begun.{first_shown, no_first_shown}
use Rattle.gtid_set.proofs.intervals.begun_after.Goals as goal

pub returns-in-Some : goal.returns-in-Some
returns-in-Some c =
    first_shown c.args.number c.args.ends.now.entries c.next.new.self (c.in-Some.first.now, c.in-Some.last.now) (sym (c.range.ensures.between tt) ∙ c.in-Some.ensures.steps)

pub returns-in-None : goal.returns-in-None
returns-in-None c = no_first_shown c.args.number c.args.ends.now.entries (sym (c.range.ensures.between tt) ∙ c.in-None.ensures.steps.0)
