use Rattle.gtid_set.proofs.Begun.{last_end}
use Rattle.gtid_set.proofs.intervals.greatest.Goals as goal

pub returns-in-Some : goal.returns-in-Some
returns-in-Some c = last_end 0 c.args.ends.now.entries (c.in-Some.field-0-0.now, c.in-Some.last.now) c.in-Some.ensures.last
