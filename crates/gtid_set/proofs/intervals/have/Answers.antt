use Rattle.std.proofs.Common.{◌∙◌, ap}
use Rattle.gtid_set.specs.Ranges.{intervals}
use Rattle.gtid_set.proofs.Begun.{reaches, have_is}
use Rattle.gtid_set.proofs.intervals.have.Goals as goal

pub returns-in-Some : goal.returns-in-Some
returns-in-Some c = ap (reaches c.args.number) c.in-Some.ensures ∙ have_is 0 c.args.number (intervals c.args.ends.now.entries) c.requires

pub returns-in-None : goal.returns-in-None
returns-in-None c = ap (reaches c.args.number) c.in-None.ensures ∙ have_is 0 c.args.number (intervals c.args.ends.now.entries) c.requires
