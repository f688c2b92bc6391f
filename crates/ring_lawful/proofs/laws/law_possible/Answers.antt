use Rattle.ring_lawful.proofs.EveryRun.{every_plan_is_possible}
use Rattle.ring_lawful.proofs.laws.law_possible.Goals as goal

pub returns : goal.returns
returns c = every_plan_is_possible
