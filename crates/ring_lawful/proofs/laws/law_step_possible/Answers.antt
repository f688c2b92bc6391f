use Rattle.ring_lawful.proofs.EachStep.{every_step_is_possible}
use Rattle.ring_lawful.proofs.laws.law_step_possible.Goals as goal

pub returns : goal.returns
returns c = every_step_is_possible
