use Rattle.ring_lawful.proofs.EachStep.{every_step_keeps_lawful}
use Rattle.ring_lawful.proofs.laws.law_step_lawful.Goals as goal

pub returns : goal.returns
returns c = every_step_keeps_lawful
