use Rattle.ring_lawful.proofs.StepSends.{every_step_sends_well_formed}
use Rattle.ring_lawful.proofs.laws.law_step_sends.Goals as goal

pub returns : goal.returns
returns c = every_step_sends_well_formed
