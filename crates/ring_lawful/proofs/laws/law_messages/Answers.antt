use Rattle.ring_lawful.proofs.EveryRun.{every_message_is_nearly_well_formed}
use Rattle.ring_lawful.proofs.laws.law_messages.Goals as goal

pub returns : goal.returns
returns c = every_message_is_nearly_well_formed
