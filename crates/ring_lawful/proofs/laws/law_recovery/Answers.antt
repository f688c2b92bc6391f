use Rattle.ring_lawful.proofs.Recovery.{every_recovery_is_lawful}
use Rattle.ring_lawful.proofs.laws.law_recovery.Goals as goal

pub returns : goal.returns
returns c = every_recovery_is_lawful
