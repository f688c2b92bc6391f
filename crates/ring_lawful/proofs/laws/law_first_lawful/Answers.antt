use Rattle.ring_lawful.proofs.Recovery.{every_first_node_is_lawful}
use Rattle.ring_lawful.proofs.laws.law_first_lawful.Goals as goal

pub returns : goal.returns
returns c = every_first_node_is_lawful
