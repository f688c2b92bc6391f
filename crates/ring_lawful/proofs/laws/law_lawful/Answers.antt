use Rattle.ring_lawful.proofs.EveryRun.{every_running_node_is_lawful}
use Rattle.ring_lawful.proofs.laws.law_lawful.Goals as goal

pub returns : goal.returns
returns c = every_running_node_is_lawful
