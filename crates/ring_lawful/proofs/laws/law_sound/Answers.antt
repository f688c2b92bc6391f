use Rattle.ring_lawful.proofs.EveryRun.{every_node_is_sound}
use Rattle.ring_lawful.proofs.laws.law_sound.Goals as goal

pub returns : goal.returns
returns c = every_node_is_sound
