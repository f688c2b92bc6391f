use Rattle.ring_lawful.proofs.Chosen.{every_run_is_safe}
use Rattle.ring_lawful.proofs.laws.law_safe.Goals as goal

pub returns : goal.returns
returns c = every_run_is_safe
