use Rattle.ring_lawful.proofs.Chosen.{every_run_chooses_valid}
use Rattle.ring_lawful.proofs.laws.law_chosen_is_valid.Goals as goal

pub returns : goal.returns
returns c = every_run_chooses_valid
