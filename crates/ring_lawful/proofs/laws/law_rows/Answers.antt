use Rattle.ring_lawful.proofs.Chosen.{every_run_applies_chosen}
use Rattle.ring_lawful.proofs.laws.law_rows.Goals as goal

pub returns : goal.returns
returns c = every_run_applies_chosen
