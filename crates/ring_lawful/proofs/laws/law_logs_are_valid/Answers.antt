use Rattle.ring_lawful.proofs.Chosen.{every_log_is_valid}
use Rattle.ring_lawful.proofs.laws.law_logs_are_valid.Goals as goal

pub returns : goal.returns
returns c = every_log_is_valid
