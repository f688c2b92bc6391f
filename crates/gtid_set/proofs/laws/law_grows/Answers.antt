use Rattle.gtid_set.proofs.Made.{grows_with_log}
use Rattle.gtid_set.proofs.laws.law_grows.Goals as goal

pub returns : goal.returns
returns c = grows_with_log
