use Rattle.gtid_set.proofs.OneSet.{one_set_has_them}
use Rattle.gtid_set.proofs.laws.law_one_set.Goals as goal

pub returns : goal.returns
returns c = one_set_has_them
