use Rattle.gtid_set.proofs.Has.{has_exactly_them}
use Rattle.gtid_set.proofs.laws.law_has.Goals as goal

pub returns : goal.returns
returns c = has_exactly_them
