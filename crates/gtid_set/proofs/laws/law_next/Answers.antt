use Rattle.gtid_set.proofs.Greatest.{next_is_next}
use Rattle.gtid_set.proofs.laws.law_next.Goals as goal

pub returns : goal.returns
returns c = next_is_next
