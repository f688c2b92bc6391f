use Rattle.gtid_set.proofs.Made.{is_canonical_of_any}
use Rattle.gtid_set.proofs.laws.law_canonical.Goals as goal

pub returns : goal.returns
returns c = is_canonical_of_any
