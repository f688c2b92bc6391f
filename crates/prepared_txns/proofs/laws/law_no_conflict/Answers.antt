use Rattle.prepared_txns.proofs.Unheld.{free_without_conflict}
use Rattle.prepared_txns.proofs.laws.law_no_conflict.Goals as goal

pub returns : goal.returns
returns c = free_without_conflict
