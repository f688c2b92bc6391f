use Rattle.event_txn.proofs.GroupSizes.{txn_length}
use Rattle.event_txn.proofs.laws.law_txn_length.Goals as goal

pub returns : goal.returns
returns c = λ schema txn position place tables fit. txn_length schema txn position place tables fit
