use Rattle.event_txn.proofs.SpelledTxns.{txn_again}
use Rattle.event_txn.proofs.laws.law_txn_again.Goals as goal

pub returns : goal.returns
returns c = λ schema txn position place rest is some. txn_again schema txn position place rest is some
