use Rattle.event_txn.proofs.TakenTxns.{txn_takes}
use Rattle.event_txn.proofs.laws.law_txn_takes.Goals as goal

pub returns : goal.returns
returns c = λ schema bytes position place read h fits e. txn_takes schema bytes position place read h fits e
