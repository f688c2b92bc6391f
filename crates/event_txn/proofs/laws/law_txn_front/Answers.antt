use Rattle.event_txn.proofs.SpelledTxns.{none_begins_another}
use Rattle.event_txn.proofs.laws.law_txn_front.Goals as goal

pub returns : goal.returns
returns c = λ schema a b position place x y isa isb some e. none_begins_another schema a b position place x y isa isb some e
