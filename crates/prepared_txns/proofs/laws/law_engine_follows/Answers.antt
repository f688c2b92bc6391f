use Rattle.prepared_txns.proofs.Following.{engine_follows}
use Rattle.prepared_txns.proofs.laws.law_engine_follows.Goals as goal

pub returns : goal.returns
returns c = engine_follows
