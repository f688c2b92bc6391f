use Rattle.engine_redo.proofs.OneEngine.{one_engine}
use Rattle.engine_redo.proofs.laws.law_one_engine.Goals as goal

pub returns : goal.returns
returns c = one_engine
