use Rattle.engine_redo.proofs.OneEngine.{undamaged}
use Rattle.engine_redo.proofs.laws.law_undamaged.Goals as goal

pub returns : goal.returns
returns c = undamaged
