use Rattle.engine_redo.proofs.OneEngine.{one_fault}
use Rattle.engine_redo.proofs.laws.law_one_fault.Goals as goal

pub returns : goal.returns
returns c = one_fault
