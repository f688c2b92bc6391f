use Rattle.row_engine.proofs.OfLog.{last_change_decides}
use Rattle.row_engine.proofs.laws.law_last_change.Goals as goal

pub returns : goal.returns
returns c = last_change_decides
