use Rattle.entry_group.proofs.OneLog.{one_log}
use Rattle.entry_group.proofs.laws.law_files.Goals as goal

pub returns : goal.returns
returns c = one_log
