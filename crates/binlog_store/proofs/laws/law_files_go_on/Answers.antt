use Rattle.binlog_store.proofs.Continuing.{files_go_on}
use Rattle.binlog_store.proofs.laws.law_files_go_on.Goals as goal

pub returns : goal.returns
returns c = files_go_on
