use Rattle.binlog_store.proofs.OfLog.{are_of_log}
use Rattle.binlog_store.proofs.laws.law_of_log.Goals as goal

pub returns : goal.returns
returns c = are_of_log
