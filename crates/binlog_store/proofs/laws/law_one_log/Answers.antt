use Rattle.binlog_store.proofs.OneContent.{one_log_at_most}
use Rattle.binlog_store.proofs.laws.law_one_log.Goals as goal

pub returns : goal.returns
returns c = one_log_at_most
