use Rattle.binlog_store.proofs.Undamaged.{stands_undamaged}
use Rattle.binlog_store.proofs.laws.law_undamaged.Goals as goal

pub returns : goal.returns
returns c = stands_undamaged
