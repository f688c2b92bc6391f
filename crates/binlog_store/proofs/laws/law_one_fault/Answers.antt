use Rattle.binlog_store.proofs.OneFault.{one_fault_at_most}
use Rattle.binlog_store.proofs.laws.law_one_fault.Goals as goal

pub returns : goal.returns
returns c = one_fault_at_most
