use Rattle.std.proofs.lemmas.Result.{IfOk-weaker}
use Rattle.binlog_store.proofs.LogSets.{short_set}
use Rattle.binlog_store.proofs.log_sets.set_for_head.Goals as goal

pub returns-clause-short : goal.returns-clause-short
returns-clause-short c = IfOk-weaker c.to_bytes-2.result _ _ (λ it is. short_set c.new-empty.result it c.new-empty.ensures is) c.to_bytes-2.ensures
