use Rattle.std.proofs.Common.{arith}
use Rattle.binlog_store.specs.Mounted.{log_of}
use Rattle.workloads.proofs.NextEntries.{longer_written}
use Rattle.workloads.proofs.logs.append_each.Goals as goal

pub append_one-requires-clause-log : goal.append_one-requires-clause-log
append_one-requires-clause-log c =
    longer_written c.args.schema.now c.args.whole.now (log_of c.loop-entry.store) c.loop-entry.entry-index c.entry-item.result c.entry-item.result c.requires.written (omega arith) c.entry-item.is
    c.loop-entry.invariant.log
