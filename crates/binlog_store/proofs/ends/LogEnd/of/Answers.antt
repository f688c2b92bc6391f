use Rattle.std.proofs.Common.{[], arith}
use Rattle.binlog_store.proofs.Putting.{turn_counted, turn_stands}
use Rattle.binlog_store.proofs.ends.LogEnd.of.Goals as goal

pub put-requires-clause-stands : goal.put-requires-clause-stands
put-requires-clause-stands c =
    turn_stands c.args.schema.now [] c.args.log.now c.requires.written c.loop-entry.entry-index c.entry-item.result c.entry-item.result c.loop-entry.end c.loop-entry.invariant (omega arith) c.entry-item.is

pub put-requires-clause-counted : goal.put-requires-clause-counted
put-requires-clause-counted c = turn_counted c.args.schema.now [] c.args.log.now c.requires.written c.loop-entry.entry-index c.loop-entry.end c.loop-entry.invariant
