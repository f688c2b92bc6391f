-- the end so far
use Rattle.std.proofs.Common.{take}
use Rattle.binlog_store.specs.Held.{IsEnd}
use Rattle.binlog_store.proofs.ends.LogEnd.of.Given as goal

abbrev pub invariant-loop-entry : goal.invariant-loop-entry
invariant-loop-entry l = IsEnd l.schema (take l.entry-index l.log) l.end
