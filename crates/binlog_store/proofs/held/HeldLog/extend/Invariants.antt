-- the end so far, and what the entries so far add
use Rattle.std.proofs.Common.{◌≡◌, ◌++◌, take}
use Rattle.binlog_store.specs.Added.{added}
use Rattle.binlog_store.specs.Held.{IsEnd, files_of}
use Rattle.binlog_store.proofs.held.HeldLog.extend.Given as goal

abbrev pub invariant-loop-entry : goal.invariant-loop-entry
invariant-loop-entry l = record {
  entries : l.self.entries ≡ l.fn.self.entries;
  end : IsEnd l.schema (l.fn.self.entries ++ take l.entry-index l.fn.more) l.self.end;
  files : files_of l.growing ≡ added l.schema l.fn.self.entries (take l.entry-index l.fn.more);
}
