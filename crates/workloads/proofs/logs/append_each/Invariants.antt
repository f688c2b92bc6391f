-- the store has the entries so far, and its disk holds them
use Rattle.std.specs.Prelude.{◌≡◌, take}
use Rattle.disk_memory.specs.Pasts.{states}
use Rattle.binlog_store.specs.Mounted.{IsMounted, IsStore, log_of}
use Rattle.workloads.proofs.logs.append_each.Given as goal

abbrev pub invariant-loop-entry : goal.invariant-loop-entry
invariant-loop-entry l = record {
  log : log_of l.store ≡ take l.entry-index l.whole;
  store : IsStore l.schema l.store;
  mounted : IsMounted l.schema l.store (states l.disk.past.records);
}
