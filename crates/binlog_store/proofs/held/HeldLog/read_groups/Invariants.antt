-- the log so far goes so far in these bytes
use Rattle.std.proofs.Common.{◌-◌, ◌≤◌, ◌≡◌, ◌≢◌, length}
use Rattle.edge_traits.specs.FileStates.{Contents}
use Rattle.edge_traits.specs.declared.disks.FileId.TheVariants as id
use Rattle.binlog_store.specs.Following.{IsWalked}
use Rattle.binlog_store.specs.Held.{IsHeldLog, IsNextFile}
use Rattle.binlog_store.specs.Longest.{Tells}
use Rattle.binlog_store.specs.Stands.{IsWritten}
use Rattle.binlog_store.proofs.held.HeldLog.read_groups.Given as goal

abbrev pub invariant-loop-self : goal.invariant-loop-self
invariant-loop-self l = record {
  held : IsHeldLog l.schema l.self;
  written : IsWritten l.schema l.self.entries;
  within : l.at ≤ length l.bytes;
  on : l.self.end.place.file ≡ l.fn.self.end.place.file → l.self.end.place.at ≡ l.at;
  next : l.self.end.place.file ≢ l.fn.self.end.place.file → IsNextFile l.fn.self.end.place l.self;
  walked : (c : Contents) → c (id.Binlog l.fn.self.end.place.file) ≡ l.bytes → Tells l.schema c l.fn.self.entries
      → IsWalked l.schema c l.fn.self.end.place.file l.self.entries l.at;
}

abbrev pub decreases-loop-self : goal.decreases-loop-self
decreases-loop-self l = length l.bytes - l.at
