-- the files below the one that is due were read, and the log so far is theirs
use Rattle.std.proofs.Common.{◌≡◌, ◌-◌, ◌+◌, ◌≤◌, ℕ, length, true}
use Rattle.edge_traits.specs.FileStates.{Contents}
use Rattle.edge_traits.specs.declared.disks.FileId.TheVariants as id
use Rattle.entry_group.specs.Files.{head_after}
use Rattle.binlog_store.specs.Damages.{before_end}
use Rattle.binlog_store.specs.Following.{IsBegun}
use Rattle.binlog_store.specs.Held.{IsHeldLog}
use Rattle.binlog_store.specs.Mounting.{AreRead, HaveTheirBytes, IsSeen, Keeps}
use Rattle.binlog_store.specs.Stands.{IsWritten}
use Rattle.binlog_store.proofs.mounting.read_log.Given as goal

abbrev pub invariant-loop-held : goal.invariant-loop-held
invariant-loop-held g l = record {
  held : IsHeldLog l.schema l.held;
  written : IsWritten l.schema l.held.entries;
  begun : l.held.end.place.at ≡ length (head_after l.held.entries);
  first : 1 ≤ l.held.end.place.file;
  within : l.held.end.place.file ≤ l.point.file;
  told : g.D.Disk.tells l.fn.disk ≡ true → (c : Contents) → IsSeen c (g.D.Disk.files l.fn.disk) → (n : ℕ) → l.held.end.place.file ≡ n + 1
      → IsBegun l.schema (before_end l.point c) n l.held.entries;
  read : g.D.Disk.tells l.fn.disk ≡ true → AreRead l.held.end.place.file (g.D.Disk.files l.fn.disk) (g.D.Disk.files l.disk);
  same : g.D.Disk.tells l.fn.disk ≡ true → HaveTheirBytes (g.D.Disk.files l.fn.disk) (g.D.Disk.files l.disk);
  control : g.D.Disk.tells l.fn.disk ≡ true → g.D.Disk.files l.disk id.LogCtl ≡ g.D.Disk.files l.fn.disk id.LogCtl;
  keeps : g.D.Disk.tells l.fn.disk ≡ true → Keeps g.D.Disk.files g.D.Disk.moment g.D.Disk.left_since l.fn.disk l.disk;
  story : g.D.Disk.story l.disk ≡ g.D.Disk.story l.fn.disk;
  tells : g.D.Disk.tells l.disk ≡ g.D.Disk.tells l.fn.disk;
  later : g.D.Disk.faults l.fn.disk ≤ g.D.Disk.faults l.disk;
}

abbrev pub decreases-loop-held : goal.decreases-loop-held
decreases-loop-held g l = l.point.file - l.held.end.place.file
