-- the files so far are written, and what a crash may leave is theirs alone
use Rattle.std.proofs.Common.{◌≡◌, ◌≤◌, ◌+◌, ℕ, true, take}
use Rattle.edge_traits.specs.Works.{WorksOn}
use Rattle.edge_traits.specs.declared.disks.FileId.TheVariants as id
use Rattle.binlog_store.specs.Files.{AreSettled, LeavesAny, from_file}
use Rattle.binlog_store.proofs.files.write_files.Given as goal

abbrev pub invariant-loop-i : goal.invariant-loop-i
invariant-loop-i g l = record {
  here : g.D.Disk.tells l.fn.disk ≡ true → AreSettled (g.D.Disk.files l.disk) l.first (take l.i l.files);
  above : g.D.Disk.tells l.fn.disk ≡ true → (n : ℕ) → l.first + l.i ≤ n → g.D.Disk.files l.disk (id.Binlog n) ≡ g.D.Disk.files l.fn.disk (id.Binlog n);
  crash : g.D.Disk.tells l.fn.disk ≡ true → WorksOn (from_file l.first) g.D.Disk.files g.D.Disk.moment g.D.Disk.left_since l.fn.disk l.disk LeavesAny;
  story : g.D.Disk.story l.disk ≡ g.D.Disk.story l.fn.disk;
  tells : g.D.Disk.tells l.disk ≡ g.D.Disk.tells l.fn.disk;
  later : g.D.Disk.faults l.fn.disk ≤ g.D.Disk.faults l.disk;
}
