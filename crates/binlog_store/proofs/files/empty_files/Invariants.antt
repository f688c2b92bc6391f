-- what a crash may leave is theirs alone
use Rattle.std.proofs.Common.{◌≡◌, ℕ, ◌<◌, ◌≤◌, [], true}
use Rattle.edge_traits.specs.declared.disks.FileId.TheVariants as id
use Rattle.edge_traits.specs.Works.{WorksOn}
use Rattle.binlog_store.specs.Files.{LeavesAny, from_file}
use Rattle.binlog_store.proofs.files.empty_files.Given as goal

abbrev pub invariant-loop-number : goal.invariant-loop-number
invariant-loop-number g l = record {
  here : g.D.Disk.tells l.fn.disk ≡ true → (n : ℕ) → l.first ≤ n → n < l.number → (g.D.Disk.files l.disk (id.Binlog n)).bytes ≡ [];
  crash : g.D.Disk.tells l.fn.disk ≡ true → WorksOn (from_file l.first) g.D.Disk.files g.D.Disk.moment g.D.Disk.left_since l.fn.disk l.disk LeavesAny;
  story : g.D.Disk.story l.disk ≡ g.D.Disk.story l.fn.disk;
  tells : g.D.Disk.tells l.disk ≡ g.D.Disk.tells l.fn.disk;
  later : g.D.Disk.faults l.fn.disk ≤ g.D.Disk.faults l.disk;
}
