use Rattle.std.proofs.Common.{◌≡◌, ◌++◌, take, drop, map}
use Rattle.entry_group.specs.Files.{file_sizes, sizes_from, told_size}
use Rattle.entry_group.proofs.files.file_sizes.Given as goal

abbrev pub invariant-loop-i : goal.invariant-loop-i
invariant-loop-i l = l.sizes ++ map told_size (sizes_from l.schema l.size (take l.i l.log) (drop l.i l.log)) ≡ map told_size (file_sizes l.schema l.log)
