-- the block stands for its file
use Rattle.control_block.specs.Blocks.{Stands}
use Rattle.disk_memory.specs.Pasts.{states}
use Rattle.workloads.proofs.disks.switched.Given as goal

abbrev pub invariant-loop-done : goal.invariant-loop-done
invariant-loop-done l = Stands l.block (states l.disk.past.records l.block.file)
