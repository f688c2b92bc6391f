use Rattle.std.proofs.Common.{refl}
use Rattle.disk_memory.specs.declared.steps.Step.TheVariants as step
use Rattle.disk_memory.proofs.PastLaws.{past_push}
use Rattle.disk_memory.proofs.memory_disks.MemoryDisk.crash_files.Goals as goal

pub returns-clause-ok : goal.returns-clause-ok
returns-clause-ok c = rw (
  c.in_ok-do_crash.ensures.ok,
  past_push c.self.inside.steps.items (step.Crash c.keeps-keep.result),
  c.keeps-keep.ensures,
  c.crash.ensures.state,
  ← c.self.view_is,
) refl
