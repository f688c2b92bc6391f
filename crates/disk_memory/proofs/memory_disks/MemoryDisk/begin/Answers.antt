use Rattle.std.proofs.Common.{refl}
use Rattle.disk_memory.specs.declared.steps.Step.TheVariants as step
use Rattle.disk_memory.proofs.PastLaws.{past_push, turn_agrees}
use Rattle.disk_memory.proofs.memory_disks.MemoryDisk.begin.Goals as goal

pub invariant_of-self-2 : goal.invariant_of-self-2
invariant_of-self-2 c = record {
  same = rw c.in_ok-push.ensures.items
      (turn_agrees c.self.inside.steps.items c.self.inside.table c.self.invariant.same c.self.inside.meter.setting c.self.inside.meter.calls);
  steady = c.begin.ensures.steady;
}

pub returns-clause-ok : goal.returns-clause-ok
returns-clause-ok c = rw (
  c.in_ok-push.ensures.items,
  past_push c.self.inside.steps.items (step.Turn c.self.inside.meter.setting c.self.inside.meter.calls),
  c.begin.ensures.state,
  ← c.self.view_is,
) refl
