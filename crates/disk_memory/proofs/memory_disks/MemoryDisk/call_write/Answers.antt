use Rattle.std.proofs.Common.{◌∙◌, ap, sym, refl}
use Rattle.disk_memory.specs.declared.edits.Edit.TheVariants as edit
use Rattle.disk_memory.specs.declared.steps.Step.TheVariants as step
use Rattle.disk_memory.specs.Pasts.{DiskState}
use Rattle.disk_memory.specs.Meters.{fails_next}
use Rattle.disk_memory.proofs.PastLaws.{past_push}
use Rattle.disk_memory.proofs.memory_disks.MemoryDisk.call_write.Goals as goal

pub returns-clause-state : goal.returns-clause-state
returns-clause-state c short = (
  rw (
    c.in-Ok.ensures.ok,
    past_push c.self.inside.steps.items (step.Edit c.args.file (edit.Write c.args.at c.args.bytes.now)),
    c.tick.ensures.state,
    ← c.self.view_is,
  ) refl,
  ap (λ (d : DiskState). fails_next d.meter) (sym c.self.view_is) ∙ sym c.tick.ensures.fails ∙ c.if-tick.false,
)

pub returns-clause-past : goal.returns-clause-past
returns-clause-past c = rw (
  c.in-Ok.ensures.ok,
  past_push c.self.inside.steps.items (step.Edit c.args.file (edit.Write c.args.at c.args.bytes.now)),
  ← c.self.view_is,
) refl

pub returns-clause-story : goal.returns-clause-story
returns-clause-story c = rw (
  c.in-Ok.ensures.ok,
  past_push c.self.inside.steps.items (step.Edit c.args.file (edit.Write c.args.at c.args.bytes.now)),
  c.tick.ensures.state,
  ← c.self.view_is,
) refl
