use Rattle.std.proofs.Common.{refl}
use Rattle.workloads.proofs.disks.switched.Goals as goal

pub loop-done-init : goal.loop-done-init
loop-done-init c = c.in-Ok.ensures.stands refl

pub loop-done-preserved : goal.loop-done-preserved
loop-done-preserved c = c.in-Ok-switch.ensures.stands refl
