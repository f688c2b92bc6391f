use Rattle.std.proofs.Common.{◌∙◌, ◌-◌, arith}
use Rattle.disk_memory.proofs.TakenBack.{back_step}
use Rattle.disk_memory.proofs.stored_files.taken_back.Goals as goal

pub loop-left-preserved : goal.loop-left-preserved
loop-left-preserved c = (
  omega (arith, c.loop-left.invariant.0),
  back_step c.args.pending.now (c.loop-left.left - 1) c.loop-left.left c.index-pending-left.result c.loop-left.bytes.items _
      (omega (arith, c.loop-left-test.true)) c.loop-left.invariant.0 c.index-pending-left.is c.in_ok-take_back.ensures
      ∙ c.loop-left.invariant.1,
)
