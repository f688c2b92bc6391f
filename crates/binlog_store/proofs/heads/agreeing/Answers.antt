use Rattle.std.proofs.Common.{arith}
use Rattle.binlog_store.proofs.Agreeing.{agreeing_out}
use Rattle.binlog_store.proofs.heads.agreeing.Goals as goal

pub returns-else-count-b-clause-is : goal.returns-else-count-b-clause-is
returns-else-count-b-clause-is c =
    omega (arith, c.loop-count.invariant.same, agreeing_out c.args.a.now c.args.b.now c.loop-count.count c.if-count-b.false)
