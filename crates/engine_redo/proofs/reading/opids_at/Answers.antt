use Rattle.std.proofs.lemmas.Result.{err_from_is_err_and}
use Rattle.engine_redo.proofs.Opids.{fails, goes_on}
use Rattle.engine_redo.proofs.reading.opids_at.Goals as goal

pub returns-in_err-opid : goal.returns-in_err-opid
returns-in_err-opid c =
    let p = err_from_is_err_and c.from_residual.result c.from_residual.ensures.1 in
    rw (p.1, p.2) (fails c.args.count c.loop.counter c.loop.opids c.loop.rest.now _ c.in_err-opid.field-0.0 c.loop-test.true c.loop.invariant c.in_err-opid.ensures)

pub loop-preserved : goal.loop-preserved
loop-preserved c =
    rw c.in_ok-push.ensures.ok (goes_on c.args.count c.loop.counter c.loop.opids c.in_ok-opid.opid c.loop.rest.now c.in_ok-opid.after.now _ c.loop-test.true c.loop.invariant c.in_ok-opid.ensures)
