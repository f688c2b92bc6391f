use Rattle.std.proofs.Common.{rules, Some}
use Rattle.prepared_txns.proofs.Holding.{on_any_err, put_more, same_others}
use Rattle.prepared_txns.proofs.holders.put_keys.Goals as goal

pub returns-in_err-put_key-clause-err : goal.returns-in_err-put_key-clause-err
returns-in_err-put_key-clause-err c =
    on_any_err c.from_residual.result
    (same_others c.args.changes.now c.loop-change.change-index
    (Some c.args.opid) c.args.holders.now c.loop-change.holders c.put_key.new.holders c.loop-change.invariant c.in_err-put_key.ensures.err)

pub loop-change-preserved : goal.loop-change-preserved
loop-change-preserved c =
    put_more c.args.changes.now c.loop-change.change-index c.change-item.result
    (Some c.args.opid) c.args.holders.now c.loop-change.holders c.put_key.new.holders (search rules)
    (search rules) c.loop-change.invariant c.in_ok-put_key.ensures.ok
