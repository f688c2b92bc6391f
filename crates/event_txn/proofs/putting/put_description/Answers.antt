use Rattle.std.proofs.lemmas.Result.{err_from_is_err_and, on_err_weaker}
use Rattle.event_txn.proofs.Kept.{kept_behind}
use Rattle.event_txn.proofs.putting.put_description.Goals as goal

pub returns-in_err-put_name-clause-err : goal.returns-in_err-put_name-clause-err
returns-in_err-put_name-clause-err c =
    let p = err_from_is_err_and c.from_residual-in_err-put_name.result c.from_residual-in_err-put_name.ensures.1 in
    rw p.1 (kept_behind _ _ _ _ c.in_ok-put.ensures.ok c.in_err-put_name.ensures.err)

pub returns-in_err-put_name-2-clause-err : goal.returns-in_err-put_name-2-clause-err
returns-in_err-put_name-2-clause-err c =
    let p = err_from_is_err_and c.from_residual-in_err-put_name-2.result c.from_residual-in_err-put_name-2.ensures.1 in
    rw p.1 (kept_behind _ _ _ _ c.in_ok-put.ensures.ok (kept_behind _ _ _ _ c.in_ok-put_name.ensures.ok c.in_err-put_name-2.ensures.err))

pub returns-clause-err : goal.returns-clause-err
returns-clause-err c = on_err_weaker c.put_columns.result (λ k. kept_behind _ _ _ _ c.in_ok-put.ensures.ok (kept_behind _ _ _ _ c.in_ok-put_name.ensures.ok (kept_behind _ _ _ _ c.in_ok-put_name-2.ensures.ok k))) c.put_columns.ensures.err
