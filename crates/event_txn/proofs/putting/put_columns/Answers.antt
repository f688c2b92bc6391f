use Rattle.std.proofs.lemmas.Result.{err_from_is_err_and, on_err_weaker}
use Rattle.event_txn.proofs.Kept.{kept_behind}
use Rattle.event_txn.proofs.putting.put_columns.Goals as goal

pub returns-in_err-put_types-clause-err : goal.returns-in_err-put_types-clause-err
returns-in_err-put_types-clause-err c =
    let p = err_from_is_err_and c.from_residual-in_err-put_types.result c.from_residual-in_err-put_types.ensures.1 in
    rw p.1 (kept_behind _ _ _ _ c.in_ok-put_packed.ensures.ok c.in_err-put_types.ensures.err)

pub returns-in_err-put_packed-2-clause-err : goal.returns-in_err-put_packed-2-clause-err
returns-in_err-put_packed-2-clause-err c =
    let p = err_from_is_err_and c.from_residual-in_err-put_packed-2.result c.from_residual-in_err-put_packed-2.ensures.1 in
    rw p.1 (kept_behind _ _ _ _ c.in_ok-put_packed.ensures.ok (kept_behind _ _ _ _ c.in_ok-put_types.ensures.ok c.in_err-put_packed-2.ensures.err))

pub returns-in_err-put_metadata-clause-err : goal.returns-in_err-put_metadata-clause-err
returns-in_err-put_metadata-clause-err c =
    let p = err_from_is_err_and c.from_residual-in_err-put_metadata.result c.from_residual-in_err-put_metadata.ensures.1 in
    rw p.1 (kept_behind _ _ _ _ c.in_ok-put_packed.ensures.ok (kept_behind _ _ _ _ c.in_ok-put_types.ensures.ok (kept_behind _ _ _ _ c.in_ok-put_packed-2.ensures.ok c.in_err-put_metadata.ensures.err)))

pub returns-clause-err : goal.returns-clause-err
returns-clause-err c = on_err_weaker c.put_bitmap.result (λ k. kept_behind _ _ _ _ c.in_ok-put_packed.ensures.ok (kept_behind _ _ _ _ c.in_ok-put_types.ensures.ok (kept_behind _ _ _ _ c.in_ok-put_packed-2.ensures.ok (kept_behind _ _ _ _ c.in_ok-put_metadata.ensures.ok k)))) c.put_bitmap.ensures.err
