use Rattle.std.proofs.lemmas.Result.{err_from_is_err_and, on_err_weaker}
use Rattle.event_txn.proofs.Kept.{kept_behind}
use Rattle.event_txn.proofs.putting.put_update.Goals as goal

pub returns-in_err-put_bitmap-clause-err : goal.returns-in_err-put_bitmap-clause-err
returns-in_err-put_bitmap-clause-err c =
    let p = err_from_is_err_and c.from_residual-in_err-put_bitmap.result c.from_residual-in_err-put_bitmap.ensures.1 in
    rw p.1 (kept_behind _ _ _ _ c.in_ok-put_rows_head.ensures.ok c.in_err-put_bitmap.ensures.err)

pub returns-in_err-put_bitmap-2-clause-err : goal.returns-in_err-put_bitmap-2-clause-err
returns-in_err-put_bitmap-2-clause-err c =
    let p = err_from_is_err_and c.from_residual-in_err-put_bitmap-2.result c.from_residual-in_err-put_bitmap-2.ensures.1 in
    rw p.1 (kept_behind _ _ _ _ c.in_ok-put_rows_head.ensures.ok (kept_behind _ _ _ _ c.in_ok-put_bitmap.ensures.ok c.in_err-put_bitmap-2.ensures.err))

pub returns-in_err-put_first-clause-err : goal.returns-in_err-put_first-clause-err
returns-in_err-put_first-clause-err c =
    let p = err_from_is_err_and c.from_residual-in_err-put_first.result c.from_residual-in_err-put_first.ensures.1 in
    rw p.1 (kept_behind _ _ _ _ c.in_ok-put_rows_head.ensures.ok (kept_behind _ _ _ _ c.in_ok-put_bitmap.ensures.ok (kept_behind _ _ _ _ c.in_ok-put_bitmap-2.ensures.ok c.in_err-put_first.ensures.err)))

pub returns-clause-err : goal.returns-clause-err
returns-clause-err c = on_err_weaker c.put_image.result (λ k. kept_behind _ _ _ _ c.in_ok-put_rows_head.ensures.ok (kept_behind _ _ _ _ c.in_ok-put_bitmap.ensures.ok (kept_behind _ _ _ _ c.in_ok-put_bitmap-2.ensures.ok (kept_behind _ _ _ _ c.in_ok-put_first.ensures.ok k)))) c.put_image.ensures.err
