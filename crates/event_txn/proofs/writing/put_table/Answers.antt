use Rattle.std.proofs.lemmas.Result.{err_from_is_err_and}
use Rattle.event_txn.proofs.Kept.{kept_behind, kept_same}
use Rattle.event_txn.proofs.writing.put_table.Goals as goal

pub returns-in_err-put_map_body-clause-err : goal.returns-in_err-put_map_body-clause-err
returns-in_err-put_map_body-clause-err c =
    let p = err_from_is_err_and c.from_residual-in_err-put_map_body.result c.from_residual-in_err-put_map_body.ensures.1 in
    rw p.1 (kept_behind _ _ _ _ c.in_ok-put_header.ensures.ok c.in_err-put_map_body.ensures.err)

pub returns-in_err-put_sum-clause-err : goal.returns-in_err-put_sum-clause-err
returns-in_err-put_sum-clause-err c =
    let p = err_from_is_err_and c.from_residual-in_err-put_sum.result c.from_residual-in_err-put_sum.ensures.1 in
    rw p.1 (kept_behind _ _ _ _ c.in_ok-put_header.ensures.ok (kept_behind _ _ _ _ c.in_ok-put_map_body.ensures.ok (kept_same _ _ c.in_err-put_sum.ensures.err)))
