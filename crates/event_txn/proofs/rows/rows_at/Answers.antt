use Rattle.std.proofs.lemmas.Result.{err_from_is_err_and}
use Rattle.event_txn.specs.Rows.{rows_form}
use Rattle.event_txn.proofs.Steps.{goes_on, fails}
use Rattle.event_txn.proofs.rows.rows_at.Goals as goal

pub returns-in_err-rest : goal.returns-in_err-rest
unfolding rows_form
returns-in_err-rest c =
    let p = err_from_is_err_and c.from_residual.result c.from_residual.ensures.1 in
    rw (p.1, p.2) (fails _ _ _ (rw c.table_number.ensures at c.in_err-rest.ensures))

pub returns-in_err-rest-2 : goal.returns-in_err-rest-2
unfolding rows_form
returns-in_err-rest-2 c =
    let p = err_from_is_err_and c.from_residual-in_err-rest-2.result c.from_residual-in_err-rest-2.ensures.1 in
    rw (p.1, p.2) (goes_on _ _ _ _ (rw c.table_number.ensures at c.in_ok-rest.ensures) (fails _ _ _ c.in_err-rest-2.ensures))

pub returns-in_err-rest-3 : goal.returns-in_err-rest-3
unfolding rows_form
returns-in_err-rest-3 c =
    let p = err_from_is_err_and c.from_residual-in_err-rest-3.result c.from_residual-in_err-rest-3.ensures.1 in
    rw (p.1, p.2) (goes_on _ _ _ _ (rw c.table_number.ensures at c.in_ok-rest.ensures) (goes_on _ _ _ _ c.in_ok-rest-2.ensures (fails _ _ _ c.in_err-rest-3.ensures)))

pub returns-in_err-count : goal.returns-in_err-count
unfolding rows_form
returns-in_err-count c =
    let p = err_from_is_err_and c.from_residual-in_err-count.result c.from_residual-in_err-count.ensures.1 in
    rw (p.1, p.2) (goes_on _ _ _ _ (rw c.table_number.ensures at c.in_ok-rest.ensures) (goes_on _ _ _ _ c.in_ok-rest-2.ensures (goes_on _ _ _ _ c.in_ok-rest-3.ensures (fails _ _ _ c.in_err-count.ensures))))
