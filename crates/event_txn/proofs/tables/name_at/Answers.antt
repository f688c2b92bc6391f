use Rattle.std.proofs.lemmas.Result.{err_from_is_err_and}
use Rattle.event_txn.specs.Tables.{name_form}
use Rattle.event_txn.proofs.Steps.{goes_on, fails}
use Rattle.event_txn.proofs.tables.name_at.Goals as goal

pub returns-in_err-rest : goal.returns-in_err-rest
unfolding name_form
returns-in_err-rest c =
    let p = err_from_is_err_and c.from_residual.result c.from_residual.ensures.1 in
    rw (p.1, p.2) (fails _ _ _ (rw c.length_byte.ensures at c.in_err-rest.ensures))

pub returns-in_err-rest-2 : goal.returns-in_err-rest-2
unfolding name_form
returns-in_err-rest-2 c =
    let p = err_from_is_err_and c.from_residual-in_err-rest-2.result c.from_residual-in_err-rest-2.ensures.1 in
    rw (p.1, p.2) (goes_on _ _ _ _ (rw c.length_byte.ensures at c.in_ok-rest.ensures) (fails _ _ _ c.in_err-rest-2.ensures))
