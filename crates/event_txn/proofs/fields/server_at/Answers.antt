use Rattle.std.proofs.Common.{Err, ap, sym, ◌∙◌}
use Rattle.event_txn.proofs.FieldFaults.{found_again, fault_again}
use Rattle.event_txn.proofs.fields.server_at.Goals as goal

pub returns-in-Ok : goal.returns-in-Ok
returns-in-Ok c = found_again _ _ _ c.in-Ok.ensures

pub returns-in-Err : goal.returns-in-Err
returns-in-Err c = fault_again _ _ _ c.in-Err.ensures ∙ ap Err (sym c.fault_of.ensures)
