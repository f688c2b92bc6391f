use Rattle.std.proofs.lemmas.Result.{on_err_weaker}
use Rattle.event_txn.proofs.Kept.{kept_behind}
use Rattle.event_txn.proofs.writing.put_map_body.Goals as goal

pub returns-clause-err : goal.returns-clause-err
returns-clause-err c = on_err_weaker c.put_description.result (λ k. kept_behind _ _ _ _ c.in_ok-put.ensures.ok k) c.put_description.ensures.err
