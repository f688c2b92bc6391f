use Rattle.std.proofs.lemmas.Result.{on_ok_weaker, on_err_weaker}
use Rattle.event_txn.proofs.Kept.{kept_behind}
use Rattle.event_txn.proofs.KeyImages.{key_is_put}
use Rattle.event_txn.proofs.putting.put_key.Goals as goal

pub returns-clause-ok : goal.returns-clause-ok
returns-clause-ok c =
    on_ok_weaker c.put_value.result (λ e. key_is_put c.args.columns.now c.first-item.result c.args.key.now c.args.out.now.items _ _ c.in-len1-up.len_at_least c.first-item.is c.requires c.in_ok-put-in-len1-up.ensures.ok e) c.put_value.ensures.ok

pub returns-clause-err : goal.returns-clause-err
returns-clause-err c = on_err_weaker c.put_value.result (λ k. kept_behind _ _ _ _ c.in_ok-put-in-len1-up.ensures.ok k) c.put_value.ensures.err
