use Rattle.std.proofs.Common.{Some, ◌∙◌}
use Rattle.prepared_txns.proofs.Holding.{put_new}
use Rattle.prepared_txns.proofs.holders.put_table.Goals as goal

pub returns-clause-ok : goal.returns-clause-ok
returns-clause-ok c =
    put_new c.args.change.now (Some c.args.opid) c.args.holders.now c.insert.new.self c.new-keys.result c.put_in.new.keys c.change_key.result.now
    c.in_ok-copy.field-0 c.requires c.new-keys.ensures.empty
    c.change_key.ensures (c.in_ok-copy.ensures ∙ c.table_name.ensures) c.in_ok-put_in.ensures.ok c.in_ok-insert.ensures.updates.0
