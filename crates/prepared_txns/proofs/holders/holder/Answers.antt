use Rattle.std.proofs.Common.{sym, ap, ◌∙◌}
use Rattle.std.specs.Option.{option_copied}
use Rattle.prepared_txns.proofs.Holding.{holder_found, holder_missing}
use Rattle.prepared_txns.proofs.holders.holder.Goals as goal

pub returns-in-Some : goal.returns-in-Some
returns-in-Some c =
    holder_found c.args.holders.now c.args.change.now c.table_name.result.now c.change_key.result.now c.in-Some.keys.now c.copied.result
    c.table_name.ensures c.change_key.ensures
    (sym c.get.ensures.value ∙ ap option_copied c.in-Some.is) (c.copied.ensures ∙ c.get-in-Some.ensures.value)

pub returns-in-None : goal.returns-in-None
returns-in-None c =
    holder_missing c.args.holders.now c.args.change.now c.table_name.result.now c.table_name.ensures (sym c.get.ensures.value ∙ ap option_copied c.in-None.is)
