use Rattle.std.proofs.Common.{None, sym, ap, ◌∙◌}
use Rattle.std.specs.Option.{option_copied_mut}
use Rattle.prepared_txns.proofs.Holding.{missing_put, put_there}
use Rattle.prepared_txns.proofs.holders.take_key.Goals as goal

pub returns-in_default : goal.returns-in_default
returns-in_default c =
    missing_put c.args.change.now c.args.holders.now c.get_mut.follows.lender-at-none c.table_name.result.now c.table_name.ensures
    (sym c.get_mut.ensures.value ∙ ap option_copied_mut c.in_default.is) c.get_mut.follows.holds-at-none

pub returns : goal.returns
returns c =
    let keys = c.take_from.new.keys in
    put_there c.args.change.now None c.args.holders.now (c.get_mut.follows.lender keys) c.in-Some.keys.now keys c.change_key.result.now c.table_name.result.now
    (sym c.get_mut.ensures.value ∙ ap option_copied_mut c.in-Some.is) c.change_key.ensures c.table_name.ensures c.take_from.ensures
    (c.get_mut.follows.holds keys)
