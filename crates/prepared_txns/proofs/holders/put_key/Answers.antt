use Rattle.std.proofs.Common.{None, Some, sym, ap, ◌∙◌}
use Rattle.std.specs.Prelude.{bytes_eq}
use Rattle.std.specs.Map.{lookup}
use Rattle.std.specs.Option.{option_copied_mut}
use Rattle.std.proofs.lemmas.Result.{on_ok_weaker, on_err_weaker}
use Rattle.ring_types.specs.Rows.{table_name}
use Rattle.prepared_txns.specs.Holders.{Holders}
use Rattle.prepared_txns.proofs.Holding.{table_at, put_there, same_there}
use Rattle.prepared_txns.proofs.holders.put_key.Goals as goal

pub put_table-requires : goal.put_table-requires
put_table-requires c =
    ap (λ (h : Holders). lookup (bytes_eq (table_name c.args.change.now)) h.entries) c.get_mut.follows.holds-at-none
    ∙ table_at c.args.holders.now c.args.change.now c.table_name.result.now None c.table_name.ensures
    (sym c.get_mut.ensures.value ∙ ap option_copied_mut c.in_default.is)

pub returns-clause-ok : goal.returns-clause-ok
returns-clause-ok c =
    let keys = c.put_in.new.keys in
    let at = sym c.get_mut.ensures.value ∙ ap option_copied_mut c.in-Some.is in
    on_ok_weaker c.put_in.result
    (λ put. put_there c.args.change.now (Some c.args.opid) c.args.holders.now
    (c.get_mut.follows.lender keys) c.in-Some.keys.now keys c.change_key.result.now c.table_name.result.now at c.change_key.ensures
    c.table_name.ensures put (c.get_mut.follows.holds keys)) c.put_in.ensures.ok

pub returns-clause-err : goal.returns-clause-err
returns-clause-err c =
    let keys = c.put_in.new.keys in
    let at = sym c.get_mut.ensures.value ∙ ap option_copied_mut c.in-Some.is in
    on_err_weaker c.put_in.result
    (λ same. same_there c.args.holders.now (c.get_mut.follows.lender keys) c.in-Some.keys.now keys c.table_name.result.now at same
    (c.get_mut.follows.holds keys)) c.put_in.ensures.err
