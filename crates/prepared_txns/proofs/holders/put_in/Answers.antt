use Rattle.std.proofs.Common.{Some, subst}
use Rattle.ring_types.specs.declared.values.Value.{Value}
use Rattle.prepared_txns.specs.Holders.{IsPutAt}
use Rattle.prepared_txns.proofs.Ties.{value_updated}
use Rattle.prepared_txns.proofs.holders.put_in.Goals as goal

pub returns-clause-ok : goal.returns-clause-ok
returns-clause-ok c =
    let key = c.in_ok-copy.field-0 in
    subst (λ (v : Value). IsPutAt v (Some c.args.opid) c.args.keys.now c.insert.new.self) c.in_ok-copy.ensures
    (value_updated c.args.keys.now.entries c.insert.new.self.entries key (Some c.args.opid) c.in_ok-insert.ensures.updates.0)
