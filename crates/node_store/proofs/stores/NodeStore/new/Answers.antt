use Rattle.node_store.specs.Stores.{engine_for}
use Rattle.node_store.proofs.Kept.{kept_first}
use Rattle.node_store.proofs.stores.NodeStore.new.Goals as goal

pub invariant_of-result : goal.invariant_of-result
invariant_of-result c =
    rw (c.new-2.ensures, c.new-3.ensures) (kept_first (engine_for c.args.ring.now c.args.me) c.in_ok-tables_for.field-0 c.in_ok-tables_for.ensures)
