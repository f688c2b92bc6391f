use Rattle.std.proofs.Common.{◌≡◌, ◌∙◌, ap, false}
use Rattle.std.specs.List.{list_any}
use Rattle.ring_model.specs.Actions.{is_held}
use Rattle.prepared_txns.proofs.Unheld.{free_without_conflict}
use Rattle.node_store.specs.Stores.{StoreState}
use Rattle.node_store.proofs.stores.NodeStore.prepare.Goals as goal

pub keep-requires : goal.keep-requires
keep-requires c =
    let pairs = c.self.inside.prepared in
    let changes = c.args.pair.txn.changes in
    let free : list_any (is_held pairs) changes ≡ false = ap (λ (s : StoreState). list_any (is_held s.durable.prepared) changes) c.self.view_is ∙ c.requires in
    (free_without_conflict pairs changes).1 free
