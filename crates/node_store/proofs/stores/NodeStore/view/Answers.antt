use Rattle.std.proofs.Common.{◌≡◌, List, rules, subst}
use Rattle.edge_traits.specs.Views.{AreEntries}
use Rattle.ring_types.specs.declared.entries.Entry.{Entry}
use Rattle.ring_types.specs.declared.schemas.Schema.{Schema}
use Rattle.node_store.proofs.stores.NodeStore.view.Goals as goal

pub returns-clause-stands : goal.returns-clause-stands
returns-clause-stands c = λ entries.
    let log_is : c.args.self.now.durable.log ≡ c.as_slice.result.now = search rules in
    let schema_is : c.args.ring.now.schema ≡ c.schema.result.now = search rules in
    let here : AreEntries c.args.ring.now.schema c.as_slice.result.now = subst (λ (l : List Entry). AreEntries c.args.ring.now.schema l) log_is entries in
    c.new.ensures.stands (subst (λ (s : Schema). AreEntries s c.as_slice.result.now) schema_is here)
