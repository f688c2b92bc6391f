use Rattle.std.proofs.Common.{◌≡◌, ◌∙◌, List, ap, filter, rules}
use Rattle.std.specs.Prelude.{not}
use Rattle.std.specs.List.{list_any}
use Rattle.ring_types.specs.declared.entries.Opid.{Opid}
use Rattle.ring_types.specs.declared.entries.Pair.{Pair}
use Rattle.ring_types.specs.Logs.{has_opid, same_opid}
use Rattle.ring_model.specs.Nodes as nodes
use Rattle.ring_model.specs.declared.nodes.Durable.{Durable}
use Rattle.node_store.specs.Kept.{strays_in}
use Rattle.node_store.specs.Stores.{StoreState}
use Rattle.node_store.proofs.StrayPairs.{without_strays}
use Rattle.node_store.proofs.stores.NodeStore.recover.Goals as goal

pub returns-clause-part : goal.returns-clause-part
returns-clause-part c =
    let here = c.self.inside in
    let strays : c.in_ok-strays.strays ≡ strays_in here.log here.prepared = search rules in
    let kept : c.drop_pairs.new.self ≡ filter (λ (p : Pair). has_opid here.log p.opid) here.prepared =
    c.drop_pairs.ensures
    ∙ ap (λ (os : List Opid). filter (λ (p : Pair). not (list_any (same_opid p.opid) os)) here.prepared) strays
    ∙ without_strays here.log here.prepared in
    let with' : List Pair → Durable = λ ps. record { term = here.term; votes = here.history; log = here.log; applied = here.applied; prepared = ps } in
    ap with' kept ∙ ap (λ (s : StoreState). nodes.recover s.durable) c.self.view_is
