use Rattle.std.proofs.Common.{◌<◌, List, subst, sym}
use Rattle.std.specs.Prelude.{nat_lt}
use Rattle.std.specs.List.{All}
use Rattle.std.proofs.lemmas.List.Elements.{All-filter}
use Rattle.ring_types.specs.declared.entries.Vote.{Vote}
use Rattle.node_store.specs.Stores.{StoreState}
use Rattle.node_store.proofs.stores.NodeStore.vote.Goals as goal

pub grant-requires : goal.grant-requires
grant-requires c =
    let votes = c.self.inside.history in
    let above : All (λ (v : Vote). v.term < c.args.vote.term) votes =
    subst (λ (s : StoreState). All (λ (v : Vote). v.term < c.args.vote.term) s.durable.votes) (sym c.self.view_is) c.requires.above in
    subst (λ (vs : List Vote). All (λ (v : Vote). v.term < c.args.vote.term) vs) (sym c.drop_to.ensures)
    (All-filter (λ (v : Vote). nat_lt c.args.floor v.term) (λ (v : Vote). v.term < c.args.vote.term) votes above)
