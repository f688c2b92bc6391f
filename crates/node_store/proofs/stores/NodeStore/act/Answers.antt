use Rattle.std.proofs.Common.{◌<◌, ℕ, subst, sym}
use Rattle.std.specs.List.{All}
use Rattle.ring_types.specs.declared.entries.Vote.{Vote}
use Rattle.ring_model.specs.Actions.{IsPossible}
use Rattle.ring_model.specs.declared.effects.Action.{Action}
use Rattle.node_store.proofs.Votes.{earlier}
use Rattle.node_store.proofs.stores.NodeStore.act.Goals as goal

pub vote-requires-clause-above : goal.vote-requires-clause-above
vote-requires-clause-above c =
    let d = c.args.self.now.durable in
    let may = subst (λ (a : Action). IsPossible c.args.ring.now.schema d a) c.in-Vote.is c.requires.possible in
    subst (λ (term : ℕ). All (λ (v : Vote). v.term < term) d.votes) (sym may.1) (earlier d.votes d.term c.requires.votes may.2)
