-- A leader made of a node's parts has those parts, so what its fields make is what the parts make.
use Rattle.std.proofs.Common.{◌≡◌, ℕ, List, Option, ap₂, ◌∙◌}
use Rattle.ring_types.specs.declared.entries.Opid.{Opid}
use Rattle.ring_types.specs.declared.entries.Pair.{Pair}
use Rattle.ring_types.specs.Rings.{Layout}
use Rattle.ring_model.specs.declared.nodes.Peer.{Peer}
use Rattle.ring_model.specs.declared.nodes.Pending.{Pending}
use Rattle.ring_model.specs.declared.nodes.Soft.{Soft}
use Rattle.commit_pipeline.specs.declared.heres.Here.{Here}
use Rattle.commit_pipeline.specs.declared.heres.Leader.{Leader}
use Rattle.commit_pipeline.specs.Advances.{pairs_after, pairs_left}
use Rattle.commit_pipeline.specs.Heres.{IsLeaderOf}

abbrev pub LeadsHere : {V : Type 0} → Here V → Soft → Leader → Type 0
LeadsHere here soft leader = IsLeaderOf leader here.ring.now here.me here.term here.applied here.prepared.now soft

pub all_left : {V : Type 0} (here : Here V) (soft : Soft) (leader : Leader) → LeadsHere here soft leader → pairs_left leader.engine ≡ here.prepared.now
all_left here soft leader is = ap₂ (λ (upto : Option ℕ) (made : Option Opid). pairs_after upto made leader.engine.pairs.now) is.no_upto is.none_made ∙ is.pairs_are

-- whatever is made of the parts
pub by_parts : {V X : Type 0} (f : Layout → ℕ → ℕ → ℕ → List Pair → ℕ → List Peer → List Pending → X) (here : Here V) (soft : Soft) (leader : Leader) (pairs : List Pair) → LeadsHere here soft leader → pairs ≡ here.prepared.now
    → f leader.engine.ring.now leader.engine.me leader.term leader.engine.applied pairs leader.commit leader.peers.now leader.pending.now
    ≡ f here.ring.now here.me here.term here.applied here.prepared.now soft.commit soft.peers soft.pending
by_parts f here soft leader pairs is same = cc (is.ring_is, is.me_is, is.term_is, is.applied_is, same, is.commit_is, is.peers_are, is.pending_are)
