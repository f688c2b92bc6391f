-- What a leader makes of a reply, where sums stop at 2^64 - 1.
use Rattle.std.specs.Prelude.{ℕ, ◌+◌, ◌-◌, ◌^◌, ◌==◌, ◌&&◌, min, nat_le, if◌then◌else◌, Bool, true, false, List, [], ◌∷◌}
use Rattle.ring_model.specs.Nodes.{is_leader}
use Rattle.ring_model.specs.Steps.{greater_of, smaller_of}
use Rattle.ring_model.specs.declared.nodes.Peer.{Peer}
use Rattle.ring_model.specs.declared.nodes.Soft.{Soft}
use Rattle.ring_model.specs.declared.messages.AppendReply.{AppendReply}

abbrev pub heard_from : Peer → Bool → ℕ → Peer
heard_from p true position = record p { silent = 0; matched = greater_of p.matched position; next = greater_of p.next (position + 1) }
heard_from p false position = record p { silent = 0; next = greater_of (min (p.matched + 1) (2 ^ 64 - 1)) (smaller_of p.next (position + 1)) }

abbrev pub heard_one : ℕ → Bool → ℕ → Peer → Peer
heard_one from ok position p = if p.node == from then heard_from p ok position else p

abbrev pub heard_among : List Peer → ℕ → Bool → ℕ → List Peer
heard_among [] from ok position = []
heard_among (p ∷ peers) from ok position = heard_one from ok position p ∷ heard_among peers from ok position

-- a reply of the leader's own term with a position within its log of this length
abbrev pub counts : ℕ → ℕ → Soft → AppendReply → Bool
counts term length s reply = is_leader s.role && reply.term == term && nat_le reply.position length
