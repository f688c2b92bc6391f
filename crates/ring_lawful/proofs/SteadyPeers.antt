-- A peer's next position stays above its matched one and at most one beyond the log, whatever it answers within the log.
use Rattle.std.proofs.Common.{◌≡◌, ℕ, ◌+◌, ◌<◌, ◌≤◌, ◌==◌, [], ◌∷◌, Bool, List, arith, false, map, refl, true}
use Rattle.ring_types.specs.declared.members.Member.{Member}
use Rattle.ring_model.specs.declared.nodes.Peer.{Peer}
use Rattle.ring_model.specs.Replication.{heard_among, heard_from, quieter}
use Rattle.ring_model.specs.Elections.{first_peers}
use Rattle.ring_model.proofs.OnAnswer.{heard_one}
use Rattle.ring_lawful.proofs.Steady.{Near}

-- ---- peers
pub near_more : (len more : ℕ) (peers : List Peer) → len ≤ more → Near len peers → Near more peers
near_more len more [] le n = tt
near_more len more (p ∷ peers) le n = let a = n.0 in let b = a.1 in ((a.0, omega (arith, b, le)), near_more len more peers le n.1)

pub near_quieter : (len : ℕ) (peers : List Peer) → Near len peers → Near len (map quieter peers)
near_quieter len [] n = tt
near_quieter len (p ∷ peers) n = (n.0, near_quieter len peers n.1)

pub near_first : (me next len : ℕ) (members : List Member) → 1 ≤ next → next ≤ len + 1 → Near len (first_peers me next members)
near_first me next len [] low high = tt
near_first me next len (m ∷ members) low high = go (m.id == me) refl (near_first me next len members low high)
  where
    go : (b : Bool) → (m.id == me) ≡ b → Near len (first_peers me next members) → Near len (first_peers me next (m ∷ members))
    go true is rest = rw is rest
    go false is rest = rw is ((omega (arith, low), high), rest)

heard_near : (len : ℕ) (p : Peer) (ok : Bool) (position : ℕ) → position ≤ len → (p.matched < p.next) × (p.next ≤ len + 1)
    → ((heard_from p ok position).matched < (heard_from p ok position).next) × ((heard_from p ok position).next ≤ len + 1)
heard_near len p ok position in_p n =
    let below = n.1 in
    let one = heard_one p ok position len in_p (n.0, omega (arith, below)) in
    let next = one.1 in
    (one.0, omega (arith, next))

pub near_heard : (len : ℕ) (peers : List Peer) (from : ℕ) (ok : Bool) (position : ℕ) → position ≤ len → Near len peers
    → Near len (heard_among peers from ok position)
near_heard len [] from ok position in_p n = tt
near_heard len (p ∷ peers) from ok position in_p n = go (p.node == from) refl (near_heard len peers from ok position in_p n.1)
  where
    go : (b : Bool) → (p.node == from) ≡ b → Near len (heard_among peers from ok position) → Near len (heard_among (p ∷ peers) from ok position)
    go true is rest = rw is (heard_near len p ok position in_p n.0, rest)
    go false is rest = rw is (n.0, rest)
