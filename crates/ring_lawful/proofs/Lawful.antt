-- A running node that keeps its counts, its engine and its soft part over a sound durable part is lawful.
use Rattle.std.proofs.Common.{◌≡◌, ℕ, ◌+◌, ◌<◌, ◌≤◌, ◌⊎◌, ◌∙◌, List, ap, arith, false, inl, inr, length, refl, sym, true}
use Rattle.std.proofs.lemmas.Bool.Decides.{nat_tests}
use Rattle.std.proofs.lemmas.List.Elements.{Contains-get_or}
use Rattle.std.specs.Prelude.{nat_le, slice_index_or}
use Rattle.std.specs.List.{All, Contains}
use Rattle.ring_types.specs.Rings.{Layout}
use Rattle.ring_model.specs.declared.nodes.Durable.{Durable}
use Rattle.ring_model.specs.declared.nodes.Peer.{Peer}
use Rattle.ring_model.specs.declared.nodes.Soft.{Soft}
use Rattle.ring_model.specs.Nodes.{IsLawful, IsPendingIn, IsSound, PeerFits, is_leader, is_ready}
use Rattle.ring_model.proofs.Lists.{all_of}
use Rattle.ring_lawful.proofs.Keeps.{KeepsCounts, RunsEngine}
use Rattle.ring_lawful.proofs.Leads.{SoftFits, increasing}
use Rattle.ring_lawful.proofs.SizedSteps.{IsShort}

all_from : {X : Type 0} (P : X → Type 0) (xs : List X) → ((x : X) → Contains xs x → P x) → All P xs
all_from P xs each k d lt = each (slice_index_or xs k d) (Contains-get_or xs k d lt)

peer_fits : (len : ℕ) (p : Peer) → (p.matched < p.next) × (p.next ≤ len + 1) → nat_le p.silent 3 ≡ true → PeerFits len p
peer_fits len p near quiet = (near.0, near.1, grind (arith, nat_tests, quiet))

unready : (s : Soft) (n : ℕ) → is_leader s.role ≡ true → (nat_le s.ready_at s.commit ≡ true) ⊎ (s.ready_at ≡ n) → is_ready s ≡ false → s.ready_at ≡ n
unready s n led (inr end) is = end
unready s n led (inl before) is = absurd (let z : is_ready s ≡ true = rw (led, before) refl in let y : true ≡ false = sym z ∙ is in cc)

pub lawful_from : (ring : Layout) (id : ℕ) (d : Durable) (s : Soft) → IsSound ring id d → KeepsCounts d s → RunsEngine ring id d s → IsShort d s
    → SoftFits ring id d.log s → IsLawful ring id d s
lawful_from ring id d s sound c p short x = record {
  sound = sound;
  pairs_in_log = p.pairs_in_log;
  commit_above = c.commit_above;
  commit_inside = c.commit_inside;
  engine_follows = p.engine_follows;
  learner_follows = x.learner;
  candidate_short = short;
  leads_alone = x.alone;
  peers_are_others = λ role. (x.leads (ap is_leader role)).others;
  peers_fit = λ role. all_from (PeerFits (length d.log)) s.peers
      (λ q in_q. peer_fits (length d.log) q (c.peers_near role q in_q) (all_of (λ (q : Peer). nat_le q.silent 3) s.peers q (x.leads (ap is_leader role)).silent in_q));
  ready_inside = λ role. (let l = x.leads (ap is_leader role) in (l.low, l.inside));
  unready_ends = λ role is. unready s (length d.log) (ap is_leader role) (x.leads (ap is_leader role)).ends is;
  all_prepared = p.all_prepared;
  pending_in_log = λ role. all_from (IsPendingIn d.log s.commit) s.pending (x.leads (ap is_leader role)).waits;
  pending_rises = increasing s.pending x.rises;
  transfer_fits = x.transfer;
  mock_fits = x.mock;
}
