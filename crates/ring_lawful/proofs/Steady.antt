-- What keeps the order of log and counts: a step that leaves the log keeps it wherever its soft part's counts and peers stay inside the log.
use Rattle.std.proofs.Common.{◌≡◌, ℕ, ◌+◌, ◌<◌, ◌≤◌, [], ◌∷◌, ◌∙◌, List, ap, arith, false, length, refl, subst, sym, true}
use Rattle.ring_model.specs.declared.effects.Say.{Say}
use Rattle.ring_model.specs.declared.effects.Step.{Step}
use Rattle.ring_model.specs.declared.messages.Message.{Message}
use Rattle.ring_model.specs.declared.nodes.Durable.{Durable}
use Rattle.ring_model.specs.declared.nodes.Peer.{Peer}
use Rattle.ring_model.specs.declared.nodes.Role.{Role}
use Rattle.ring_model.specs.declared.nodes.Soft.{Soft}
use Rattle.ring_model.specs.Actions.{all_done}
use Rattle.ring_model.specs.Nodes.{is_leader}
use Rattle.ring_model.specs.Steps.{idle, stepped}
use Rattle.ring_lawful.proofs.Along.{Allowed}
use Rattle.ring_lawful.proofs.Chains.{Orderly}

-- what a leader sends each member next lies between what the member matched and the end of the log
abbrev pub Near : ℕ → List Peer → Type 0
Near len [] = Unit {0}
Near len (p ∷ peers) = ((p.matched < p.next) × (p.next ≤ len + 1)) × Near len peers

-- the counts of a running node
pub record Counted (d : Durable) (s : Soft) : Type 0 where
  pub above : d.applied ≤ s.commit
  pub inside : s.commit ≤ length d.log
  pub near : is_leader s.role ≡ true → Near (length d.log) s.peers

-- what a step leaves of the order
pub record Steady (d : Durable) (st : Step) : Type 0 where
  pub allowed : Allowed Orderly d st.plan.actions
  pub inside : st.soft.commit ≤ length (all_done d st.plan.actions).log
  pub near : is_leader st.soft.role ≡ true → Near (length (all_done d st.plan.actions).log) st.soft.peers

-- ---- steps that leave the log
pub quiet_steady : (d : Durable) (s o : Soft) (ms : List Message) (says : List Say) → Counted d s → o.role ≡ s.role → o.commit ≡ s.commit → o.peers ≡ s.peers
    → Steady d (stepped [] ms says o)
quiet_steady d s o ms says x role count peers = record {
  allowed = tt;
  inside = (let a = x.inside in omega (arith, a, count));
  near = λ is. subst (Near (length d.log)) (sym peers) (x.near (sym (ap is_leader role) ∙ is));
}

pub idle_steady : (d : Durable) (s : Soft) → Counted d s → Steady d (idle s)
idle_steady d s x = quiet_steady d s s [] [] x refl refl refl

pub not_leading : (r : Role) (len : ℕ) (peers : List Peer) → is_leader r ≡ false → is_leader r ≡ true → Near len peers
not_leading r len peers stands leads = absurd (let z : true ≡ false = sym leads ∙ stands in cc)
