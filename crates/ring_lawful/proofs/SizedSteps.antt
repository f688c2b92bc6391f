-- Steps without actions leave all sizes, and a leader that advances adds actions of its engine alone, which have none.
use Rattle.std.proofs.Common.{◌≡◌, ℕ, ◌-◌, ◌<◌, ◌≤◌, [], ◌∷◌, ◌∙◌, List, arith, length, refl, suc, sym, true}
use Rattle.std.proofs.lemmas.Bool.Decides.{nat_tests}
use Rattle.std.specs.Prelude.{nat_le, nat_lt}
use Rattle.std.specs.List.{list_all}
use Rattle.ring_types.specs.declared.limits.TheConstants.{TERM_END}
use Rattle.ring_types.specs.declared.entries.Payload.{Payload}
use Rattle.ring_types.specs.Rings.{Layout}
use Rattle.ring_types.specs.Rows.{payload_fits}
use Rattle.ring_types.specs.Sizes.{group_bytes, group_limit}
use Rattle.ring_model.specs.declared.effects.Action.{Action}
use Rattle.ring_model.specs.declared.effects.Action.TheVariants as action
use Rattle.ring_model.specs.declared.effects.Say.{Say}
use Rattle.ring_model.specs.declared.effects.Step.{Step}
use Rattle.ring_model.specs.declared.messages.Message.{Message}
use Rattle.ring_model.specs.declared.nodes.Durable.{Durable}
use Rattle.ring_model.specs.declared.nodes.Role.TheVariants.{Candidate, Follower, Leader}
use Rattle.ring_model.specs.declared.nodes.Soft.{Soft}
use Rattle.ring_model.specs.Actions.{all_done, done}
use Rattle.ring_model.specs.Steps.{advance, commit_count, demoted, follow_actions, idle, own_entry, stepped}
use Rattle.ring_lawful.proofs.Along.{Allowed, allowed_join}
use Rattle.ring_lawful.proofs.Sized.{AllFit, May, Sized, entry_fits, follow_may, sized_after}

-- a candidate's log has room for its NoOp
abbrev pub IsShort : Durable → Soft → Type 0
IsShort d s = s.role ≡ Candidate → length d.log < TERM_END - 1

pub record Keeps (ring : Layout) (d : Durable) (st : Step) : Type 0 where
  pub allowed : Allowed (May ring) d st.plan.actions
  pub short : IsShort (all_done d st.plan.actions) st.soft
  pub sent : AllFit ring st.plan.messages

pub follower_short : (d : Durable) (s : Soft) → s.role ≡ Follower → IsShort d s
follower_short d s is bad = absurd (let z : Follower ≡ Candidate = sym is ∙ bad in cc)

leader_short : (d : Durable) (s : Soft) → s.role ≡ Leader → IsShort d s
leader_short d s is bad = absurd (let z : Leader ≡ Candidate = sym is ∙ bad in cc)

-- ---- steps without actions
pub quiet_keeps : (ring : Layout) (d : Durable) (s o : Soft) (ms : List Message) (says : List Say) → IsShort d s → o.role ≡ s.role → AllFit ring ms
    → Keeps ring d (stepped [] ms says o)
quiet_keeps ring d s o ms says x same fit = record { allowed = tt; short = λ is. x (sym same ∙ is); sent = fit }

pub idle_keeps : (ring : Layout) (d : Durable) (s : Soft) → IsShort d s → Keeps ring d (idle s)
idle_keeps ring d s x = quiet_keeps ring d s s [] [] x refl tt

pub raise_keeps : (ring : Layout) (t : ℕ) (d : Durable) (s : Soft) (ms : List Message) (says : List Say) → d.term < t → t < TERM_END → AllFit ring ms
    → Keeps ring d (stepped (action.SetTerm t ∷ []) ms says (demoted s))
raise_keeps ring t d s ms says up fits fit =
    record { allowed = ((up, fits), tt); short = follower_short (done d (action.SetTerm t)) (demoted s) refl; sent = fit }

-- ---- a leader's step
pub advance_keeps : (ring : Layout) (me : ℕ) (d : Durable) (s : Soft) (first : List Action) (says : List Say) → Sized ring d → Allowed (May ring) d first
    → s.role ≡ Leader → Keeps ring d (advance ring me d s first says)
unfolding advance
advance_keeps ring me d s first says x a role = record {
  allowed = allowed_join (May ring) d first
      (follow_actions ring me (all_done d first) (commit_count ring me (all_done d first).term (all_done d first).log s)) a
      (follow_may ring me (all_done d first) (commit_count ring me (all_done d first).term (all_done d first).log s) (sized_after ring d first a x).entries);
  short = λ bad. absurd (let z : Leader ≡ Candidate = sym role ∙ bad in cc);
  sent = tt;
}

pub own_fits : (ring : Layout) (me : ℕ) (d : Durable) (p : Payload) → group_bytes ring.schema p ≤ group_limit → suc (length d.log) < TERM_END
    → payload_fits ring.schema p ≡ true → list_all (entry_fits ring) (own_entry ring me d p ∷ []) ≡ true
own_fits ring me d p small short fit =
    let a : nat_le (group_bytes ring.schema p) group_limit ≡ true = grind (arith, nat_tests, small) in
    let b : nat_lt (suc (length d.log)) TERM_END ≡ true = grind (arith, nat_tests, short) in
    rw (a, b, fit) refl
