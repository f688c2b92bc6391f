-- Actions that leave log, applied count and pairs leave the pairs those of the same stretch; a logtailer's neither prepare nor apply.
use Rattle.std.proofs.Common.{◌≡◌, ℕ, ◌≤◌, [], ◌∷◌, ◌++◌, ◌∙◌, List, ap, arith, false, inl, inr, length, refl, subst, sym, true}
use Rattle.ring_types.specs.declared.entries.Entry.{Entry}
use Rattle.ring_types.specs.Rings.{Layout, runs_engine}
use Rattle.ring_model.specs.declared.effects.Action.{Action}
use Rattle.ring_model.specs.declared.effects.Action.TheVariants as action
use Rattle.ring_model.specs.declared.effects.Say.{Say}
use Rattle.ring_model.specs.declared.effects.Step.{Step}
use Rattle.ring_model.specs.declared.messages.Message.{Message}
use Rattle.ring_model.specs.declared.nodes.Durable.{Durable}
use Rattle.ring_model.specs.declared.nodes.Soft.{Soft}
use Rattle.ring_model.specs.Actions.{all_done, done, entries_between, pairs_in}
use Rattle.ring_model.specs.Steps.{advance, commit_count, demoted, follow_actions, idle, stepped}
use Rattle.ring_lawful.proofs.Pairs.{Placed}
use Rattle.ring_lawful.proofs.Engine.{Clean, clean_has}
use Rattle.ring_lawful.proofs.EngineSteps.{EngineRuns, EngineStep, quiet_step, same_runs, stands_down}

-- ---- what a logtailer may do
abbrev pub IsTail : Action → Type 0
IsTail (action.SetTerm term) = Unit {0}
IsTail (action.Vote vote floor) = Unit {0}
IsTail (action.Append entries) = Unit {0}
IsTail (action.Truncate position) = Unit {0}
IsTail _ = ⊥

abbrev pub AllTail : List Action → Type 0
AllTail [] = Unit {0}
AllTail (a ∷ actions) = IsTail a × AllTail actions

pub tail_join : (a b : List Action) → AllTail a → AllTail b → AllTail (a ++ b)
tail_join [] b x y = y
tail_join (s ∷ a) b x y = (x.0, tail_join a b x.1 y)

pub follow_tail : (ring : Layout) (me : ℕ) (d : Durable) (c : ℕ) → runs_engine ring me ≡ false → AllTail (follow_actions ring me d c)
follow_tail ring me d c runs = rw runs tt

pub advance_tail : (ring : Layout) (me : ℕ) (d : Durable) (s : Soft) (first : List Action) (says : List Say) → runs_engine ring me ≡ false → AllTail first
    → AllTail (advance ring me d s first says).plan.actions
unfolding advance
advance_tail ring me d s first says runs x =
    tail_join first (follow_actions ring me (all_done d first) (commit_count ring me (all_done d first).term (all_done d first).log s)) x
    (follow_tail ring me (all_done d first) (commit_count ring me (all_done d first).term (all_done d first).log s) runs)

-- what a rule owes, with an engine and without
pub record Both (ring : Layout) (me : ℕ) (d : Durable) (s : Soft) (st : Step) : Type 0 where
  pub engine : runs_engine ring me ≡ true → EngineRuns d s → EngineStep d st
  pub tail : runs_engine ring me ≡ false → AllTail st.plan.actions

-- ---- steps without a change of the log
pub quiet_both : (ring : Layout) (me : ℕ) (d : Durable) (s o : Soft) (ms : List Message) (says : List Say) → o.role ≡ s.role → o.commit ≡ s.commit
    → o.ready_at ≡ s.ready_at → Both ring me d s (stepped [] ms says o)
quiet_both ring me d s o ms says a b c = record { engine = λ runs r. quiet_step d o ms says (same_runs d s o a b c r); tail = λ runs. tt }

pub idle_both : (ring : Layout) (me : ℕ) (d : Durable) (s : Soft) → Both ring me d s (idle s)
idle_both ring me d s = quiet_both ring me d s s [] [] refl refl refl

pub clean_at : (d e : Durable) (k : ℕ) → e.log ≡ d.log → e.applied ≡ d.applied → e.prepared ≡ d.prepared → Clean d k → Clean e k
clean_at d e k l a p x = record {
  placed = subst Placed (sym l) x.placed;
  applied = subst (λ (w : List Entry). e.applied ≤ length w) (sym l) (let y = x.applied in omega (arith, y, a));
  inside = subst (λ (w : List Entry). k ≤ length w) (sym l) x.inside;
  prepared = p ∙ (x.prepared ∙ (ap (λ (w : List Entry). pairs_in (entries_between w d.applied k)) (sym l) ∙ ap (λ (n : ℕ). pairs_in (entries_between e.log n k)) (sym a)));
}

pub runs_at : (d e : Durable) (s : Soft) → e.log ≡ d.log → e.applied ≡ d.applied → e.prepared ≡ d.prepared → EngineRuns d s → EngineRuns e s
runs_at d e s l a p r = record {
  k = r.k;
  clean = clean_at d e r.k l a p r.clean;
  follows = r.follows ∙ sym a;
  ends = λ led. elim (r.ends led) [ inl low ↦ inl low | inr end ↦ inr (end ∙ ap length (sym l)) ];
  all = λ ready. subst (Clean e) (ap length (sym l)) (clean_at d e (length d.log) l a p (r.all ready));
}

pub raise_both : (ring : Layout) (me t : ℕ) (d : Durable) (s : Soft) (ms : List Message) (says : List Say)
    → Both ring me d s (stepped (action.SetTerm t ∷ []) ms says (demoted s))
raise_both ring me t d s ms says = record {
  engine = λ runs r. (let x = clean_at d (done d (action.SetTerm t)) r.k refl refl refl r.clean in record { along = (clean_has d r.k r.clean, clean_has (done d (action.SetTerm t)) r.k x); can = (tt, tt); after = stands_down (done d (action.SetTerm t)) (demoted s) r.k x r.follows refl });
  tail = λ runs. (tt, tt);
}
