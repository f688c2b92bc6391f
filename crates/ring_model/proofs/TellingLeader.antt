-- What is told is an entry of the teller's log up to its commit count, for a leader's waiting writes stand in its log; no other step tells.
use Rattle.std.proofs.Common.{◌≡◌, ℕ, ◌-◌, ◌≤◌, [], ◌∷◌, ◌∙◌, if◌then◌else◌, Bool, List, None, Option, Some, ap, arith, false, inl, inr, not, refl, subst, suc, sym, true, zero}
use Rattle.std.proofs.lemmas.List.Elements.{Contains-append_cases}
use Rattle.std.proofs.lemmas.Bool.Decides.{nat_tests}
use Rattle.std.specs.List.{Contains, filter}
use Rattle.ring_types.specs.declared.entries.Entry.{Entry}
use Rattle.ring_types.specs.declared.values.Gtid.{Gtid}
use Rattle.ring_types.specs.Rings.{Layout, runs_engine}
use Rattle.ring_types.specs.declared.entries.Opid.{Opid}
use Rattle.ring_types.specs.declared.entries.Pair.{Pair}
use Rattle.ring_types.specs.Logs.{entry_at}
use Rattle.ring_types.specs.Gtids.{gtid_of}
use Rattle.ring_model.specs.declared.effects.Action.{Action}
use Rattle.ring_model.specs.declared.nodes.Durable.{Durable}
use Rattle.ring_model.specs.declared.messages.Message.{Message}
use Rattle.ring_model.specs.declared.nodes.Pending.{Pending}
use Rattle.ring_model.specs.declared.effects.Say.{Say}
use Rattle.ring_model.specs.declared.nodes.Soft.{Soft}
use Rattle.ring_model.specs.declared.effects.Step.{Step}
use Rattle.ring_model.specs.Steps.{advance, commit_count, committed, committeds, engine_actions, follow_actions, idle, is_settled, prepare_entry, stepped, unknown, unknowns, waiting}
use Rattle.ring_model.specs.Actions.{all_done, done, is_prepared, pair_of}
use Rattle.ring_model.specs.Nodes.{is_leader}
use Rattle.ring_model.specs.declared.effects.Action.TheVariants as action
use Rattle.ring_model.specs.declared.effects.What.TheVariants as what
use Rattle.ring_model.proofs.Lists.{cons_cases, filter_of, filter_true, map_of, none_contained}
use Rattle.ring_model.proofs.HeldElections.{done_join}

-- the entry of this opid and GTID stands in the log
pub record IsEntryFor (log : List Entry) (gtid : Gtid) (opid : Opid) : Type 0 where
  pub entry : Entry
  pub at : entry_at log opid.position ≡ Some entry
  pub named : entry.opid ≡ opid
  pub numbered : gtid_of entry ≡ Some gtid

-- a leader's waiting writes stand in its log; no other node has any
pub record KeepsPending (log : List Entry) (s : Soft) : Type 0 where
  pub none : is_leader s.role ≡ false → s.pending ≡ []
  pub each : (p : Pending) → Contains s.pending p → IsEntryFor log p.gtid p.opid

-- a leader may say so
pub record MayTell (d : Durable) (s : Soft) (gtid : Gtid) (opid : Opid) (term : ℕ) : Type 0 where
  pub leads : is_leader s.role ≡ true
  pub of_term : term ≡ d.term
  pub inside : opid.position ≤ s.commit
  pub stands : IsEntryFor d.log gtid opid

pub record Tells (d : Durable) (st : Step) : Type 0 where
  pub pending : KeepsPending (all_done d st.plan.actions).log st.soft
  pub says : (x : Say) → Contains st.plan.says x → (gtid : Gtid) (opid : Opid) (term : ℕ) → x.what ≡ what.Committed gtid opid term
      → MayTell (all_done d st.plan.actions) st.soft gtid opid term

-- none of these says that a write is committed
abbrev pub AreOther : List Say → Type 0
AreOther says = (x : Say) → Contains says x → (gtid : Gtid) (opid : Opid) (term : ℕ) → x.what ≡ what.Committed gtid opid term → ⊥

pub no_says : AreOther []
no_says x in_x gtid opid term is = none_contained x in_x

pub one_say : (y : Say) → ((gtid : Gtid) (opid : Opid) (term : ℕ) → y.what ≡ what.Committed gtid opid term → ⊥) → AreOther (y ∷ [])
one_say y other x in_x gtid opid term is =
    elim (cons_cases y [] x in_x) [ inl here ↦ other gtid opid term (ap (λ (w : Say). w.what) here ∙ is) | inr there ↦ none_contained x there ]

pub unknowns_other : (s : Soft) → AreOther (unknowns s)
unknowns_other s x in_x gtid opid term is =
    let y = map_of unknown s.pending x in_x in
    let z : what.Unknown y.0.gtid y.0.opid ≡ what.Committed gtid opid term = ap (λ (w : Say). w.what) y.2 ∙ is in
    absurd cc

-- ---- steps that leave or empty what waits
pub same_tells : (d : Durable) (s o : Soft) (actions : List Action) (ms : List Message) (says : List Say) → KeepsPending d.log s
    → (all_done d actions).log ≡ d.log → o.role ≡ s.role → o.pending ≡ s.pending → AreOther says → Tells d (stepped actions ms says o)
same_tells d s o actions ms says k log role pending other = record {
  pending = record {
    none = λ is. pending ∙ k.none (ap is_leader (sym role) ∙ is);
    each = λ p in_p. subst (λ (l : List Entry). IsEntryFor l p.gtid p.opid) (sym log) (k.each p (subst (λ (ps : List Pending). Contains ps p) pending in_p));
  };
  says = λ x in_x gtid opid term is. absurd (other x in_x gtid opid term is);
}

pub empty_tells : (d : Durable) (o : Soft) (actions : List Action) (ms : List Message) (says : List Say) → o.pending ≡ [] → AreOther says
    → Tells d (stepped actions ms says o)
empty_tells d o actions ms says none other = record {
  pending = record {
    none = λ is. none;
    each = λ p in_p. absurd (none_contained p (subst (λ (ps : List Pending). Contains ps p) none in_p));
  };
  says = λ x in_x gtid opid term is. absurd (other x in_x gtid opid term is);
}

pub idle_tells : (d : Durable) (s : Soft) → KeepsPending d.log s → Tells d (idle s)
idle_tells d s k = same_tells d s s [] [] [] k refl refl refl no_says

-- ---- a leader's step
record SameTermLog (d e : Durable) : Type 0 where
  term : e.term ≡ d.term
  log : e.log ≡ d.log

prepare_same : (d : Durable) (pairs : List Pair) (o : Option Entry) → SameTermLog d (all_done d (prepare_entry pairs o))
prepare_same d pairs None = record { term = refl; log = refl }
prepare_same d pairs (Some e) = go (pair_of e) (is_prepared pairs e.opid)
  where
    go : (a : Option Pair) (b : Bool) → SameTermLog d (all_done d (elim a [ None ↦ [] | Some p ↦ if b then [] else action.Prepare p ∷ [] ]))
    go None b = record { term = refl; log = refl }
    go (Some p) true = record { term = refl; log = refl }
    go (Some p) false = record { term = refl; log = refl }

engine_same : (n a : ℕ) (d : Durable) (l : List Entry) (pairs : List Pair) → SameTermLog d (all_done d (engine_actions l pairs a n))
engine_same zero a d l pairs = record { term = refl; log = refl }
engine_same (suc n) a d l pairs =
    let p = prepare_same d pairs (entry_at l (suc a)) in
    let e : Durable = all_done d (prepare_entry pairs (entry_at l (suc a))) in
    let ih = engine_same n (suc a) (done e (action.Commit (suc a))) l pairs in
    let j = done_join d (prepare_entry pairs (entry_at l (suc a))) (action.Commit (suc a) ∷ engine_actions l pairs (suc a) n) in
    subst (SameTermLog d) (sym j) (record { term = ih.term ∙ p.term; log = ih.log ∙ p.log })

follow_same : (ring : Layout) (me : ℕ) (d : Durable) (c : ℕ) → SameTermLog d (all_done d (follow_actions ring me d c))
follow_same ring me d c = go (runs_engine ring me)
  where
    go : (b : Bool) → SameTermLog d (all_done d (if b then engine_actions d.log d.prepared d.applied (c - d.applied) else []))
    go true = engine_same (c - d.applied) d.applied d d.log d.prepared
    go false = record { term = refl; log = refl }

settled_inside : (c : ℕ) (p : Pending) → is_settled c p ≡ true → p.opid.position ≤ c
settled_inside c p is = grind (arith, nat_tests, is)

committed_is : (a b c : Gtid) (o q : Opid) (t u : ℕ) → what.Committed a o t ≡ what.Committed b q u → (a ≡ b) × (o ≡ q) × (t ≡ u)
committed_is a b c o q t u is = (cc, cc, cc)

pub advance_tells : (ring : Layout) (me : ℕ) (d : Durable) (s : Soft) (first : List Action) (says : List Say) → is_leader s.role ≡ true
    → ((p : Pending) → Contains s.pending p → IsEntryFor (all_done d first).log p.gtid p.opid) → AreOther says
    → Tells d (advance ring me d s first says)
unfolding advance
advance_tells ring me d s first says leads each other =
    let e : Durable = all_done d first in
    let c = commit_count ring me e.term e.log s in
    let f = follow_same ring me e c in
    let j = done_join d first (follow_actions ring me e c) in
    let g : Durable = all_done e (follow_actions ring me e c) in
    record {
      pending = record {
        none = λ is. absurd (let z : true ≡ false = sym leads ∙ is in cc);
        each = λ p in_p. subst (λ (w : Durable). IsEntryFor w.log p.gtid p.opid) (sym j)
            (subst (λ (l : List Entry). IsEntryFor l p.gtid p.opid) (sym f.log) (each p (filter_of (λ (q : Pending). not (is_settled c q)) s.pending p in_p)));
      };
      says = λ x in_x gtid opid term is. elim (Contains-append_cases says (committeds e.term c s.pending) x in_x) [
        | inl old ↦ absurd (other x old gtid opid term is)
        | inr new ↦
            let y = map_of (committed e.term) (filter (is_settled c) s.pending) x new in
            let p = y.0 in
            let same = committed_is p.gtid gtid gtid p.opid opid e.term term (ap (λ (w : Say). w.what) y.2 ∙ is) in
            let le : p.opid.position ≤ c = settled_inside c p (filter_true (is_settled c) s.pending p y.1) in
            let stands : IsEntryFor e.log gtid opid =
            subst (λ (w : Opid). IsEntryFor e.log gtid w) same.1
            (subst (λ (w : Gtid). IsEntryFor e.log w p.opid) same.0 (each p (filter_of (is_settled c) s.pending p y.1))) in
            subst (λ (w : Durable). MayTell w (record s { commit = c; pending = waiting c s.pending }) gtid opid term) (sym j) (record {
              leads = leads;
              of_term = sym same.2 ∙ sym f.term;
              inside = subst (λ (w : Opid). w.position ≤ c) same.1 le;
              stands = subst (λ (l : List Entry). IsEntryFor l gtid opid) (sym f.log) stands;
            })
      ];
    }
