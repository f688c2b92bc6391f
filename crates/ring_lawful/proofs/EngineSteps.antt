-- Parts of steps on a node with an engine: what the commit count, a log that goes on and a log that is cut leave of the prepared pairs.
use Rattle.std.proofs.Common.{◌≡◌, ℕ, ◌+◌, ◌-◌, ◌≤◌, ◌⊎◌, [], ◌∷◌, ◌++◌, ◌∙◌, Bool, List, ap, arith, false, inl, inr, length, refl, subst, suc, sym, true, zero}
use Rattle.std.proofs.lemmas.Bool.Decides.{nat_tests}
use Rattle.std.proofs.lemmas.List.{append-nil}
use Rattle.std.proofs.lemmas.List.Elements.{filter-append}
use Rattle.std.specs.Prelude.{filter, nat_le}
use Rattle.ring_types.specs.declared.entries.Entry.{Entry}
use Rattle.ring_types.specs.declared.entries.Pair.{Pair}
use Rattle.ring_types.specs.Rings.{Layout, runs_engine}
use Rattle.ring_types.specs.Logs.{has_opid}
use Rattle.ring_model.specs.declared.effects.Action.{Action}
use Rattle.ring_model.specs.declared.effects.Action.TheVariants as action
use Rattle.ring_model.specs.declared.effects.Say.{Say}
use Rattle.ring_model.specs.declared.effects.Step.{Step}
use Rattle.ring_model.specs.declared.messages.Message.{Message}
use Rattle.ring_model.specs.declared.nodes.Durable.{Durable}
use Rattle.ring_model.specs.declared.nodes.Soft.{Soft}
use Rattle.ring_model.specs.Actions.{all_done, done, entries_between, pairs_in}
use Rattle.ring_model.specs.Nodes.{is_leader, is_ready, kept_pairs}
use Rattle.ring_model.specs.Steps.{advance, commit_count, engine_actions, follow_actions, greatest, may_commit, stepped, waiting}
use Rattle.ring_model.proofs.OwnEntry.{length_push}
use Rattle.ring_types.proofs.Booleans.{both_true}
use Rattle.ring_model.proofs.HeldElections.{done_join}
use Rattle.ring_lawful.proofs.Along.{Allowed, Along, allowed_join, along_join}
use Rattle.ring_lawful.proofs.Pairs.{Placed, between_more, between_push, none_between, opid_beyond, pairs_join, placed_push}
use Rattle.ring_lawful.proofs.Engine.{Can, Clean, Follows, HasPairs, clean_has, follows}

-- a running node with an engine: the pairs are clean, the engine follows the commit count, and a ready leader has every transaction of its log prepared
pub record EngineRuns (d : Durable) (s : Soft) : Type 0 where
  pub k : ℕ
  pub clean : Clean d k
  pub follows : s.commit ≡ d.applied
  pub ends : is_leader s.role ≡ true → (nat_le s.ready_at s.commit ≡ true) ⊎ (s.ready_at ≡ length d.log)
  pub all : is_ready s ≡ true → Clean d (length d.log)

-- what a step of such a node leaves
pub record EngineStep (d : Durable) (st : Step) : Type 0 where
  pub along : Along HasPairs d st.plan.actions
  pub can : Allowed Can d st.plan.actions
  pub after : EngineRuns (all_done d st.plan.actions) st.soft

not_ready : (s : Soft) → is_leader s.role ≡ false → is_ready s ≡ true → ⊥
not_ready s led ready = let z = both_true (is_leader s.role) (nat_le s.ready_at s.commit) ready in absurd (let y : true ≡ false = sym z.0 ∙ led in cc)

-- a follower or a candidate has no leadership to tell of
pub stands_down : (d : Durable) (s : Soft) (k : ℕ) → Clean d k → s.commit ≡ d.applied → is_leader s.role ≡ false → EngineRuns d s
stands_down d s k c is led =
    record { k = k; clean = c; follows = is; ends = λ bad. absurd (let z : true ≡ false = sym bad ∙ led in cc); all = λ ready. absurd (not_ready s led ready) }

pub same_runs : (d : Durable) (s o : Soft) → o.role ≡ s.role → o.commit ≡ s.commit → o.ready_at ≡ s.ready_at → EngineRuns d s → EngineRuns d o
same_runs d s o role count at r = record {
  k = r.k;
  clean = r.clean;
  follows = count ∙ r.follows;
  ends = λ led. elim (r.ends (sym (ap is_leader role) ∙ led)) [ inl low ↦ inl (let z : nat_le o.ready_at o.commit ≡ nat_le s.ready_at s.commit = rw (at, count) refl in z ∙ low) | inr end ↦ inr (at ∙ end) ];
  all = λ ready. r.all (let z : is_ready o ≡ is_ready s = rw (role, at, count) refl in sym z ∙ ready);
}

pub quiet_step : (d : Durable) (s : Soft) (ms : List Message) (says : List Say) → EngineRuns d s → EngineStep d (stepped [] ms says s)
quiet_step d s ms says r = record { along = clean_has d r.k r.clean; can = tt; after = r }

-- ---- the engine follows
pub follow_clean : (ring : Layout) (me : ℕ) (d : Durable) (c k : ℕ) → runs_engine ring me ≡ true → Clean d k → d.applied ≤ c → c ≤ length d.log
    → Follows d.log k c d (follow_actions ring me d c)
follow_clean ring me d c k runs x low high =
    let z : d.applied + (c - d.applied) ≡ c = omega (arith, low) in
    let f = follows d.log x.placed d.applied k x.inside (c - d.applied) d.applied d (omega arith) (omega (arith, z, high)) refl refl x.prepared in
    let y : Follows d.log k c d (engine_actions d.log d.prepared d.applied (c - d.applied)) =
    subst (λ (ps : List Pair). Follows d.log k c d (engine_actions d.log ps d.applied (c - d.applied))) (sym x.prepared)
    (subst (λ (n : ℕ). Follows d.log k n d (engine_actions d.log (pairs_in (entries_between d.log d.applied k)) d.applied (c - d.applied))) z f) in
    rw runs y

pub followed_clean : (d : Durable) (k c : ℕ) (actions : List Action) → Clean d k → c ≤ length d.log → Follows d.log k c d actions → Clean (all_done d actions) k
followed_clean d k c actions x high f = record {
  placed = subst Placed (sym f.same) x.placed;
  applied = subst (λ (l : List Entry). (all_done d actions).applied ≤ length l) (sym f.same) (omega (arith, f.applied, high));
  inside = subst (λ (l : List Entry). k ≤ length l) (sym f.same) x.inside;
  prepared = f.prepared ∙ (ap (λ (l : List Entry). pairs_in (entries_between l c k)) (sym f.same) ∙ ap (λ (n : ℕ). pairs_in (entries_between (all_done d actions).log n k)) (sym f.applied));
}

pub greatest_bounds : (test : ℕ → Bool) (floor n top : ℕ) → floor ≤ top → n ≤ top → (floor ≤ greatest test floor n) × (greatest test floor n ≤ top)
greatest_bounds test floor zero top low high = (omega arith, low)
greatest_bounds test floor (suc n) top low high = go (nat_le (suc n) floor) refl (test (suc n)) refl (greatest_bounds test floor n top low (omega arith))
  where
    go : (a : Bool) → nat_le (suc n) floor ≡ a → (b : Bool) → test (suc n) ≡ b → (floor ≤ greatest test floor n) × (greatest test floor n ≤ top)
        → (floor ≤ greatest test floor (suc n)) × (greatest test floor (suc n) ≤ top)
    go true x b y ih = rw x (omega arith, low)
    go false x true y ih = rw (x, y) (grind (arith, nat_tests, x), high)
    go false x false y ih = rw (x, y) ih

-- ---- a leader's commit count, and the engine after it
advanced : (e g : Durable) (s t : Soft) (k c : ℕ) → Clean g k → g.log ≡ e.log → g.applied ≡ c → s.commit ≤ c → c ≤ length e.log → t.role ≡ s.role
    → t.ready_at ≡ s.ready_at → t.commit ≡ c
    → (is_leader s.role ≡ true → ((nat_le s.ready_at s.commit ≡ true) × (k ≡ length e.log)) ⊎ (s.ready_at ≡ length e.log)) → EngineRuns g t
advanced e g s t k c x l at low high role ready count cases = record {
  k = k;
  clean = x;
  follows = count ∙ sym at;
  ends = λ led. elim (cases (sym (ap is_leader role) ∙ led)) [
    | inl before ↦ inl (let z : s.ready_at ≤ s.commit = grind (arith, nat_tests, before.0) in grind (arith, nat_tests, z, low, ready, count))
    | inr end ↦ inr (ready ∙ (end ∙ ap length (sym l)))
  ];
  all = λ is. (let both = both_true (is_leader t.role) (nat_le t.ready_at t.commit) is in elim (cases (sym (ap is_leader role) ∙ both.0)) [
    | inl before ↦ subst (Clean g) (before.1 ∙ ap length (sym l)) x
    | inr end ↦
        let z : t.ready_at ≤ t.commit = grind (arith, nat_tests, both.1) in
        let full : c ≡ length e.log = omega (arith, z, ready, count, end, high) in
        record {
          placed = x.placed;
          applied = x.applied;
          inside = omega arith;
          prepared = x.prepared ∙ (ap pairs_in (none_between g.log g.applied k (let y = x.inside in omega (arith, y, at, full, ap length l))) ∙ ap pairs_in (sym (none_between g.log g.applied (length g.log) (omega (arith, at, full, ap length l)))));
        }
  ]);
}

pub advance_step : (ring : Layout) (me : ℕ) (d : Durable) (s : Soft) (first : List Action) (says : List Say) (k : ℕ) → runs_engine ring me ≡ true
    → Along HasPairs d first → Allowed Can d first → Clean (all_done d first) k → s.commit ≡ (all_done d first).applied
    → (is_leader s.role ≡ true → ((nat_le s.ready_at s.commit ≡ true) × (k ≡ length (all_done d first).log)) ⊎ (s.ready_at ≡ length (all_done d first).log))
    → EngineStep d (advance ring me d s first says)
unfolding advance
advance_step ring me d s first says k runs a can x is cases =
    let e : Durable = all_done d first in
    let c = commit_count ring me e.term e.log s in
    let t : Soft = record s { commit = c; pending = waiting c s.pending } in
    let b = greatest_bounds (may_commit ring me e.term e.log s.peers) s.commit (length e.log) (length e.log) (let y = x.applied in omega (arith, y, is)) (omega arith) in
    let f = follow_clean ring me e c k runs x (let y = b.0 in omega (arith, y, is)) b.1 in
    let j = done_join d first (follow_actions ring me e c) in
    record {
      along = along_join HasPairs d first (follow_actions ring me e c) a f.along;
      can = allowed_join Can d first (follow_actions ring me e c) can f.can;
      after = subst (λ (w : Durable). EngineRuns w t) (sym j)
          (advanced e (all_done e (follow_actions ring me e c)) s t k c (followed_clean e k c (follow_actions ring me e c) x b.1 f) f.same f.applied b.0 b.1 refl refl refl cases);
    }

-- ---- a log that goes on
pub append_clean : (d : Durable) (k : ℕ) (es : List Entry) → Clean d k → Placed (d.log ++ es) → Clean (done d (action.Append es)) k
append_clean d k es x placed = record {
  placed = placed;
  applied = (let y = x.applied in let z = length_more d.log es in omega (arith, y, z));
  inside = (let y = x.inside in let z = length_more d.log es in omega (arith, y, z));
  prepared = x.prepared ∙ ap pairs_in (sym (between_more d.log es d.applied k x.applied x.inside));
}
  where
    length_more : (xs ys : List Entry) → length xs ≤ length (xs ++ ys)
    length_more [] ys = omega arith
    length_more (z ∷ xs) ys = let y = length_more xs ys in omega (arith, y)

-- an own entry with no transaction, where the log's every transaction is prepared
pub push_clean : (d : Durable) (x : Entry) → Clean d (length d.log) → x.opid.position ≡ suc (length d.log) → pairs_in (x ∷ []) ≡ []
    → Clean (done d (action.Append (x ∷ []))) (length (done d (action.Append (x ∷ []))).log)
push_clean d x c is none =
    let y = append_clean d (length d.log) (x ∷ []) c (placed_push d.log x c.placed is) in
    record {
      placed = y.placed;
      applied = y.applied;
      inside = omega arith;
      prepared =
          c.prepared ∙ (sym (append-nil (pairs_in (entries_between d.log d.applied (length d.log)))) ∙ (ap (λ (ps : List Pair). pairs_in (entries_between d.log d.applied (length d.log)) ++ ps) (sym none)
          ∙ (sym (pairs_join (entries_between d.log d.applied (length d.log)) (x ∷ [])) ∙ ap pairs_in (sym (between_push d.log x d.applied c.applied)))));
    }

-- a transaction that is prepared before its entry is added
pub record Written (d : Durable) (p : Pair) (x : Entry) : Type 0 where
  pub along : Along HasPairs d (action.Prepare p ∷ action.Append (x ∷ []) ∷ [])
  pub clean : Clean (all_done d (action.Prepare p ∷ action.Append (x ∷ []) ∷ [])) (length (d.log ++ x ∷ []))

pub written : (d : Durable) (p : Pair) (x : Entry) → Clean d (length d.log) → x.opid.position ≡ suc (length d.log) → p.opid ≡ x.opid
    → pairs_in (x ∷ []) ≡ p ∷ [] → Written d p x
written d p x c is same one =
    let m : Durable = done d (action.Prepare p) in
    let e : Durable = done m (action.Append (x ∷ [])) in
    let absent : has_opid d.log p.opid ≡ false =
    opid_beyond d.log p.opid c.placed (let y : p.opid.position ≡ suc (length d.log) = ap (λ o. o.position) same ∙ is in omega (arith, y)) in
    let single : filter (λ (q : Pair). has_opid d.log q.opid) (p ∷ []) ≡ [] = rw absent refl in
    let kept : kept_pairs m ≡ kept_pairs d =
    filter-append (λ (q : Pair). has_opid d.log q.opid) d.prepared (p ∷ [])
    ∙ (ap (λ (ps : List Pair). kept_pairs d ++ ps) single ∙ append-nil (kept_pairs d)) in
    let here : HasPairs m = (let y = clean_has d (length d.log) c in (y.0, y.1, y.2, kept ∙ y.3)) in
    let after : Clean e (length (d.log ++ x ∷ [])) = record {
      placed = placed_push d.log x c.placed is;
      applied = (let y = c.applied in let z = length_push d.log x in omega (arith, y, z));
      inside = omega arith;
      prepared =
          ap (λ (ps : List Pair). ps ++ p ∷ []) c.prepared ∙ (ap (λ (ps : List Pair). pairs_in (entries_between d.log d.applied (length d.log)) ++ ps) (sym one)
          ∙ (sym (pairs_join (entries_between d.log d.applied (length d.log)) (x ∷ [])) ∙ ap pairs_in (sym (between_push d.log x d.applied c.applied))));
    } in
    record { along = (clean_has d (length d.log) c, (here, clean_has e (length (d.log ++ x ∷ [])) after)); clean = after }
