-- A member that takes a leader's Append: what it cuts and adds leaves the prepared pairs those of a stretch above the applied count.
use Rattle.std.proofs.Common.{◌≡◌, ℕ, ◌+◌, ◌-◌, ◌<◌, ◌≤◌, ◌==◌, [], ◌∷◌, ◌++◌, ◌∙◌, if◌then◌else◌, Bool, List, None, Option, Some, ap, arith, false, length, refl, subst, suc, sym, take, true, zero}
use Rattle.std.proofs.lemmas.Bool.Decides.{nat_tests}
use Rattle.std.proofs.lemmas.List.{length-take-le}
use Rattle.std.specs.Prelude.{filter, nat_le, nat_lt}
use Rattle.ring_types.specs.declared.entries.Entry.{Entry}
use Rattle.ring_types.specs.declared.entries.Pair.{Pair}
use Rattle.ring_types.specs.Rings.{Layout, runs_engine}
use Rattle.ring_types.specs.Logs.{entry_at, has_opid, term_at}
use Rattle.ring_model.specs.declared.effects.Action.{Action}
use Rattle.ring_model.specs.declared.effects.Action.TheVariants as action
use Rattle.ring_model.specs.declared.effects.Say.{Say}
use Rattle.ring_model.specs.declared.effects.Tear.{Tear}
use Rattle.ring_model.specs.declared.messages.Append.{Append}
use Rattle.ring_model.specs.declared.nodes.Durable.{Durable}
use Rattle.ring_model.specs.declared.nodes.Role.{Role}
use Rattle.ring_model.specs.declared.nodes.Role.TheVariants.{Candidate, Follower, Leader}
use Rattle.ring_model.specs.declared.nodes.Soft.{Soft}
use Rattle.ring_model.specs.Actions.{all_done, done, is_prepared, pair_of}
use Rattle.ring_model.specs.Nodes.{ArePairsAbove, is_leader}
use Rattle.ring_model.specs.Replication.{accept, follow_append, kept_position, leads_it, match_append, on_append, outgrows, reply, roll_back, take_in, tear_in, unmatched}
use Rattle.ring_model.specs.Steps.{demoted, engine_actions, follow_actions, greater_of, idle, prepare_entry, smaller_of, stepped, unknowns}
use Rattle.ring_model.proofs.GreaterOf.{greater_both}
use Rattle.ring_model.proofs.HeldElections.{done_join}
use Rattle.ring_lawful.proofs.Along.{Allowed, Along, allowed_join, along_join}
use Rattle.ring_lawful.proofs.Pairs.{Placed, cut_pairs, placed_take, rolled_pairs, take_short}
use Rattle.ring_lawful.proofs.Engine.{Can, Clean, HasPairs, above, clean_has}
use Rattle.ring_lawful.proofs.EngineSteps.{EngineRuns, EngineStep, append_clean, follow_clean, followed_clean, stands_down}
use Rattle.ring_lawful.proofs.EngineBoth.{AllTail, Both, clean_at, follow_tail, idle_both, quiet_both, tail_join}
use Rattle.ring_model.proofs.TakingIn.{take_in_same}

-- what the model's invariant gives of a step: entries in their places, the commit count in the log, and never less log than applied
pub record Fits (d : Durable) (actions : List Action) (commit : ℕ) : Type 0 where
  pub placed : Placed (all_done d actions).log
  pub inside : commit ≤ length (all_done d actions).log
  pub cuts : (n : ℕ) → (all_done d (take n actions)).applied ≤ length (all_done d (take n actions)).log

cut_after : (d : Durable) (a b : List Action) (n : ℕ) → all_done d (take (length a + n) (a ++ b)) ≡ all_done (all_done d a) (take n b)
cut_after d [] b n = let z : 0 + n ≡ n = omega arith in rw z refl
cut_after d (x ∷ a) b n = let z : suc (length a) + n ≡ suc (length a + n) = omega arith in rw z (cut_after (done d x) a b n)

fits_after : (d : Durable) (a b : List Action) (c : ℕ) → Fits d (a ++ b) c → Fits (all_done d a) b c
fits_after d a b c f =
    let j = done_join d a b in
    record {
      placed = subst (λ (w : Durable). Placed w.log) j f.placed;
      inside = subst (λ (w : Durable). c ≤ length w.log) j f.inside;
      cuts = λ n. subst (λ (w : Durable). w.applied ≤ length w.log) (cut_after d a b n) (f.cuts (length a + n));
    }

-- the engine's actions leave the log
prepare_log : (d : Durable) (pairs : List Pair) (o : Option Entry) → (all_done d (prepare_entry pairs o)).log ≡ d.log
prepare_log d pairs None = refl
prepare_log d pairs (Some e) = go (pair_of e) (is_prepared pairs e.opid)
  where
    go : (a : Option Pair) (b : Bool) → (all_done d (elim a [ None ↦ [] | Some p ↦ if b then [] else action.Prepare p ∷ [] ])).log ≡ d.log
    go None b = refl
    go (Some p) true = refl
    go (Some p) false = refl

engine_log : (n a : ℕ) (d : Durable) (l : List Entry) (pairs : List Pair) → (all_done d (engine_actions l pairs a n)).log ≡ d.log
engine_log zero a d l pairs = refl
engine_log (suc n) a d l pairs =
    let e : Durable = all_done d (prepare_entry pairs (entry_at l (suc a))) in
    ap (λ (w : Durable). w.log) (done_join d (prepare_entry pairs (entry_at l (suc a))) (action.Commit (suc a) ∷ engine_actions l pairs (suc a) n))
    ∙ (engine_log n (suc a) (done e (action.Commit (suc a))) l pairs ∙ prepare_log d pairs (entry_at l (suc a)))

pub follow_log : (ring : Layout) (me : ℕ) (d : Durable) (c : ℕ) → (all_done d (follow_actions ring me d c)).log ≡ d.log
follow_log ring me d c = go (runs_engine ring me)
  where
    go : (b : Bool) → (all_done d (if b then engine_actions d.log d.prepared d.applied (c - d.applied) else [])).log ≡ d.log
    go true = engine_log (c - d.applied) d.applied d d.log d.prepared
    go false = refl

-- ---- what is cut and added
record Taken (e : Durable) (actions : List Action) : Type 0 where
  along : Along HasPairs e actions
  can : Allowed Can e actions
  k : ℕ
  clean : Clean (all_done e actions) k
  applied : (all_done e actions).applied ≡ e.applied

cut_then : (e : Durable) (k kept : ℕ) (more : List Entry) → Clean e k → e.applied ≤ kept → kept ≤ length e.log → Placed (take kept e.log ++ more)
    → Taken e (action.Truncate kept ∷ action.RollBackAfter kept ∷ action.Append more ∷ [])
cut_then e k kept more x low high placed =
    let a : Durable = done e (action.Truncate kept) in
    let b : Durable = done a (action.RollBackAfter kept) in
    let n : length (take kept e.log) ≡ kept = length-take-le kept e.log high in
    let c = cut_pairs e.log e.applied kept k low x.placed in
    let r = rolled_pairs e.log e.applied kept k low x.placed in
    let has_a : HasPairs a = subst (ArePairsAbove (take kept e.log) e.applied) (sym (ap (filter (λ (p : Pair). has_opid (take kept e.log) p.opid)) x.prepared ∙ c.3))
    (above (take kept e.log) e.applied c.0 (omega (arith, n, low)) (let y = c.1 in omega (arith, n, y))) in
    let clean_b : Clean b r.0 = record {
      placed = placed_take e.log kept x.placed;
      applied = omega (arith, n, low);
      inside = (let y = r.1 in omega (arith, n, y));
      prepared = ap (filter (λ (p : Pair). nat_le p.opid.position kept)) x.prepared ∙ r.3;
    } in
    let clean_f = append_clean b r.0 more clean_b placed in
    record {
      along = (clean_has e k x, (has_a, (clean_has b r.0 clean_b, clean_has (done b (action.Append more)) r.0 clean_f)));
      can = (tt, (tt, (tt, tt)));
      k = r.0;
      clean = clean_f;
      applied = refl;
    }

taken_clean : (ring : Layout) (me : ℕ) (e : Durable) (kept k : ℕ) (rest : List Entry) (more : List Action) → runs_engine ring me ≡ true → Clean e k
    → Placed (all_done e (take_in ring me e kept rest)).log
    → ((n : ℕ) → (all_done e (take n (take_in ring me e kept rest ++ more))).applied ≤ length (all_done e (take n (take_in ring me e kept rest ++ more))).log) → Taken e (take_in ring me e kept rest)
taken_clean ring me e kept k [] more runs x placed cuts = record { along = clean_has e k x; can = tt; k = k; clean = x; applied = refl }
taken_clean ring me e kept k (y ∷ rest) more runs x placed cuts = go (nat_lt kept (length e.log)) refl placed cuts
  where
    roll_is : roll_back ring me kept ≡ action.RollBackAfter kept ∷ []
    roll_is = rw runs refl

    go : (b : Bool) → nat_lt kept (length e.log) ≡ b
        → Placed (all_done e (if b then action.Truncate kept ∷ (roll_back ring me kept ++ (action.Append (y ∷ rest) ∷ [])) else action.Append (y ∷ rest) ∷ [])).log
        → ((n : ℕ) → (all_done e (take n ((if b then action.Truncate kept ∷ (roll_back ring me kept ++ (action.Append (y ∷ rest) ∷ [])) else action.Append (y ∷ rest) ∷ []) ++ more))).applied
        ≤ length (all_done e (take n ((if b then action.Truncate kept ∷ (roll_back ring me kept ++ (action.Append (y ∷ rest) ∷ [])) else action.Append (y ∷ rest) ∷ []) ++ more))).log)
        → Taken e (if b then action.Truncate kept ∷ (roll_back ring me kept ++ (action.Append (y ∷ rest) ∷ [])) else action.Append (y ∷ rest) ∷ [])
    go true is placed cuts =
        let low : e.applied ≤ length (take kept e.log) = cuts 1 in
        let short = take_short kept e.log in
        let at : Placed (take kept e.log ++ (y ∷ rest)) =
        subst (λ (r : List Action). Placed (all_done e (action.Truncate kept ∷ (r ++ (action.Append (y ∷ rest) ∷ [])))).log) roll_is placed in
        subst (λ (r : List Action). Taken e (action.Truncate kept ∷ (r ++ (action.Append (y ∷ rest) ∷ [])))) (sym roll_is)
        (cut_then e k kept (y ∷ rest) x (omega (arith, low, short)) (let z : kept < length e.log = grind (arith, nat_tests, is) in omega (arith, z)) at)
    go false is placed cuts =
        let f = append_clean e k (y ∷ rest) x placed in
        record { along = (clean_has e k x, clean_has (done e (action.Append (y ∷ rest))) k f); can = (tt, tt); k = k; clean = f; applied = refl }

-- ---- the whole rule
-- the node once it follows, after these actions
record Ready (ring : Layout) (me : ℕ) (d : Durable) (s : Soft) (first : List Action) : Type 0 where
  along : Along HasPairs d first
  can : Allowed Can d first
  k : ℕ
  clean : Clean (all_done d first) k
  follows : s.commit ≡ (all_done d first).applied
  same : (all_done d first).log ≡ d.log
  stands : is_leader s.role ≡ false

accept_engine : (ring : Layout) (me : ℕ) (d : Durable) (s : Soft) (first : List Action) (says : List Say) (sent : Append) → runs_engine ring me ≡ true
    → Ready ring me d s first
    → Fits d (accept ring me d s first says sent).plan.actions (accept ring me d s first says sent).soft.commit
    → EngineStep d (accept ring me d s first says sent)
accept_engine ring me d s first says sent runs r fits =
    let e : Durable = all_done d first in
    let rest = unmatched d.log sent.prev.position sent.entries in
    let kept = kept_position sent.prev sent.entries rest in
    let acts : List Action = take_in ring me d kept rest in
    let m = sent.prev.position + length sent.entries in
    let c = greater_of s.commit (smaller_of sent.commit m) in
    let f : Durable = all_done e acts in
    let more : List Action = follow_actions ring me f c in
    let g : Durable = all_done f more in
    let own = fits_after d first (acts ++ more) c fits in
    let is : take_in ring me e kept rest ≡ acts = take_in_same ring me kept d e rest r.same in
    let l : (all_done e (acts ++ more)).log ≡ f.log = ap (λ (w : Durable). w.log) (done_join e acts more) ∙ follow_log ring me f c in
    let t : Taken e acts = subst (λ (w : List Action). Taken e w) is (taken_clean ring me e kept r.k rest more runs r.clean
    (subst (λ (w : List Action). Placed (all_done e w).log) (sym is) (subst Placed l own.placed))
    (subst (λ (w : List Action). (n : ℕ) → (all_done e (take n (w ++ more))).applied ≤ length (all_done e (take n (w ++ more))).log) (sym is) own.cuts)) in
    let high : c ≤ length f.log = subst (λ (w : List Entry). c ≤ length w) l own.inside in
    let least = (greater_both s.commit (smaller_of sent.commit m)).0 in
    let low : f.applied ≤ c = (let a = t.applied in let b = r.follows in omega (arith, a, b, least)) in
    let y = follow_clean ring me f c t.k runs t.clean low high in
    let j : all_done d (first ++ (acts ++ more)) ≡ g = done_join d first (acts ++ more) ∙ done_join e acts more in
    record {
      along = along_join HasPairs d first (acts ++ more) r.along (along_join HasPairs e acts more t.along y.along);
      can = allowed_join Can d first (acts ++ more) r.can (allowed_join Can e acts more t.can y.can);
      after = subst (λ (w : Durable). EngineRuns w (record s { commit = c })) (sym j)
          (stands_down g (record s { commit = c }) t.k (followed_clean f t.k c more t.clean high y) (sym y.applied) r.stands);
    }

taken_tail : (ring : Layout) (me : ℕ) (d : Durable) (kept : ℕ) (rest : List Entry) → runs_engine ring me ≡ false → AllTail (take_in ring me d kept rest)
taken_tail ring me d kept [] runs = tt
taken_tail ring me d kept (x ∷ rest) runs = go (nat_lt kept (length d.log))
  where
    go : (b : Bool) → AllTail (if b then action.Truncate kept ∷ (roll_back ring me kept ++ (action.Append (x ∷ rest) ∷ [])) else action.Append (x ∷ rest) ∷ [])
    go true = rw runs (tt, (tt, tt))
    go false = (tt, tt)

match_both : (ring : Layout) (me : ℕ) (d : Durable) (o s : Soft) (first : List Action) (says : List Say) (sent : Append)
    → (runs_engine ring me ≡ true → EngineRuns d o → Ready ring me d s first) → AllTail first
    → Fits d (match_append ring me d s first says sent).plan.actions (match_append ring me d s first says sent).soft.commit
    → Both ring me d o (match_append ring me d s first says sent)
match_both ring me d o s first says sent ready quiet fits = go (nat_lt (length d.log) sent.prev.position) (term_at d.log sent.prev.position == sent.prev.term) fits
  where
    refusing : (p : ℕ) → Both ring me d o (stepped first (reply me sent.leader sent.term false p ∷ []) says s)
    refusing p = record {
      engine = λ runs r. (let x = ready runs r in record { along = x.along; can = x.can; after = stands_down (all_done d first) s x.k x.clean x.follows x.stands });
      tail = λ runs. quiet;
    }

    go : (a b : Bool)
        → Fits d (if a then stepped first (reply me sent.leader sent.term false (length d.log) ∷ []) says s else (if b then accept ring me d s first says sent else stepped first (reply me sent.leader sent.term false (sent.prev.position - 1) ∷ []) says s)).plan.actions
        (if a then stepped first (reply me sent.leader sent.term false (length d.log) ∷ []) says s else (if b then accept ring me d s first says sent else stepped first (reply me sent.leader sent.term false (sent.prev.position - 1) ∷ []) says s)).soft.commit
        → Both ring me d o (if a then stepped first (reply me sent.leader sent.term false (length d.log) ∷ []) says s else (if b then accept ring me d s first says sent else stepped first (reply me sent.leader sent.term false (sent.prev.position - 1) ∷ []) says s))
    go true b fits = refusing (length d.log)
    go false false fits = refusing (sent.prev.position - 1)
    go false true fits = record {
      engine = λ runs r. accept_engine ring me d s first says sent runs (ready runs r) fits;
      tail = λ runs.
          let rest = unmatched d.log sent.prev.position sent.entries in
          let kept = kept_position sent.prev sent.entries rest in
          tail_join first _ quiet (tail_join (take_in ring me d kept rest) _ (taken_tail ring me d kept rest runs) (follow_tail ring me (all_done (all_done d first) (take_in ring me d kept rest)) _ runs));
    }

follow_both : (ring : Layout) (me : ℕ) (d : Durable) (s : Soft) (sent : Append)
    → Fits d (follow_append ring me d s sent).plan.actions (follow_append ring me d s sent).soft.commit → Both ring me d s (follow_append ring me d s sent)
follow_both ring me d s sent fits = go (nat_lt d.term sent.term) s.role refl fits
  where
    go : (b : Bool) (o : Role) → s.role ≡ o
        → Fits d (if b then match_append ring me d (demoted s) (action.SetTerm sent.term ∷ []) (unknowns s) sent
        else elim o [ Follower ↦ match_append ring me d s [] [] sent | Candidate ↦ match_append ring me d (demoted s) [] (unknowns s) sent | Leader ↦ idle s ]).plan.actions
        (if b then match_append ring me d (demoted s) (action.SetTerm sent.term ∷ []) (unknowns s) sent
        else elim o [ Follower ↦ match_append ring me d s [] [] sent | Candidate ↦ match_append ring me d (demoted s) [] (unknowns s) sent | Leader ↦ idle s ]).soft.commit
        → Both ring me d s (if b then match_append ring me d (demoted s) (action.SetTerm sent.term ∷ []) (unknowns s) sent
        else elim o [ Follower ↦ match_append ring me d s [] [] sent | Candidate ↦ match_append ring me d (demoted s) [] (unknowns s) sent | Leader ↦ idle s ])
    go true o z fits = match_both ring me d s (demoted s) (action.SetTerm sent.term ∷ []) (unknowns s) sent
        (λ runs r. let x = clean_at d (done d (action.SetTerm sent.term)) r.k refl refl refl r.clean in record { along = (clean_has d r.k r.clean, clean_has (done d (action.SetTerm sent.term)) r.k x); can = (tt, tt); k = r.k; clean = x; follows = r.follows; same = refl; stands = refl })
        (tt, tt) fits
    go false Follower z fits =
        match_both ring me d s s [] [] sent
        (λ runs r. record { along = clean_has d r.k r.clean; can = tt; k = r.k; clean = r.clean; follows = r.follows; same = refl; stands = ap is_leader z }) tt fits
    go false Candidate z fits =
        match_both ring me d s (demoted s) [] (unknowns s) sent
        (λ runs r. record { along = clean_has d r.k r.clean; can = tt; k = r.k; clean = r.clean; follows = r.follows; same = refl; stands = refl }) tt fits
    go false Leader z fits = idle_both ring me d s

pub append_both : (ring : Layout) (me : ℕ) (sent : Append) (d : Durable) (s : Soft)
    → Fits d (on_append ring me d s sent).plan.actions (on_append ring me d s sent).soft.commit → Both ring me d s (on_append ring me d s sent)
unfolding on_append
append_both ring me sent d s fits = go (outgrows d sent) (nat_lt sent.term d.term) (leads_it d s sent) (tear_in d s sent) fits
  where
    go : (a b c : Bool) (t : Option Tear)
        → Fits d (if a then idle s else (if b then stepped [] (reply me sent.leader d.term false 0 ∷ []) [] s else (if c then idle s else elim t [ Some t ↦ idle s | None ↦ follow_append ring me d s sent ]))).plan.actions
        (if a then idle s else (if b then stepped [] (reply me sent.leader d.term false 0 ∷ []) [] s else (if c then idle s else elim t [ Some t ↦ idle s | None ↦ follow_append ring me d s sent ]))).soft.commit
        → Both ring me d s (if a then idle s else (if b then stepped [] (reply me sent.leader d.term false 0 ∷ []) [] s else (if c then idle s else elim t [ Some t ↦ idle s | None ↦ follow_append ring me d s sent ])))
    go true b c t fits = idle_both ring me d s
    go false true c t fits = quiet_both ring me d s s _ [] refl refl refl
    go false false true t fits = idle_both ring me d s
    go false false false (Some t) fits = idle_both ring me d s
    go false false false None fits = follow_both ring me d s sent fits
