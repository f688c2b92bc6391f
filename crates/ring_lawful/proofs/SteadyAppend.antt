-- A member that takes any well-formed Append: what it cuts is above its commit count, and what it adds goes on from what it keeps.
use Rattle.std.proofs.Common.{◌≡◌, ℕ, ◌+◌, ◌-◌, ◌≤◌, ◌==◌, [], ◌∷◌, ◌++◌, ◌∙◌, if◌then◌else◌, Bool, List, None, Option, Some, ap, arith, false, length, refl, subst, suc, sym, true}
use Rattle.std.proofs.lemmas.Bool.Decides.{nat_tests}
use Rattle.std.specs.Prelude.{nat_le, nat_lt}
use Rattle.std.specs.List.{list_all}
use Rattle.ring_types.specs.declared.entries.Entry.{Entry}
use Rattle.ring_types.specs.Logs.{term_at}
use Rattle.ring_types.specs.Rings.{Layout}
use Rattle.ring_model.specs.declared.effects.Action.{Action}
use Rattle.ring_model.specs.declared.effects.Action.TheVariants as action
use Rattle.ring_model.specs.declared.effects.Say.{Say}
use Rattle.ring_model.specs.declared.effects.Tear.{Tear}
use Rattle.ring_model.specs.declared.messages.Append.{Append}
use Rattle.ring_model.specs.declared.nodes.Durable.{Durable}
use Rattle.ring_model.specs.declared.nodes.Role.{Role}
use Rattle.ring_model.specs.declared.nodes.Role.TheVariants.{Candidate, Follower, Leader}
use Rattle.ring_model.specs.declared.nodes.Soft.{Soft}
use Rattle.ring_model.specs.Actions.{all_done}
use Rattle.ring_model.specs.Nodes.{is_leader}
use Rattle.ring_model.specs.Replication.{accept, first_tear, follow_append, kept_position, leads_it, match_append, on_append, outgrows, reply, take_in, tear_in, terms_of, unmatched}
use Rattle.ring_model.specs.Steps.{demoted, follow_actions, greater_of, idle, smaller_of, stepped, unknowns}
use Rattle.ring_model.proofs.GreaterOf.{greater_by, smaller_low}
use Rattle.ring_types.proofs.Booleans.{both_true}
use Rattle.ring_model.proofs.HeldElections.{done_join}
use Rattle.ring_lawful.proofs.Along.{Allowed, allowed_join}
use Rattle.ring_lawful.proofs.EngineAppend.{follow_log}
use Rattle.ring_lawful.proofs.Chains.{Chain, Ordered, Orderly, follow_orderly, ordered_after}
use Rattle.ring_lawful.proofs.SteadyTaking.{Kept, Taking, rest_low, taking, tear_tail, unmatched_kept}
use Rattle.ring_lawful.proofs.Steady.{Counted, Steady, idle_steady, not_leading, quiet_steady}

-- ---- the whole rule
-- what a member knows of an Append that it takes
pub record Takes (d : Durable) (s : Soft) (sent : Append) : Type 0 where
  pub chain : Chain sent.prev.term sent.prev.position sent.entries
  pub low : list_all (λ (e : Entry). nat_le e.opid.term sent.term) sent.entries ≡ true
  pub whole : tear_in d s sent ≡ None

module _ (ring : Layout) (me : ℕ) (d : Durable) (o s : Soft) (first : List Action) (says : List Say) (sent : Append) (x : Ordered d) (c : Counted d o)
    (same : s.commit ≡ o.commit) (a : Allowed Orderly d first) (l : (all_done d first).log ≡ d.log)
    (ap_is : (all_done d first).applied ≡ d.applied) (t : sent.term ≤ (all_done d first).term) (stands : is_leader s.role ≡ false) (m : Takes d o sent) where
  refusing_steady : (p : ℕ) → Steady d (stepped first (reply me sent.leader sent.term false p ∷ []) says s)
  refusing_steady p = record {
    allowed = a;
    inside = (let n : length (all_done d first).log ≡ length d.log = ap length l in let i = c.inside in omega (arith, n, i, same));
    near = not_leading s.role _ s.peers stands;
  }

  accept_steady : sent.prev.position ≤ length d.log → term_at d.log sent.prev.position ≡ sent.prev.term → Steady d (accept ring me d s first says sent)
  accept_steady high at =
      let e : Durable = all_done d first in
      let rest = unmatched d.log sent.prev.position sent.entries in
      let kept = kept_position sent.prev sent.entries rest in
      let acts : List Action = take_in ring me d kept rest in
      let last = sent.prev.position + length sent.entries in
      let commit = greater_of s.commit (smaller_of sent.commit last) in
      let k : Kept d.log s.commit sent.prev.position sent.entries rest =
      unmatched_kept d.log s.commit sent.prev.position sent.prev.term sent.entries high at m.chain
      (subst (λ (n : ℕ). first_tear d.log n (suc sent.prev.position) (terms_of sent.entries) ≡ None) (sym same) (tear_tail d.log o.commit sent.prev.position sent.prev.term (terms_of sent.entries) m.whole)) in
      let low : list_all (λ (w : Entry). nat_le w.opid.term e.term) rest ≡ true =
      rest_low d.log e.term sent.prev.position sent.entries (weaker sent.entries m.low) in
      let above = c.above in
      let inside = c.inside in
      let y : Taking e s.commit last acts =
      taking ring me d e s.commit sent.prev.position sent.entries rest k kept k.is l (omega (arith, ap_is, above, same)) (omega (arith, inside, same)) low in
      let f : Durable = all_done e acts in
      let ordered : Ordered f = ordered_after e acts y.allowed (ordered_after d first a x) in
      let least = (smaller_low sent.commit last).1 in
      let total = y.total in
      let fit : commit ≤ length f.log = greater_by (λ (n : ℕ). n ≤ length f.log) s.commit (smaller_of sent.commit last) y.count (omega (arith, least, total)) in
      let more : List Action = follow_actions ring me f commit in
      let j : length (all_done d (first ++ (acts ++ more))).log ≡ length f.log =
      ap (λ (w : Durable). length w.log) (done_join d first (acts ++ more) ∙ done_join e acts more) ∙ ap length (follow_log ring me f commit) in
      record {
        allowed = allowed_join Orderly d first (acts ++ more) a
            (allowed_join Orderly e acts more y.allowed (follow_orderly ring me f commit ordered.applied fit));
        inside = omega (arith, j, fit);
        near = not_leading s.role _ s.peers stands;
      }
    where
      weaker : (es : List Entry) → list_all (λ (w : Entry). nat_le w.opid.term sent.term) es ≡ true
          → list_all (λ (w : Entry). nat_le w.opid.term (all_done d first).term) es ≡ true
      weaker [] is = refl
      weaker (w ∷ es) is =
          let z = both_true (nat_le w.opid.term sent.term) (list_all (λ (w : Entry). nat_le w.opid.term sent.term) es) is in
          let here : nat_le w.opid.term (all_done d first).term ≡ true = (let y = z.0 in grind (arith, nat_tests, y, t)) in rw here (weaker es z.1)

  match_steady : Steady d (match_append ring me d s first says sent)
  match_steady = go (nat_lt (length d.log) sent.prev.position) refl (term_at d.log sent.prev.position == sent.prev.term) refl
    where
      go : (p : Bool) → nat_lt (length d.log) sent.prev.position ≡ p → (q : Bool) → (term_at d.log sent.prev.position == sent.prev.term) ≡ q
          → Steady d (if p then stepped first (reply me sent.leader sent.term false (length d.log) ∷ []) says s
          else (if q then accept ring me d s first says sent else stepped first (reply me sent.leader sent.term false (sent.prev.position - 1) ∷ []) says s))
      go true y q z = refusing_steady (length d.log)
      go false y true z = accept_steady (grind (arith, nat_tests, y)) (grind (arith, nat_tests, z))
      go false y false z = refusing_steady (sent.prev.position - 1)

follow_steady : (ring : Layout) (me : ℕ) (d : Durable) (s : Soft) (sent : Append) → Ordered d → Counted d s → nat_lt sent.term d.term ≡ false
    → Takes d s sent → Steady d (follow_append ring me d s sent)
follow_steady ring me d s sent x c new m = go (nat_lt d.term sent.term) refl s.role refl
  where
    go : (b : Bool) → nat_lt d.term sent.term ≡ b → (o : Role) → s.role ≡ o
        → Steady d (if b then match_append ring me d (demoted s) (action.SetTerm sent.term ∷ []) (unknowns s) sent
        else elim o [ Follower ↦ match_append ring me d s [] [] sent | Candidate ↦ match_append ring me d (demoted s) [] (unknowns s) sent | Leader ↦ idle s ])
    go true y o z =
        match_steady ring me d s (demoted s) (action.SetTerm sent.term ∷ []) (unknowns s) sent x c refl (grind (arith, nat_tests, y), tt) refl refl
        (omega arith) refl m
    go false y Follower z = match_steady ring me d s s [] [] sent x c refl tt refl refl (grind (arith, nat_tests, y)) (ap is_leader z) m
    go false y Candidate z = match_steady ring me d s (demoted s) [] (unknowns s) sent x c refl tt refl refl (grind (arith, nat_tests, y)) refl m
    go false y Leader z = idle_steady d s c

pub append_steady : (ring : Layout) (me : ℕ) (sent : Append) (d : Durable) (s : Soft) → Ordered d → Counted d s
    → Chain sent.prev.term sent.prev.position sent.entries → list_all (λ (e : Entry). nat_le e.opid.term sent.term) sent.entries ≡ true
    → Steady d (on_append ring me d s sent)
unfolding on_append
append_steady ring me sent d s x c chain low = go (outgrows d sent) (nat_lt sent.term d.term) refl (leads_it d s sent) (tear_in d s sent) refl
  where
    go : (a b : Bool) → nat_lt sent.term d.term ≡ b → (p : Bool) (t : Option Tear) → tear_in d s sent ≡ t
        → Steady d (if a then idle s else (if b then stepped [] (reply me sent.leader d.term false 0 ∷ []) [] s else (if p then idle s else elim t [ Some t ↦ idle s | None ↦ follow_append ring me d s sent ])))
    go true b y p t z = idle_steady d s c
    go false true y p t z = quiet_steady d s s _ [] c refl refl refl
    go false false y true t z = idle_steady d s c
    go false false y false (Some t) z = idle_steady d s c
    go false false y false None z = follow_steady ring me d s sent x c y (record { chain = chain; low = low; whole = z })
