-- What a member cuts and adds follows the book of the leader's term, for the message's entries are a stretch of that book.
use Rattle.std.proofs.Common.{◌≡◌, ℕ, ◌+◌, ◌<◌, ◌≤◌, [], ◌∷◌, ◌++◌, ◌∙◌, if◌then◌else◌, Bool, List, ap, arith, drop, false, inl, inr, length, refl, subst, suc, sym, take, true}
use Rattle.std.proofs.lemmas.Bool.{cases_lt}
use Rattle.std.proofs.lemmas.List.{length-take-le, take_all}
use Rattle.std.proofs.lemmas.Bool.Decides.{nat_tests}
use Rattle.std.specs.Prelude.{nat_lt}
use Rattle.ring_types.specs.declared.entries.Entry.{Entry}
use Rattle.ring_types.specs.Rings.{Layout, runs_engine}
use Rattle.ring_types.specs.declared.entries.Opid.{Opid}
use Rattle.ring_types.specs.Logs.{term_at}
use Rattle.ring_model.specs.declared.effects.Action.{Action}
use Rattle.ring_model.specs.Safety.{Agree}
use Rattle.ring_model.specs.declared.nodes.Durable.{Durable}
use Rattle.ring_model.specs.Replication.{kept_position, roll_back, take_in, unmatched}
use Rattle.ring_model.specs.Actions.{all_done, done}
use Rattle.ring_model.specs.declared.effects.Action.TheVariants as action
use Rattle.ring_model.proofs.Invariant.{History, IsBookedLog, IsHistory, IsNode, IsSealed, IsStretch}
use Rattle.ring_model.proofs.Growth.{agree_sym, agree_term, agree_trans}
use Rattle.ring_model.proofs.Following.{IsFollowed, Merge, agree_more, agree_take, log_take, merged_is}
use Rattle.ring_model.proofs.Moves.{Cuts, Extends, MayFollow, SameLog}
use Rattle.ring_model.proofs.Paths.{Ends, Goes_on, Path, elected}
use Rattle.ring_model.proofs.HeldElections.{done_join, path_join, quiet_join}
use Rattle.ring_model.proofs.Matching.{commit_old, holds_old, merged, not_mine}
use Rattle.ring_model.proofs.Advance.{QuietPath, engine_action, no_actions}

-- ---- what the follower's log becomes
pub record TakenIn (ring : Layout) (id : ℕ) (h : History) (e : Durable) (steps : List Action) (m c : ℕ) : Type 0 where
  pub path : Path ring id h e steps h
  pub quiet : elected ring id h h e steps path ≡ []
  pub term : (all_done e steps).term ≡ e.term
  pub applied : (all_done e steps).applied ≡ e.applied
  pub agrees : Agree m (all_done e steps).log (h.book e.term)
  pub sealed : IsSealed ring h e.term c (all_done e steps).log

roll_path : (ring : Layout) (me id p : ℕ) (h : History) (d : Durable) → QuietPath ring id h d (roll_back ring me p)
roll_path ring me id p h d = go (runs_engine ring me)
  where
    go : (b : Bool) → QuietPath ring id h d (if b then action.RollBackAfter p ∷ [] else [])
    go true = engine_action ring id h d (action.RollBackAfter p) (record { term = refl; votes = refl; log = refl; applied = refl })
    go false = no_actions ring id h d

follow_at : (ring : Layout) (h : History) (id : ℕ) (d e : Durable) (l : List Entry) → SameLog d e → MayFollow ring h id d l → MayFollow ring h id e l
follow_at ring h id d e l s x = record {
  leader = x.leader;
  led = x.led;
  of_term = x.of_term ∙ sym s.term;
  not_mine = x.not_mine;
  follows = subst (λ (t : ℕ). IsFollowed e.log l (h.book t)) (sym s.term) (subst (λ (w : List Entry). IsFollowed w l (h.book d.term)) (sym s.log) x.follows);
  log = subst (λ (t : ℕ). IsBookedLog ring h t l) (sym s.term) x.log;
}

module _ (ring : Layout) (h : History) (id : ℕ) (e : Durable) (k : IsHistory ring h) (n : IsNode ring h id e)
    (leader : ℕ) (prev : Opid) (mc : ℕ) (es : List Entry) (s : IsStretch ring h e.term leader prev mc (length es))
    (win : take (length es) (drop prev.position (h.book e.term)) ≡ es)
    (foreign : leader ≡ id → ⊥) (a : Agree prev.position e.log (h.book e.term)) (c : ℕ) (sealed : IsSealed ring h e.term c e.log) where
  -- the log with what it did not keep: everything up to a conflict stays
  final_follows : (kept : ℕ) (rest : List Entry) → kept ≤ length e.log
      → (0 < length rest → kept < length e.log → term_at e.log (suc kept) ≡ term_at (h.book e.term) (suc kept) → ⊥) → 0 < length rest
      → IsFollowed e.log (take kept e.log ++ rest) (h.book e.term)
  final_follows kept rest le conflict some j in_j = elim (cases_lt kept j) [
    | inl lt ↦ inr (λ x. conflict some (omega arith) (agree_term (suc kept) j e.log (h.book e.term) (omega arith) x))
    | inr ge ↦ inl (agree_trans j e.log (take kept e.log) (take kept e.log ++ rest) (agree_take j kept e.log ge le) (agree_more j (take kept e.log) rest (omega (arith, length-take-le kept e.log le))))
  ]

  pub taken_in : (rest : List Entry) → rest ≡ unmatched e.log prev.position es
      → TakenIn ring id h e (take_in ring id e (kept_position prev es rest) rest) (prev.position + length es) c
  taken_in [] is = record {
    path = Ends;
    quiet = refl;
    term = refl;
    applied = refl;
    agrees = holds_old ring h id e k n leader prev mc es s win foreign a (sym (ap length is));
    sealed = sealed;
  }
  taken_in (x ∷ rest) is = go (nat_lt (kept_position prev es (x ∷ rest)) (length e.log)) refl
    where
      m : Merge e.log (h.book e.term) prev.position es (x ∷ rest)
      m = subst (λ (w : List Entry). Merge e.log (h.book e.term) prev.position es w) (sym is) (merged ring h id e k n leader prev mc es s win foreign a)

      kept_is : kept_position prev es (x ∷ rest) ≡ m.kept
      kept_is = omega (arith, m.count, m.low)

      w_is : take m.kept e.log ++ (x ∷ rest) ≡ take (prev.position + length es) (h.book e.term)
      w_is = merged_is e.log (h.book e.term) es (x ∷ rest) prev.position m s.fits

      new_log : IsBookedLog ring h e.term (take m.kept e.log ++ (x ∷ rest))
      new_log = subst (IsBookedLog ring h e.term) (sym w_is) (log_take ring h e.term (prev.position + length es) (h.book e.term) s.fits
          (subst (λ (t : ℕ). IsBookedLog ring h t (h.book t)) s.of_term (k.elections s.election s.led).book))

      new_agrees : Agree (prev.position + length es) (take m.kept e.log ++ (x ∷ rest)) (h.book e.term)
      new_agrees = subst (λ (l : List Entry). Agree (prev.position + length es) l (h.book e.term)) (sym w_is)
          (agree_sym (prev.position + length es) (h.book e.term) (take (prev.position + length es) (h.book e.term)) (agree_take (prev.position + length es) (prev.position + length es) (h.book e.term) (omega arith) s.fits))

      new_follows : IsFollowed e.log (take m.kept e.log ++ (x ∷ rest)) (h.book e.term)
      new_follows = final_follows m.kept (x ∷ rest) m.agree.left m.conflict (omega arith)

      new_sealed : IsSealed ring h e.term c (take m.kept e.log ++ (x ∷ rest))
      new_sealed = commit_old ring h id e k n leader prev mc es s win foreign a c (take m.kept e.log ++ (x ∷ rest)) sealed new_follows new_log

      may_cut : MayFollow ring h id e (take m.kept e.log)
      may_cut = record {
        leader = s.election;
        led = s.led;
        of_term = s.of_term;
        not_mine = not_mine ring h id e k n leader prev mc es s win foreign;
        follows = λ j in_j. elim (cases_lt m.kept j) [
          | inl lt ↦ inr (λ y. m.conflict (omega arith) (omega arith) (agree_term (suc m.kept) j e.log (h.book e.term) (omega arith) y))
          | inr ge ↦ inl (agree_take j m.kept e.log ge m.agree.left)
        ];
        log = log_take ring h e.term m.kept e.log m.agree.left n.log;
      }

      may_add : MayFollow ring h id (record e { log = take m.kept e.log }) (take m.kept e.log ++ (x ∷ rest))
      may_add = record {
        leader = s.election;
        led = s.led;
        of_term = s.of_term;
        not_mine = not_mine ring h id e k n leader prev mc es s win foreign;
        follows = λ j in_j. inl (agree_more j (take m.kept e.log) (x ∷ rest) in_j);
        log = new_log;
      }

      cut : TakenIn ring id h e (action.Truncate m.kept ∷ (roll_back ring id m.kept ++ (action.Append (x ∷ rest) ∷ []))) (prev.position + length es) c
      cut =
          let f : Durable = done e (action.Truncate m.kept) in
          let r = roll_path ring id id m.kept h f in
          let b : Durable = all_done f (roll_back ring id m.kept) in
          let j = done_join f (roll_back ring id m.kept) (action.Append (x ∷ rest) ∷ []) in
          let l_is : b.log ≡ take m.kept e.log = r.same.log in
          let to : MayFollow ring h id b (b.log ++ (x ∷ rest)) =
          subst (λ (l : List Entry). MayFollow ring h id b (l ++ (x ∷ rest))) (sym l_is)
          (follow_at ring h id f b (take m.kept e.log ++ (x ∷ rest)) r.same may_add) in
          let log_is : (all_done e (action.Truncate m.kept ∷ (roll_back ring id m.kept ++ (action.Append (x ∷ rest) ∷ [])))).log ≡ take m.kept e.log ++ (x ∷ rest) =
          ap (λ (w : Durable). w.log) j ∙ ap (λ (l : List Entry). l ++ (x ∷ rest)) l_is in
          record {
            path = Goes_on (Cuts m.kept refl may_cut refl)
                (path_join ring id h h h f (roll_back ring id m.kept) (action.Append (x ∷ rest) ∷ []) r.path (Goes_on (Extends (x ∷ rest) refl to refl) Ends));
            quiet = quiet_join ring id h h h f (roll_back ring id m.kept) (action.Append (x ∷ rest) ∷ []) r.path
                (Goes_on (Extends (x ∷ rest) refl to refl) Ends) r.quiet refl;
            term = ap (λ (w : Durable). w.term) j ∙ r.same.term;
            applied = ap (λ (w : Durable). w.applied) j ∙ r.same.applied;
            agrees = subst (λ (l : List Entry). Agree (prev.position + length es) l (h.book e.term)) (sym log_is) new_agrees;
            sealed = subst (λ (l : List Entry). IsSealed ring h e.term c l) (sym log_is) new_sealed;
          }

      go : (b : Bool) → nat_lt (kept_position prev es (x ∷ rest)) (length e.log) ≡ b
          → TakenIn ring id h e (take_in ring id e (kept_position prev es (x ∷ rest)) (x ∷ rest)) (prev.position + length es) c
      go true y = rw y (rw kept_is cut)
      go false y =
          let all : take m.kept e.log ≡ e.log =
          (let z : length e.log ≤ kept_position prev es (x ∷ rest) = grind (arith, nat_tests, y) in take_all m.kept e.log (omega (arith, kept_is, z))) in
          rw y (record {
            path = Goes_on (Extends (x ∷ rest) refl (record {
              leader = s.election;
              led = s.led;
              of_term = s.of_term;
              not_mine = not_mine ring h id e k n leader prev mc es s win foreign;
              follows = λ j in_j. inl (agree_more j e.log (x ∷ rest) in_j);
              log = subst (λ (l : List Entry). IsBookedLog ring h e.term (l ++ (x ∷ rest))) all new_log;
            }) refl) Ends;
            quiet = refl {a = []};
            term = refl;
            applied = refl;
            agrees = subst (λ (l : List Entry). Agree (prev.position + length es) (l ++ (x ∷ rest)) (h.book e.term)) all new_agrees;
            sealed = subst (λ (l : List Entry). IsSealed ring h e.term c (l ++ (x ∷ rest))) all new_sealed;
          })

-- what is taken in depends on the log alone
pub take_in_same : (ring : Layout) (me kept : ℕ) (d e : Durable) (rest : List Entry) → e.log ≡ d.log → take_in ring me e kept rest ≡ take_in ring me d kept rest
take_in_same ring me kept d e [] is = refl
take_in_same ring me kept d e (x ∷ rest) is =
    ap (λ (l : List Entry). if nat_lt kept (length l) then action.Truncate kept ∷ (roll_back ring me kept ++ (action.Append (x ∷ rest) ∷ [])) else action.Append (x ∷ rest) ∷ []) is
