-- A voter that answers a request: a new vote reports all votes of terms in between, and a vote kept for the term was asked for just as this request asks.
use Rattle.std.proofs.Common.{length, ◌≡◌, ℕ, ◌<◌, ◌≤◌, ◌==◌, ◌⊎◌, [], ◌∷◌, ◌++◌, ◌∙◌, if◌then◌else◌, Bool, List, None, Option, Some, ap, arith, false, inl, inr, refl, subst, suc, sym, true, zero}
use Rattle.std.proofs.lemmas.List.Elements.{Contains-push}
use Rattle.std.proofs.lemmas.Bool.Decides.{nat_tests}
use Rattle.std.specs.List.{Contains}
use Rattle.std.specs.Prelude.{nat_lt}
use Rattle.ring_types.specs.declared.entries.Entry.{Entry}
use Rattle.ring_types.specs.Rings.{Layout, region_of, votes}
use Rattle.ring_types.specs.declared.entries.Opid.{Opid}
use Rattle.ring_types.specs.declared.entries.Vote.{Vote}
use Rattle.ring_types.specs.Logs.{at_least, last, term_at}
use Rattle.ring_model.specs.declared.effects.Action.{Action}
use Rattle.ring_model.specs.declared.nodes.Role.TheVariants.{Candidate, Follower, Leader}
use Rattle.ring_model.specs.declared.nodes.Durable.{Durable}
use Rattle.ring_model.specs.declared.messages.Message.{Message}
use Rattle.ring_model.specs.declared.messages.RequestVote.{RequestVote}
use Rattle.ring_model.specs.declared.nodes.Role.{Role}
use Rattle.ring_model.specs.declared.effects.Say.{Say}
use Rattle.ring_model.specs.declared.nodes.Soft.{Soft}
use Rattle.ring_model.specs.Actions.{all_done, done, has_room, vote_in}
use Rattle.ring_model.specs.Elections.{answer_by, answer_request, cast_actions, floor_of, grant_vote, granted_now, new_vote, on_request, refuse_vote, refused_now, voter_answers}
use Rattle.ring_model.specs.Steps.{demoted, idle, stepped, unknowns}
use Rattle.ring_model.specs.Nodes.{is_leader}
use Rattle.ring_model.specs.Needs.{votes_between}
use Rattle.ring_model.specs.declared.effects.Action.TheVariants as action
use Rattle.ring_model.specs.declared.messages.Body.TheVariants as body
use Rattle.ring_model.proofs.Lists.{cons_cases}
use Rattle.ring_model.proofs.Invariant.{Cast, HasRole, History, IsGrant, IsHistory, IsNode, IsRunning, IsSealed, IsSent}
use Rattle.ring_model.proofs.Growth.{Grows, grow_grant, grow_sealed, leader_stays}
use Rattle.ring_model.proofs.Casting.{IsUpToDate, Later, Longer, MayVote, raise_keeps, with_cast}
use Rattle.ring_model.proofs.Sending.{with_message}
use Rattle.ring_model.proofs.Moves.{Raises, Votes}
use Rattle.ring_model.proofs.Paths.{Ends, Goes_on, Path, elected, path_keeps}
use Rattle.ring_model.proofs.HeldElections.{IsBefore, before_quiet, done_join, path_join, quiet_join}
use Rattle.ring_model.proofs.Winning.{kept_vote, reports_all}
use Rattle.ring_model.proofs.Turns.{Holding, IsRow, Leads_not, Led_before, Sends, Sends_on, Sent_all}
use Rattle.ring_model.proofs.Advance.{leader_at, seal_raise}
use Rattle.ring_model.proofs.Plain.{idle_row, role_sent, sealed_sent, stays_holding}

kept_in_term : (votes : List Vote) (t : ℕ) (w : Vote) → vote_in votes t ≡ Some w → Contains votes w × (w.term ≡ t)
kept_in_term [] t w is = absurd cc
kept_in_term (x ∷ votes) t w is = go (x.term == t) refl is (kept_in_term votes t w)
  where
    go : (b : Bool) → (x.term == t) ≡ b → vote_in (x ∷ votes) t ≡ Some w → (vote_in votes t ≡ Some w → Contains votes w × (w.term ≡ t))
        → Contains (x ∷ votes) w × (w.term ≡ t)
    go true e is ih =
        let u = rw e at is in let same : x ≡ w = cc in ((zero, omega arith, same), ap (λ (v : Vote). v.term) (sym same) ∙ grind (arith, nat_tests, e))
    go false e is ih = let u = rw e at is in let y = ih u in ((suc y.0.0, omega (arith, y.0.1), y.0.2), y.1)

none_in_term : (votes : List Vote) (t : ℕ) (w : Vote) → vote_in votes t ≡ None → Contains votes w → w.term ≡ t → ⊥
none_in_term [] t w is c e = omega (arith, c.1)
none_in_term (x ∷ votes) t w is c e = go (x.term == t) refl is (none_in_term votes t w) (cons_cases x votes w c)
  where
    go : (b : Bool) → (x.term == t) ≡ b → vote_in (x ∷ votes) t ≡ None → (vote_in votes t ≡ None → Contains votes w → w.term ≡ t → ⊥)
        → (x ≡ w) ⊎ Contains votes w → ⊥
    go true y is ih d = let u = rw y at is in absurd cc
    go false y is ih (inl here) = let q = ap (λ (v : Vote). v.term) here in grind (arith, nat_tests, y, q, e)
    go false y is ih (inr there) = let u = rw y at is in ih u there e

abbrev vote_of : ℕ → ℕ → ℕ → Vote
vote_of t x r = record { term = t; candidate = x; region = r }

vote_is : (ring : Layout) (v : Vote) (t x : ℕ) → v.term ≡ t → v.candidate ≡ x → v.region ≡ region_of ring v.candidate → v ≡ new_vote ring t x
vote_is ring v t x a b c =
    ap (λ (w : ℕ). vote_of w v.candidate v.region) a ∙ (ap (λ (w : ℕ). vote_of t w v.region) b ∙ ap (λ (w : ℕ). vote_of t x w) (c ∙ ap (region_of ring) b))

at_least_is : (q : Opid) (l : List Entry) → at_least q (last l) ≡ true → IsUpToDate q l
at_least_is q l is = go (nat_lt (last l).term q.term) refl (q.term == (last l).term) refl
  where
    go : (a : Bool) → nat_lt (last l).term q.term ≡ a → (b : Bool) → (q.term == (last l).term) ≡ b → IsUpToDate q l
    go true x b y = Later (grind (arith, nat_tests, x))
    go false x true y = Longer (grind (arith, nat_tests, y)) (let u = rw (x, y) at is in grind (arith, nat_tests, u))
    go false x false y = absurd (let u = rw (x, y) at is in let z : false ≡ true = u in cc)

refused_sent : (ring : Layout) (h : History) (id to t : ℕ) (d : Durable) → Sends ring id d h (refuse_vote id to t ∷ []) (with_message h (refuse_vote id to t))
refused_sent ring h id to t d =
    Sends_on {m = refuse_vote id to t} (λ bad. absurd (let z : false ≡ true = bad in cc)) (record { from = refl; answers = λ u v bad. absurd cc }) Sent_all

-- the node's role stays through a vote that it casts
role_cast : (ring : Layout) (h : History) (c : Cast) (floor id : ℕ) (d : Durable) (s : Soft) (r : Role) → Grows id h (with_cast h c) → HasRole h id d s r
    → HasRole (with_cast h c) id (done d (action.Vote c.vote floor)) s r
role_cast ring h c floor id d s Follower g x = tt
role_cast ring h c floor id d s Candidate g x = record {
  self = let y = x.self in (y.0, g.casts y.0 y.1, y.2, y.3, y.4, y.5);
  below = x.below;
  not_led = x.not_led;
  grants = λ w in_w. grow_grant ring id h (with_cast h c) g id d.term (last d.log) w (x.grants w in_w);
}
role_cast ring h c floor id d s Leader g x =
    leader_at (with_cast h c) id d (done d (action.Vote c.vote floor)) s s refl (omega arith) refl (leader_stays ring id h (with_cast h c) g id d s x)

module _ (ring : Layout) (h : History) (id from : ℕ) (asked : RequestVote) (d : Durable) (o s : Soft) (first : List Action) (says : List Say)
    (k : IsHistory ring h) (sent : IsSent ring h from id (body.RequestVote asked))
    (p : Path ring id h d first h) (before : IsBefore ring id h h d first p) (standing : (is_leader o.role ≡ true) ⊎ (is_leader s.role ≡ false))
    (n : IsNode ring h id (all_done d first)) (is_t : (all_done d first).term ≡ asked.term)
    (same_log : (all_done d first).log ≡ d.log) (same_votes : (all_done d first).votes ≡ d.votes)
    (role : HasRole h id (all_done d first) s s.role) (sealed : IsSealed ring h (all_done d first).term s.commit (all_done d first).log)
    (applied : (all_done d first).applied ≤ s.commit) (low : s.commit ≤ length h.chosen) where
  quiet_standing : (m : History) (steps : List Action) (path : Path ring id h d steps m) → elected ring id h m d steps path ≡ []
      → Holding ring id h m d o s steps path
  quiet_standing m steps path none = elim standing [ inl led ↦ Led_before led none | inr not_led ↦ Leads_not not_led none ]

  refused_row : IsRow ring h id d o (refused_now id s first says from asked.term)
  refused_row = record {
    acted = h;
    path = p;
    sent = with_message h (refuse_vote id from asked.term);
    sends = refused_sent ring h id from asked.term (all_done d first);
    role = role_sent ring h (refuse_vote id from asked.term) id (all_done d first) s s.role role;
    sealed = sealed_sent ring h (refuse_vote id from asked.term) (all_done d first).term s.commit (all_done d first).log sealed;
    applied = applied;
    reaches = inl low;
    holding = quiet_standing h first p (before_quiet ring id h h d first p before);
  }

  kept_row : (w : Vote) → Contains (all_done d first).votes w → w.term ≡ asked.term → w.candidate ≡ from
      → IsRow ring h id d o (granted_now id d s first says from asked)
  kept_row w in_w w_t w_from =
      let e : Durable = all_done d first in
      let c = kept_vote ring h id e k n w from asked.last in_w (w_t ∙ sym is_t) w_from sent.0 sent.1 sent.2 sent.3 (sent.4 ∙ sym is_t) sent.5 in
      let g : IsGrant h from asked.term asked.last (record { voter = id; votes = votes_between asked.last.term asked.term e.votes }) =
      subst (λ (u : ℕ). IsGrant h from u asked.last (record { voter = id; votes = votes_between asked.last.term u e.votes })) is_t
      (reports_all ring h id e k n c.0 from asked.last c.1 c.2 c.3 c.4 c.5) in
      record {
        acted = h;
        path = p;
        sent = with_message h (grant_vote id from asked e);
        sends = Sends_on {m = grant_vote id from asked e} (λ ok. (asked.last, g)) (record { from = refl; answers = λ u v bad. absurd cc }) Sent_all;
        role = role_sent ring h (grant_vote id from asked e) id e s s.role role;
        sealed = sealed_sent ring h (grant_vote id from asked e) e.term s.commit e.log sealed;
        applied = applied;
        reaches = inl low;
        holding = quiet_standing h first p (before_quiet ring id h h d first p before);
      }

  cast_row : ((w : Vote) → Contains (all_done d first).votes w → w.term ≡ asked.term → ⊥) → IsUpToDate asked.last (all_done d first).log
      → floor_of d s ≡ term_at (all_done d first).log s.commit
      → IsRow ring h id d o (granted_now id d s (cast_actions ring d s first from asked.term) says from asked)
  cast_row none up floor =
      let e : Durable = all_done d first in
      let c : Cast = record { voter = id; vote = new_vote ring asked.term from; asked = asked.last } in
      let may : MayVote ring h id e c (floor_of d s) = record {
        by = refl;
        of_term = sym is_t;
        first = λ w in_w is. none w in_w (is ∙ is_t);
        of_region = refl;
        self = inr (sent.0, sent.1, sent.2, vote_is ring sent.0.vote asked.term from sent.4 sent.3 (k.casts sent.0 sent.1).of_region, sent.5);
        asked = up;
        floor_at = s.commit;
        floor_sealed = sealed;
        floor_below = omega (arith, floor);
      } in
      let vote : Action = action.Vote (new_vote ring asked.term from) (floor_of d s) in
      let m : History = with_cast h c in
      let step : Path ring id h e (vote ∷ []) m = Goes_on (Votes c (floor_of d s) refl may refl) Ends in
      let a = path_keeps ring id h m e (vote ∷ []) k n step in
      let f : Durable = done e vote in
      let j = done_join d first (vote ∷ []) in
      let g : IsGrant m from asked.term asked.last (record { voter = id; votes = votes_between asked.last.term asked.term f.votes }) =
      subst (λ (u : ℕ). IsGrant m from u asked.last (record { voter = id; votes = votes_between asked.last.term u f.votes })) is_t
      (reports_all ring m id f a.history a.node c from asked.last (Contains-push h.casts c) refl (sym is_t) refl refl) in
      let answer : Message = grant_vote id from asked f in
      let sends : Sends ring id f m (answer ∷ []) (with_message m answer) =
      Sends_on {m = answer} (λ ok. (asked.last, g)) (record { from = refl; answers = λ u v bad. absurd cc }) Sent_all in
      let row : IsRow ring h id d o (stepped (first ++ (vote ∷ [])) (answer ∷ []) says s) = record {
        acted = m;
        path = path_join ring id h h m d first (vote ∷ []) p (Goes_on (Votes c (floor_of d s) refl may refl) Ends);
        sent = with_message m answer;
        sends = subst (λ (w : Durable). Sends ring id w m (answer ∷ []) (with_message m answer)) (sym j) sends;
        role = subst (λ (w : Durable). HasRole (with_message m answer) id w s s.role) (sym j)
            (role_sent ring m answer id f s s.role (role_cast ring h c (floor_of d s) id e s s.role a.grows role));
        sealed = subst (λ (w : Durable). IsSealed ring (with_message m answer) w.term s.commit w.log) (sym j)
            (sealed_sent ring m answer e.term s.commit e.log (grow_sealed ring id h m a.grows e.term e.term s.commit e.log (omega arith) sealed));
        applied = subst (λ (w : Durable). w.applied ≤ s.commit) (sym j) applied;
        reaches = inl low;
        holding = quiet_standing m (first ++ (vote ∷ [])) (path_join ring id h h m d first (vote ∷ []) p (Goes_on (Votes c (floor_of d s) refl may refl) Ends))
            (quiet_join ring id h h m d first (vote ∷ []) p (Goes_on (Votes c (floor_of d s) refl may refl) Ends) (before_quiet ring id h h d first p before) refl);
      } in
      subst (λ (w : Durable). IsRow ring h id d o (stepped (first ++ (vote ∷ [])) (grant_vote id from asked w ∷ []) says s)) (sym j) row

  pub answer_row : IsRow ring h id d o (answer_request ring id d s first says from asked)
  answer_row = go (vote_in d.votes asked.term) refl
    where
      kept : (w : Vote) → Contains (all_done d first).votes w × (w.term ≡ asked.term) → (b : Bool) → (w.candidate == from) ≡ b
          → IsRow ring h id d o (if b then granted_now id d s first says from asked else refused_now id s first says from asked.term)
      kept w x true y = kept_row w x.0 x.1 (grind (arith, nat_tests, y))
      kept w x false y = refused_row

      fresh : vote_in d.votes asked.term ≡ None → (a : Bool) → at_least asked.last (last d.log) ≡ a → (b : Bool)
          → IsRow ring h id d o (if a then (if b then granted_now id d s (cast_actions ring d s first from asked.term) says from asked else refused_now id s first says from asked.term) else refused_now id s first says from asked.term)
      fresh is true x true = cast_row (λ w in_w w_t. none_in_term d.votes asked.term w is (subst (λ (v : List Vote). Contains v w) same_votes in_w) w_t)
          (subst (IsUpToDate asked.last) (sym same_log) (at_least_is asked.last d.log x)) (ap (λ (l : List Entry). term_at l s.commit) (sym same_log))
      fresh is true x false = refused_row
      fresh is false x b = refused_row

      go : (v : Option Vote) → vote_in d.votes asked.term ≡ v → IsRow ring h id d o (answer_by ring id d s first says from asked v)
      go (Some w) is =
          let x = kept_in_term d.votes asked.term w is in kept w (subst (λ (v : List Vote). Contains v w) (sym same_votes) x.0, x.1) (w.candidate == from) refl
      go None is = fresh is (at_least asked.last (last d.log)) refl (has_room (floor_of d s) d.votes)

pub request_row : (ring : Layout) (h : History) (id from : ℕ) (asked : RequestVote) (d : Durable) (s : Soft) → IsHistory ring h → IsNode ring h id d
    → IsRunning ring h id d s → IsSent ring h from id (body.RequestVote asked)
    → IsRow ring h id d s (on_request ring id d s from asked)
unfolding on_request
request_row ring h id from asked d s k n r sent = voter (votes ring id)
  where
    as_it_is : (is_leader s.role ≡ true) ⊎ (is_leader s.role ≡ false)
    as_it_is = pick (is_leader s.role) refl
      where
        pick : (b : Bool) → is_leader s.role ≡ b → (is_leader s.role ≡ true) ⊎ (is_leader s.role ≡ false)
        pick true is = inl is
        pick false is = inr is

    go : (a : Bool) → nat_lt asked.term d.term ≡ a → (b : Bool) → nat_lt d.term asked.term ≡ b
        → IsRow ring h id d s (if a then refused_now id s [] [] from d.term
        else (if b then answer_request ring id d (demoted s) (action.SetTerm asked.term ∷ []) (unknowns s) from asked else answer_request ring id d s [] [] from asked))
    go true x b y = record {
      acted = h;
      path = Ends;
      sent = with_message h (refuse_vote id from d.term);
      sends = refused_sent ring h id from d.term d;
      role = role_sent ring h (refuse_vote id from d.term) id d s s.role r.role;
      sealed = sealed_sent ring h (refuse_vote id from d.term) d.term s.commit d.log r.sealed;
      applied = r.applied;
      reaches = inl r.chosen;
      holding = stays_holding ring id h d s s refl;
    }
    go false x true y =
        let up : d.term < asked.term = grind (arith, nat_tests, y) in
        answer_row ring h id from asked d s (demoted s) (action.SetTerm asked.term ∷ []) (unknowns s) k sent
        (Goes_on (Raises asked.term refl up (omega (arith, r.applied, r.chosen)) refl) Ends) tt (inr refl)
        (raise_keeps ring h id asked.term d up n) refl refl refl tt
        (seal_raise ring h d.term asked.term s.commit d.log (omega arith) r.sealed) r.applied r.chosen
    go false x false y =
        let is : d.term ≡ asked.term = grind (arith, nat_tests, x, y) in
        answer_row ring h id from asked d s s [] [] k sent Ends tt as_it_is n is refl refl r.role r.sealed r.applied r.chosen

    voter : (b : Bool) → IsRow ring h id d s (if b then voter_answers ring id d s from asked else idle s)
    voter true = go (nat_lt asked.term d.term) refl (nat_lt d.term asked.term) refl
    voter false = idle_row ring h id d s r
