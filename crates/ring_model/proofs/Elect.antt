-- Standing for election: a new term, the node's vote for itself, its requests, and, where its grants win, its first entry as leader; the same for a candidate with one more grant.
use Rattle.std.proofs.Common.{◌≡◌, ℕ, ◌≤◌, ◌==◌, ◌&&◌, [], ◌∷◌, ◌++◌, ◌∙◌, if◌then◌else◌, Bool, List, ap, arith, false, inl, inr, length, length-append, not, refl, subst, suc, sym, true}
use Rattle.std.proofs.lemmas.List.Elements.{Contains-push}
use Rattle.std.proofs.lemmas.Bool.Decides.{nat_tests}
use Rattle.std.specs.List.{Contains}
use Rattle.ring_types.specs.declared.entries.Entry.{Entry}
use Rattle.ring_types.specs.declared.entries.Grant.{Grant}
use Rattle.ring_types.specs.Rings.{Layout, is_voter, votes}
use Rattle.ring_types.specs.declared.members.Member.{Member}
use Rattle.ring_types.specs.declared.entries.Opid.{Opid}
use Rattle.ring_types.specs.declared.entries.Vote.{Vote}
use Rattle.ring_types.specs.Logs.{last}
use Rattle.ring_model.specs.declared.effects.Action.{Action}
use Rattle.ring_model.specs.declared.nodes.Role.TheVariants.{Candidate}
use Rattle.ring_model.specs.declared.nodes.Durable.{Durable}
use Rattle.ring_model.specs.Runs.{Election}
use Rattle.ring_model.specs.declared.messages.Message.{Message}
use Rattle.ring_model.specs.declared.nodes.Peer.{Peer}
use Rattle.ring_model.specs.declared.effects.Say.{Say}
use Rattle.ring_model.specs.declared.nodes.Soft.{Soft}
use Rattle.ring_model.specs.Actions.{all_done, done}
use Rattle.ring_model.specs.Steps.{demoted, idle, message, own_entry, stepped, unknowns}
use Rattle.ring_model.specs.Elections.{elect, first_peers, floor_of, has_won, lead, lead_or_ask, leading, may_elect, new_vote, own_grant, requests, stand, stand_actions}
use Rattle.ring_model.specs.Nodes.{is_leader}
use Rattle.ring_model.specs.Transfers.{on_timeout}
use Rattle.ring_model.specs.declared.effects.Action.TheVariants as action
use Rattle.ring_model.specs.declared.messages.Body.TheVariants as body
use Rattle.ring_types.specs.declared.entries.Payload.TheVariants as payload
use Rattle.ring_model.proofs.Lists.{cons_cases}
use Rattle.ring_model.proofs.Invariant.{Cast, History, IsCandidate, IsGrant, IsHistory, IsLeader, IsNode, IsRunning, IsSealed, Nothing_yet, Sealed_at}
use Rattle.ring_model.proofs.Growth.{Grows, agree_sym, agree_trans, grow_sealed}
use Rattle.ring_model.proofs.Casting.{Longer, MayVote, with_cast}
use Rattle.ring_model.proofs.Following.{agree_more}
use Rattle.ring_model.proofs.Leading.{with_election}
use Rattle.ring_model.proofs.Sending.{with_message}
use Rattle.ring_model.proofs.Moves.{Leads, Raises, Votes}
use Rattle.ring_model.proofs.Paths.{Ends, Goes_on, Path, path_keeps}
use Rattle.ring_model.proofs.HeldElections.{IsBefore, before_join, before_quiet, done_join, path_join}
use Rattle.ring_model.proofs.Winning.{candidate_leads, reports_all}
use Rattle.ring_model.proofs.Turns.{IsRow, Leads_not, Sends, Sends_on, Sent_all}
use Rattle.ring_model.proofs.Advance.{Led_new, advance_row, seal_raise}
use Rattle.ring_model.proofs.Plain.{candidate_sent, idle_row, sealed_sent}

first_matched : (id n : ℕ) (members : List Member) (x : Peer) → Contains (first_peers id n members) x → x.matched ≡ 0
first_matched id n [] x c = absurd (omega (arith, c.1))
first_matched id n (m ∷ members) x c = go (m.id == id) refl c (first_matched id n members x)
  where
    go : (b : Bool) → (m.id == id) ≡ b → Contains (first_peers id n (m ∷ members)) x → (Contains (first_peers id n members) x → x.matched ≡ 0) → x.matched ≡ 0
    go true is c ih = let d = rw is at c in ih d
    go false is c ih =
        let d = rw is at c in
        elim (cons_cases (let w : Peer = record { node = m.id; matched = 0; next = n; silent = 0 } in w) (first_peers id n members) x d) [ inl here ↦ ap (λ (w : Peer). w.matched) (sym here) | inr there ↦ ih there ]

first_next : (id n : ℕ) (members : List Member) (x : Peer) → Contains (first_peers id n members) x → x.next ≡ n
first_next id n [] x c = absurd (omega (arith, c.1))
first_next id n (m ∷ members) x c = go (m.id == id) refl c (first_next id n members x)
  where
    go : (b : Bool) → (m.id == id) ≡ b → Contains (first_peers id n (m ∷ members)) x → (Contains (first_peers id n members) x → x.next ≡ n) → x.next ≡ n
    go true is c ih = let d = rw is at c in ih d
    go false is c ih =
        let d = rw is at c in
        elim (cons_cases (let w : Peer = record { node = m.id; matched = 0; next = n; silent = 0 } in w) (first_peers id n members) x d) [ inl here ↦ ap (λ (w : Peer). w.next) (sym here) | inr there ↦ ih there ]

pub seal_longer : (ring : Layout) (id : ℕ) (h g : History) (u c : ℕ) (l r : List Entry) → Grows id h g → IsSealed ring h u c l → IsSealed ring g u c (l ++ r)
seal_longer ring id h g u c l r x s = elim (grow_sealed ring id h g x u u c l (omega arith) s) [
  | Nothing_yet z ↦ Nothing_yet z
  | Sealed_at q p a b m y ↦ Sealed_at q p a b m (agree_trans c (l ++ r) l (g.book q) (agree_sym c l (l ++ r) (agree_more c l r y.left)) y)
]

-- a candidate whose grants win leads, after the actions that come first
lead_row : (ring : Layout) (h m : History) (id : ℕ) (d : Durable) (o s : Soft) (first : List Action) (says : List Say) (grants : List Grant)
    (p : Path ring id h d first m) → IsBefore ring id h m d first p → is_leader o.role ≡ false
    → IsHistory ring m → IsNode ring m id (all_done d first) → IsCandidate m id (all_done d first) grants → has_won ring id (all_done d first) grants ≡ true
    → IsSealed ring m (all_done d first).term s.commit (all_done d first).log → (all_done d first).applied ≤ s.commit
    → IsRow ring h id d o (lead ring id d s first says grants)
lead_row ring h m id d o s first says grants p before was k n x won sealed le =
    let e : Durable = all_done d first in
    let el : Election = record { term = e.term; node = id; base = e.log; grants = grants } in
    let noop = own_entry ring id e payload.NoOp in
    let led : History = with_election m el (e.log ++ noop ∷ []) in
    let may = candidate_leads ring m id e k n grants x won in
    let step : Path ring id m e (action.Append (noop ∷ []) ∷ []) led = Goes_on (Leads el noop refl may refl) Ends in
    let after = path_keeps ring id m led e (action.Append (noop ∷ []) ∷ []) k n step in
    let j = done_join d first (action.Append (noop ∷ []) ∷ []) in
    let t : Soft = leading ring id (suc (length e.log)) s grants in
    let new : IsLeader led id (done e (action.Append (noop ∷ []))) t = record {
      election = el;
      led = Contains-push m.elections el;
      by = refl;
      of_term = refl;
      matched = λ y in_y some. absurd (omega (arith, first_matched id (suc (length e.log)) ring.members y in_y));
      next = λ y in_y. (omega (arith, first_matched id (suc (length e.log)) ring.members y in_y, first_next id (suc (length e.log)) ring.members y in_y), omega (arith, first_next id (suc (length e.log)) ring.members y in_y, length-append e.log (noop ∷ [])));
    } in
    advance_row ring h led id d o t (first ++ (action.Append (noop ∷ []) ∷ [])) says
    (path_join ring id h m led d first (action.Append (noop ∷ []) ∷ []) p (Goes_on (Leads el noop refl may refl) Ends))
    after.history
    (subst (λ (w : Durable). IsNode ring led id w) (sym j) after.node)
    refl
    (subst (λ (w : Durable). IsLeader led id w t) (sym j) new)
    (subst (λ (w : Durable). IsSealed ring led w.term s.commit w.log) (sym j) (seal_longer ring id m led e.term s.commit e.log (noop ∷ []) after.grows sealed))
    (subst (λ (w : Durable). w.applied ≤ s.commit) (sym j) le)
    (Led_new was (before_join ring id h m led d first (action.Append (noop ∷ []) ∷ []) grants p (Goes_on (Leads el noop refl may refl) Ends) before (refl, refl)))

-- a candidate with these grants: it leads, or asks
pub ask_row : (ring : Layout) (h m g : History) (id : ℕ) (d : Durable) (o s : Soft) (first : List Action) (says : List Say) (grants : List Grant)
    (asks : List Message) (p : Path ring id h d first m) → IsBefore ring id h m d first p
    → is_leader o.role ≡ false → IsHistory ring m → IsNode ring m id (all_done d first) → IsCandidate m id (all_done d first) grants
    → Sends ring id (all_done d first) m asks g → IsCandidate g id (all_done d first) grants
    → IsSealed ring m (all_done d first).term s.commit (all_done d first).log → IsSealed ring g (all_done d first).term s.commit (all_done d first).log
    → (all_done d first).applied ≤ s.commit → s.commit ≤ length m.chosen → IsRow ring h id d o (lead_or_ask ring id d s first says grants asks)
unfolding lead_or_ask
ask_row ring h m g id d o s first says grants asks p before was k n x sends y sealed sealed_after le low =
    go (has_won ring id (all_done d first) grants) refl
  where
    go : (b : Bool) → has_won ring id (all_done d first) grants ≡ b
        → IsRow ring h id d o (if b then lead ring id d s first says grants else stepped first asks says (record s { role = Candidate; grants = grants }))
    go true is = lead_row ring h m id d o s first says grants p before was k n x is sealed le
    go false is = record {
      acted = m;
      path = p;
      sent = g;
      sends = sends;
      role = y;
      sealed = sealed_after;
      applied = le;
      reaches = inl low;
      holding = Leads_not refl (before_quiet ring id h m d first p before);
    }

-- ---- the requests
record Asked (ring : Layout) (h : History) (id : ℕ) (d : Durable) (grants : List Grant) (c : ℕ) (ms : List Message) : Type 0 where
  sent : History
  sends : Sends ring id d h ms sent
  candidate : IsCandidate sent id d grants
  sealed : IsSealed ring sent d.term c d.log

abbrev request_to : ℕ → ℕ → ℕ → Opid → Message
request_to id to term asked = message id to (body.RequestVote (record { term = term; last = asked }))

requests_sent : (ring : Layout) (h : History) (id t : ℕ) (q : Opid) (d : Durable) (grants : List Grant) (c : ℕ) (members : List Member) → d.term ≡ t
    → last d.log ≡ q → IsCandidate h id d grants → IsSealed ring h d.term c d.log
    → Asked ring h id d grants c (requests id t q members)
requests_sent ring h id t q d grants c [] is_t is_q x s = record { sent = h; sends = Sent_all; candidate = x; sealed = s }
requests_sent ring h id t q d grants c (m ∷ members) is_t is_q x s =
    go (m.id == id) refl (is_voter m.kind) refl (requests_sent ring h id t q d grants c members is_t is_q x s)
    (requests_sent ring (with_message h (request_to id m.id t q)) id t q d grants c members is_t is_q
    (candidate_sent h (request_to id m.id t q) id d grants x) (sealed_sent ring h (request_to id m.id t q) d.term c d.log s))
  where
    go : (a : Bool) → (m.id == id) ≡ a → (b : Bool) → is_voter m.kind ≡ b → Asked ring h id d grants c (requests id t q members)
        → Asked ring (with_message h (request_to id m.id t q)) id d grants c (requests id t q members)
        → Asked ring h id d grants c (requests id t q (m ∷ members))
    go true y b z same more = rw y same
    go false y false z same more = rw (y, z) same
    go false y true z same more = rw (y, z) (record {
      sent = more.sent;
      sends = Sends_on {m = request_to id m.id t q} (let w = x.self in (w.0, w.1, w.2, w.3, w.4 ∙ is_t, w.5 ∙ is_q))
          (record { from = refl; answers = λ u v bad. absurd cc }) more.sends;
      candidate = more.candidate;
      sealed = more.sealed;
    })

-- ---- the node stands
stand_row : (ring : Layout) (h : History) (id : ℕ) (d : Durable) (s : Soft) → is_leader s.role ≡ false → IsHistory ring h → IsNode ring h id d
    → IsRunning ring h id d s → IsRow ring h id d s (stand ring id d s)
stand_row ring h id d s was k n r =
    let t = suc d.term in
    let vote : Vote = new_vote ring t id in
    let c : Cast = record { voter = id; vote = vote; asked = last d.log } in
    let first = stand_actions ring id d s in
    let may : MayVote ring h id (done d (action.SetTerm t)) c (floor_of d s) = record {
      by = refl;
      of_term = refl;
      first = λ w in_w is. (let y = n.votes_cast w in_w in let z = n.cast_below y.0 y.1 y.2 in let q = ap (λ (v : Vote). v.term) y.3 in omega arith);
      of_region = refl;
      self = inl refl;
      asked = Longer refl (omega arith);
      floor_at = s.commit;
      floor_sealed = seal_raise ring h d.term t s.commit d.log (omega arith) r.sealed;
      floor_below = omega arith;
    } in
    let m : History = with_cast h c in
    let p : Path ring id h d first m =
    Goes_on (Raises t refl (omega arith) (omega (arith, r.applied, r.chosen)) refl) (Goes_on (Votes c (floor_of d s) refl may refl) Ends) in
    let a = path_keeps ring id h m d first k n p in
    let e : Durable = all_done d first in
    let own : Grant = own_grant id e in
    let in_c : Contains m.casts c = Contains-push h.casts c in
    let x : IsCandidate m id e (own ∷ []) = record {
      self = (c, in_c, refl, refl, refl, refl);
      below = omega (arith, n.log.below);
      not_led = λ f in_f by is. (let z = n.led_below f in_f by in omega arith);
      grants = λ g in_g. elim (cons_cases own [] g in_g) [
        | inl here ↦ subst (IsGrant m id t (last d.log)) here (reports_all ring m id e a.history a.node c id (last d.log) in_c refl refl refl refl)
        | inr there ↦ absurd (omega (arith, there.1))
      ];
    } in
    let sealed : IsSealed ring m t s.commit d.log = grow_sealed ring id h m a.grows d.term t s.commit d.log (omega arith) r.sealed in
    let z = requests_sent ring m id t (last d.log) e (own ∷ []) s.commit ring.members refl refl x sealed in
    ask_row ring h m z.sent id d s (demoted s) first (unknowns s) (own ∷ []) (requests id t (last d.log) ring.members)
    (Goes_on (Raises t refl (omega arith) (omega (arith, r.applied, r.chosen)) refl) (Goes_on (Votes c (floor_of d s) refl may refl) Ends)) tt
    was a.history a.node x z.sends z.candidate sealed z.sealed r.applied r.chosen

leader_stands_not : (ring : Layout) (id : ℕ) (d : Durable) (s : Soft) → may_elect ring id d s ≡ true → is_leader s.role ≡ false
leader_stands_not ring id d s may = grind (arith, nat_tests)

pub elect_row : (ring : Layout) (h : History) (id : ℕ) (d : Durable) (s : Soft) → IsHistory ring h → IsNode ring h id d → IsRunning ring h id d s
    → IsRow ring h id d s (elect ring id d s)
unfolding elect
elect_row ring h id d s k n r = go (may_elect ring id d s) refl
  where
    go : (b : Bool) → may_elect ring id d s ≡ b → IsRow ring h id d s (if b then stand ring id d s else idle s)
    go true is = stand_row ring h id d s (leader_stands_not ring id d s is) k n r
    go false is = idle_row ring h id d s r

-- the word to elect itself is an election
pub timeout_row : (ring : Layout) (h : History) (id : ℕ) (d : Durable) (s : Soft) (term : ℕ) → IsHistory ring h → IsNode ring h id d
    → IsRunning ring h id d s → IsRow ring h id d s (on_timeout ring id d s term)
unfolding on_timeout
timeout_row ring h id d s term k n r = go (term == d.term && votes ring id && not (is_leader s.role))
  where
    go : (b : Bool) → IsRow ring h id d s (if b then elect ring id d s else idle s)
    go true = elect_row ring h id d s k n r
    go false = idle_row ring h id d s r
