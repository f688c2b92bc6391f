-- A leader that hears an answer to an Append: what a member matched it has acknowledged, so the count of holders commits; the word to elect itself claims nothing.
use Rattle.std.proofs.Common.{◌≡◌, ℕ, ◌<◌, ◌≤◌, ◌==◌, ◌&&◌, [], ◌∷◌, ◌∙◌, if◌then◌else◌, Bool, List, ap, arith, false, inl, inr, length, refl, subst, suc, sym, true, zero}
use Rattle.std.proofs.lemmas.List.{append-nil}
use Rattle.std.proofs.lemmas.Bool.{cases_lt}
use Rattle.std.proofs.lemmas.Bool.Decides.{nat_tests}
use Rattle.std.specs.List.{Contains}
use Rattle.std.specs.Prelude.{nat_le, nat_lt}
use Rattle.ring_types.specs.Rings.{Layout}
use Rattle.ring_model.specs.declared.messages.AppendReply.{AppendReply}
use Rattle.ring_model.specs.declared.nodes.Role.TheVariants.{Candidate, Follower, Leader}
use Rattle.ring_model.specs.declared.nodes.Durable.{Durable}
use Rattle.ring_model.specs.declared.messages.Message.{Message}
use Rattle.ring_model.specs.declared.nodes.Peer.{Peer}
use Rattle.ring_model.specs.declared.nodes.Role.{Role}
use Rattle.ring_model.specs.declared.nodes.Soft.{Soft}
use Rattle.ring_model.specs.declared.effects.Step.{Step}
use Rattle.ring_model.specs.declared.nodes.Transfer.{Transfer}
use Rattle.ring_model.specs.Transfers.{after_ok, has_matched, on_answer, with_more}
use Rattle.ring_model.specs.Actions.{all_done}
use Rattle.ring_model.specs.Replication.{counts, heard_among, heard_from, leader_hears, on_ack}
use Rattle.ring_model.specs.Steps.{demoted, greater_of, idle, message, smaller_of, stepped, unknowns}
use Rattle.ring_model.specs.Nodes.{is_leader}
use Rattle.ring_model.specs.declared.effects.Action.TheVariants as action
use Rattle.ring_model.specs.declared.messages.Body.TheVariants as body
use Rattle.ring_model.specs.declared.nodes.Transfer.TheVariants as transfer
use Rattle.ring_model.proofs.Lists.{cons_cases, in_cons}
use Rattle.ring_model.proofs.Invariant.{By_reply, HasAcked, HasRole, History, IsHistory, IsLeader, IsNode, IsRunning, ok_reply}
use Rattle.ring_model.proofs.Sending.{with_message}
use Rattle.ring_model.proofs.Paths.{Ends}
use Rattle.ring_model.proofs.Winning.{acked_less}
use Rattle.ring_model.proofs.Turns.{IsRow, Sends}
use Rattle.ring_model.proofs.Advance.{Led_on, advance_row}
use Rattle.ring_model.proofs.Plain.{idle_row, raise_row, role_sent, sealed_sent, sends_more}
use Rattle.ring_model.proofs.GreaterOf.{greater_both, greater_by, smaller_low}

heard_matched : (h : History) (from t p : ℕ) (ok : Bool) (peers : List Peer)
    → ((x : Peer) → Contains peers x → 0 < x.matched → HasAcked h x.node t x.matched) → (ok ≡ true → HasAcked h from t p)
    → (y : Peer) → Contains (heard_among peers from ok p) y → 0 < y.matched → HasAcked h y.node t y.matched
heard_matched h from t p ok [] f g y c some = absurd (omega (arith, c.1))
heard_matched h from t p ok (x ∷ peers) f g y c some = go (x.node == from) refl ok refl c (λ z in_z more. heard_matched h from t p ok peers (λ w in_w. f w (in_cons x peers w in_w)) g z in_z more)
  where
    one : (b : Bool) → ok ≡ b → x.node ≡ from → 0 < (heard_from x b p).matched → HasAcked h x.node t (heard_from x b p).matched
    one true is same more = elim (cases_lt 0 x.matched) [
      | inl had ↦ greater_by (λ (w : ℕ). HasAcked h x.node t w) x.matched p (f x (zero, omega arith, refl) had) (subst (λ (w : ℕ). HasAcked h w t p) (sym same) (g is))
      | inr none ↦ greater_by (λ (w : ℕ). HasAcked h x.node t w) x.matched p
          (acked_less h x.node t x.matched p (omega arith) (subst (λ (w : ℕ). HasAcked h w t p) (sym same) (g is)))
          (subst (λ (w : ℕ). HasAcked h w t p) (sym same) (g is))
    ]
    one false is same more = f x (zero, omega arith, refl) more

    go : (a : Bool) → (x.node == from) ≡ a → (b : Bool) → ok ≡ b → Contains (heard_among (x ∷ peers) from ok p) y
        → ((z : Peer) → Contains (heard_among peers from ok p) z → 0 < z.matched → HasAcked h z.node t z.matched) → HasAcked h y.node t y.matched
    go true e b is c ih = let u = rw e at c in elim (cons_cases (heard_from x ok p) (heard_among peers from ok p) y u) [
      | inl here ↦ at_heard b is (ap (λ (w : Bool). heard_from x w p) (sym is) ∙ here)
      | inr there ↦ ih y there some
    ]
      where
        at_heard : (b : Bool) → ok ≡ b → heard_from x b p ≡ y → HasAcked h y.node t y.matched
        at_heard true is here =
            subst (λ (w : Peer). HasAcked h w.node t w.matched) here
            (one true is (grind (arith, nat_tests, e)) (let m = ap (λ (w : Peer). w.matched) here in omega arith))
        at_heard false is here =
            subst (λ (w : Peer). HasAcked h w.node t w.matched) here
            (one false is (grind (arith, nat_tests, e)) (let m = ap (λ (w : Peer). w.matched) here in omega arith))
    go false e b is c ih = let u = rw e at c in elim (cons_cases x (heard_among peers from ok p) y u) [
      | inl here ↦ subst (λ (w : Peer). HasAcked h w.node t w.matched) here (f x (zero, omega arith, refl) (let m = ap (λ (w : Peer). w.matched) here in omega arith))
      | inr there ↦ ih y there some
    ]

pub heard_one : (x : Peer) (ok : Bool) (p n : ℕ) → p ≤ n → (x.matched < x.next) × (x.next ≤ suc n)
    → ((heard_from x ok p).matched < (heard_from x ok p).next) × ((heard_from x ok p).next ≤ suc n)
heard_one x true p n le f =
    let b = greater_both x.next (suc p) in
    (greater_by (λ (w : ℕ). w < greater_of x.next (suc p)) x.matched p (omega (arith, b.0, f.0)) (omega (arith, b.1)), greater_by (λ (w : ℕ). w ≤ suc n) x.next (suc p) f.1 (omega arith))
heard_one x false p n le f =
    let b = greater_both (suc x.matched) (smaller_of x.next (suc p)) in
    (omega (arith, b.0), greater_by (λ (w : ℕ). w ≤ suc n) (suc x.matched) (smaller_of x.next (suc p)) (omega (arith, f.0, f.1)) (omega (arith, (smaller_low x.next (suc p)).0, f.1)))

heard_next : (from p n : ℕ) (ok : Bool) (peers : List Peer) → p ≤ n → ((x : Peer) → Contains peers x → (x.matched < x.next) × (x.next ≤ suc n)) → (y : Peer)
    → Contains (heard_among peers from ok p) y → (y.matched < y.next) × (y.next ≤ suc n)
heard_next from p n ok [] le f y c = absurd (omega (arith, c.1))
heard_next from p n ok (x ∷ peers) le f y c = go (x.node == from) refl c (λ z in_z. heard_next from p n ok peers le (λ w in_w. f w (in_cons x peers w in_w)) z in_z)
  where
    go : (a : Bool) → (x.node == from) ≡ a → Contains (heard_among (x ∷ peers) from ok p) y
        → ((z : Peer) → Contains (heard_among peers from ok p) z → (z.matched < z.next) × (z.next ≤ suc n)) → (y.matched < y.next) × (y.next ≤ suc n)
    go true e c ih = let u = rw e at c in elim (cons_cases (heard_from x ok p) (heard_among peers from ok p) y u) [
      | inl here ↦ subst (λ (w : Peer). (w.matched < w.next) × (w.next ≤ suc n)) here (heard_one x ok p n le (f x (zero, omega arith, refl)))
      | inr there ↦ ih y there
    ]
    go false e c ih = let u = rw e at c in elim (cons_cases x (heard_among peers from ok p) y u) [
      | inl here ↦ subst (λ (w : Peer). (w.matched < w.next) × (w.next ≤ suc n)) here (f x (zero, omega arith, refl))
      | inr there ↦ ih y there
    ]

-- what an answer counts for
pub record IsCounted (d : Durable) (s : Soft) (answer : AppendReply) : Type 0 where
  pub leads : s.role ≡ Leader
  pub of_term : answer.term ≡ d.term
  pub inside : answer.position ≤ length d.log

pub counted : (d : Durable) (s : Soft) (answer : AppendReply) → counts d s answer ≡ true → IsCounted d s answer
counted d s answer is = go s.role refl (answer.term == d.term) refl (nat_le answer.position (length d.log)) refl
  where
    go : (r : Role) → s.role ≡ r → (b : Bool) → (answer.term == d.term) ≡ b → (c : Bool) → nat_le answer.position (length d.log) ≡ c → IsCounted d s answer
    go Follower x b y c z = absurd (let u = rw x at is in let w : false ≡ true = u in cc)
    go Candidate x b y c z = absurd (let u = rw x at is in let w : false ≡ true = u in cc)
    go Leader x false y c z = absurd (let u = rw (x, y) at is in let w : false ≡ true = u in cc)
    go Leader x true y false z = absurd (let u = rw (x, y, z) at is in let w : false ≡ true = u in cc)
    go Leader x true y true z = record { leads = x; of_term = grind (arith, nat_tests, y); inside = grind (arith, nat_tests, z) }

hears_row : (ring : Layout) (h : History) (m : Message) (id from : ℕ) (answer : AppendReply) (d : Durable) (s : Soft) → IsCounted d s answer
    → IsHistory ring h → IsNode ring h id d → IsRunning ring h id d s
    → Contains h.messages m → m.from ≡ from → m.body ≡ body.AppendReply answer → IsRow ring h id d s (leader_hears ring id d s from answer)
hears_row ring h m id from answer d s count k n r in_m by is =
    let l : IsLeader h id d s = subst (λ (o : Role). HasRole h id d s o) count.leads r.role in
    let t : Soft = record s { peers = heard_among s.peers from answer.ok answer.position } in
    let new : IsLeader h id d t = record {
      election = l.election;
      led = l.led;
      by = l.by;
      of_term = l.of_term;
      matched = λ q in_q some. heard_matched h from d.term answer.position answer.ok s.peers l.matched
          (λ agreed. By_reply m answer.position in_m by (is ∙ (ap (λ (v : Bool). body.AppendReply (record { term = answer.term; ok = v; position = answer.position })) agreed ∙ ap (λ (u : ℕ). ok_reply u answer.position) count.of_term)) (omega arith)) q in_q some;
      next = λ q in_q. heard_next from answer.position (length d.log) answer.ok s.peers count.inside l.next q in_q;
    } in
    advance_row ring h h id d s t [] [] Ends k n count.leads new r.sealed r.applied (Led_on (ap is_leader count.leads) refl)

ack_row : (ring : Layout) (h : History) (m : Message) (id from : ℕ) (answer : AppendReply) (d : Durable) (s : Soft) → IsHistory ring h → IsNode ring h id d
    → IsRunning ring h id d s
    → Contains h.messages m → m.from ≡ from → m.body ≡ body.AppendReply answer → IsRow ring h id d s (on_ack ring id d s from answer)
unfolding on_ack
ack_row ring h m id from answer d s k n r in_m by is = go (nat_lt d.term answer.term) refl (counts d s answer) refl
  where
    go : (a : Bool) → nat_lt d.term answer.term ≡ a → (b : Bool) → counts d s answer ≡ b
        → IsRow ring h id d s (if a then stepped (action.SetTerm answer.term ∷ []) [] (unknowns s) (demoted s) else (if b then leader_hears ring id d s from answer else idle s))
    go true x b y = raise_row ring h id answer.term d s (grind (arith, nat_tests, x)) r
    go false x true y = hears_row ring h m id from answer d s (counted d s answer y) k n r in_m by is
    go false x false y = idle_row ring h id d s r

-- one more message that claims nothing
more_row : (ring : Layout) (h : History) (id to term : ℕ) (d : Durable) (s : Soft) (st : Step) → IsRow ring h id d s st
    → IsRow ring h id d s (with_more st (message id to (body.TimeoutNow term) ∷ []))
more_row ring h id to term d s st row =
    let m : Message = message id to (body.TimeoutNow term) in
    record {
      acted = row.acted;
      path = row.path;
      sent = with_message row.sent m;
      sends = sends_more ring id (all_done d st.plan.actions) row.acted row.sent st.plan.messages m row.sends tt
          (record { from = refl; answers = λ u v bad. absurd cc });
      role = role_sent ring row.sent m id (all_done d st.plan.actions) st.soft st.soft.role row.role;
      sealed = sealed_sent ring row.sent m (all_done d st.plan.actions).term st.soft.commit (all_done d st.plan.actions).log row.sealed;
      applied = row.applied;
      reaches = row.reaches;
      holding = row.holding;
    }

none_more_row : (ring : Layout) (h : History) (id : ℕ) (d : Durable) (s : Soft) (st : Step) → IsRow ring h id d s st → IsRow ring h id d s (with_more st [])
none_more_row ring h id d s st row = record {
  acted = row.acted;
  path = row.path;
  sent = row.sent;
  sends = subst (λ (ms : List Message). Sends ring id (all_done d st.plan.actions) row.acted ms row.sent) (sym (append-nil st.plan.messages)) row.sends;
  role = row.role;
  sealed = row.sealed;
  applied = row.applied;
  reaches = row.reaches;
  holding = row.holding;
}

over_row : (ring : Layout) (h : History) (id from : ℕ) (e d : Durable) (s : Soft) (peers : List Peer) (t : Transfer) (st : Step) → IsRow ring h id d s st
    → IsRow ring h id d s (with_more st (after_ok id e peers from t))
over_row ring h id from e d s peers transfer.Off st row = none_more_row ring h id d s st row
over_row ring h id from e d s peers (transfer.Mock target round client) st row = none_more_row ring h id d s st row
over_row ring h id from e d s peers (transfer.Handing target client) st row = go (target == from) (has_matched peers target (length e.log))
  where
    go : (a b : Bool) → IsRow ring h id d s (with_more st (if a then (if b then message id target (body.TimeoutNow e.term) ∷ [] else []) else []))
    go true true = more_row ring h id target e.term d s st row
    go true false = none_more_row ring h id d s st row
    go false b = none_more_row ring h id d s st row

pub answered_row : (ring : Layout) (h : History) (m : Message) (id from : ℕ) (answer : AppendReply) (d : Durable) (s : Soft) → IsHistory ring h
    → IsNode ring h id d → IsRunning ring h id d s
    → Contains h.messages m → m.from ≡ from → m.body ≡ body.AppendReply answer → IsRow ring h id d s (on_answer ring id d s from answer)
unfolding on_answer
answered_row ring h m id from answer d s k n r in_m by is = go (counts d s answer && answer.ok)
  where
    go : (a : Bool) → IsRow ring h id d s (if a then with_more (on_ack ring id d s from answer) (after_ok id d (on_ack ring id d s from answer).soft.peers from s.transfer) else on_ack ring id d s from answer)
    go true =
        over_row ring h id from d d s (on_ack ring id d s from answer).soft.peers s.transfer (on_ack ring id d s from answer)
        (ack_row ring h m id from answer d s k n r in_m by is)
    go false = ack_row ring h m id from answer d s k n r in_m by is
