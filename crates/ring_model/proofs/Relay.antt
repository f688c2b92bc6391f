-- A proxy that relays: what it finds by the opids is the first of the leader's entries, since logs that share a term at a place agree up to it.
use Rattle.std.proofs.Common.{inl, ◌≡◌, ℕ, ◌+◌, ◌<◌, ◌≤◌, ◌==◌, [], ◌∷◌, ◌∙◌, Bool, List, None, Option, Some, ap, arith, drop, false, length, refl, subst, suc, sym, take, true, zero}
use Rattle.std.proofs.lemmas.Bool.Decides.{nat_tests}
use Rattle.ring_types.specs.declared.entries.Entry.{Entry}
use Rattle.ring_types.specs.Rings.{Layout}
use Rattle.ring_types.specs.declared.entries.Opid.{Opid}
use Rattle.ring_types.specs.Logs.{entry_at, same_opid, term_at}
use Rattle.ring_model.specs.declared.nodes.Durable.{Durable}
use Rattle.ring_model.specs.declared.messages.Message.{Message}
use Rattle.ring_model.specs.declared.messages.ProxyAppend.{ProxyAppend}
use Rattle.ring_model.specs.declared.nodes.Soft.{Soft}
use Rattle.ring_model.specs.Replication.{found, opids_of, relay}
use Rattle.ring_model.specs.Steps.{message}
use Rattle.ring_model.specs.declared.messages.Body.TheVariants as body
use Rattle.ring_model.proofs.Invariant.{History, IsBookedLog, IsHistory, IsNode, IsRunning, IsSent}
use Rattle.ring_model.proofs.Following.{entry_at_take, log_match}
use Rattle.ring_model.proofs.Sending.{with_message}
use Rattle.ring_model.proofs.Paths.{Ends}
use Rattle.ring_model.proofs.Turns.{IsRow, Sends_on, Sent_all}
use Rattle.ring_model.proofs.Plain.{role_sent, sealed_sent, stays_holding}

window_opids : (q : ℕ) (b : List Entry) (o : Opid) (os : List Opid) → q < length b → o ∷ os ≡ opids_of (take (suc (length os)) (drop q b))
    → (x : Entry) × (entry_at b (suc q) ≡ Some x) × (o ≡ x.opid) × (os ≡ opids_of (take (length os) (drop (suc q) b))) × (drop q b ≡ x ∷ drop (suc q) b)
window_opids zero [] o os lt is = absurd (omega arith)
window_opids zero (x ∷ b) o os lt is = (x, refl, cc, cc, refl)
window_opids (suc q) [] o os lt is = absurd (omega arith)
window_opids (suc q) (x ∷ b) o os lt is = window_opids q b o os (omega arith) is

term_of_entry : (l : List Entry) (k : ℕ) (e : Entry) → entry_at l k ≡ Some e → (term_at l k ≡ e.opid.term) × (k ≤ length l) × (0 < k)
term_of_entry l zero e is = absurd cc
term_of_entry [] (suc k) e is = absurd cc
term_of_entry (x ∷ l) (suc zero) e is = (let y : x ≡ e = cc in ap (λ (w : Entry). w.opid.term) y, omega arith, omega arith)
term_of_entry (x ∷ l) (suc (suc k)) e is = let y = term_of_entry l (suc k) e is in (y.0, omega (arith, y.1), omega arith)

same_term : (a b : Opid) → same_opid a b ≡ true → a.term ≡ b.term
same_term a b is = go (a.term == b.term) refl
  where
    go : (c : Bool) → (a.term == b.term) ≡ c → a.term ≡ b.term
    go true x = grind (arith, nat_tests, x)
    go false x = absurd (let u = rw x at is in let z : false ≡ true = u in cc)

-- what the proxy finds are the first of the leader's entries
found_is : (ring : Layout) (h : History) (t u q : ℕ) (l b : List Entry) (os : List Opid) → IsBookedLog ring h t l → IsBookedLog ring h u b → q + length os ≤ length b → os ≡ opids_of (take (length os) (drop q b))
    → (take (length (found l os)) (drop q b) ≡ found l os) × (length (found l os) ≤ length os)
found_is ring h t u q l b [] x y fits is = (refl, omega arith)
found_is ring h t u q l b (o ∷ os) x y fits is =
    let w = window_opids q b o os (omega arith) is in
    let place : w.0.opid.position ≡ suc q = (y.entry (suc q) (omega arith) (omega arith)).place w.0 w.1 in
    go w.0 w.1 w.2 w.4 place (found_is ring h t u (suc q) l b os x y (omega arith) w.3) (entry_at l o.position) refl
  where
    go : (v : Entry) → entry_at b (suc q) ≡ Some v → o ≡ v.opid → drop q b ≡ v ∷ drop (suc q) b → v.opid.position ≡ suc q → (take (length (found l os)) (drop (suc q) b) ≡ found l os) × (length (found l os) ≤ length os)
        → (r : Option Entry) → entry_at l o.position ≡ r → (take (length (found l (o ∷ os))) (drop q b) ≡ found l (o ∷ os)) × (length (found l (o ∷ os)) ≤ length (o ∷ os))
    go v at_b is_o front place ih None at_l = rw (at_l, found) (refl, omega arith)
    go v at_b is_o front place ih (Some e) at_l = pick (same_opid e.opid o) refl
      where
        pick : (c : Bool) → same_opid e.opid o ≡ c → (take (length (found l (o ∷ os))) (drop q b) ≡ found l (o ∷ os)) × (length (found l (o ∷ os)) ≤ length (o ∷ os))
        pick false c = rw (at_l, found) (rw c (refl, omega arith))
        pick true c =
            let pos : o.position ≡ suc q = ap (λ (w : Opid). w.position) is_o ∙ place in
            let here : entry_at l (suc q) ≡ Some e = subst (λ (k : ℕ). entry_at l k ≡ Some e) pos at_l in
            let te = term_of_entry l (suc q) e here in
            let tv = term_of_entry b (suc q) v at_b in
            let same : term_at l (suc q) ≡ term_at b (suc q) = te.0 ∙ (same_term e.opid o c ∙ (ap (λ (w : Opid). w.term) is_o ∙ sym tv.0)) in
            let a = log_match ring h t u (suc q) l b x y (omega arith) te.1 tv.1 same in
            let eq : Some e ≡ Some v = sym here ∙ (sym (entry_at_take (suc q) (suc q) l (omega arith)) ∙ (ap (λ (w : List Entry). entry_at w (suc q)) a.same ∙ (entry_at_take (suc q) (suc q) b (omega arith) ∙ at_b))) in
            let ev : e ≡ v = cc in
            rw (at_l, found) (rw c (ap (take (suc (length (found l os)))) front ∙ (ap (λ (w : List Entry). v ∷ w) ih.0 ∙ ap (λ (w : Entry). w ∷ found l os) (sym ev)), omega (arith, ih.1)))

pub relay_row : (ring : Layout) (h : History) (id from : ℕ) (sent : ProxyAppend) (d : Durable) (s : Soft) → IsHistory ring h → IsNode ring h id d → IsRunning ring h id d s
    → IsSent ring h from id (body.ProxyAppend sent) → IsRow ring h id d s (relay id d s from sent)
unfolding relay
relay_row ring h id from sent d s k n r told =
    let x = told.0 in
    let book : IsBookedLog ring h sent.term (h.book sent.term) = subst (λ (u : ℕ). IsBookedLog ring h u (h.book u)) x.of_term (k.elections x.election x.led).book in
    let f = found_is ring h d.term sent.term sent.prev.position d.log (h.book sent.term) sent.opids n.log book x.fits (sym told.1) in
    let m : Message = message id sent.target (body.Append (record { term = sent.term; leader = from; prev = sent.prev; commit = sent.commit; entries = found d.log sent.opids })) in
    record {
      acted = h;
      path = Ends;
      sent = with_message h m;
      sends = Sends_on {m = m} (record { election = x.election; led = x.led; of_term = x.of_term; by = x.by; fits = omega (arith, f.1, x.fits); prev_term = x.prev_term; sealed = x.sealed; chosen = x.chosen }, f.0)
          (record { from = refl; answers = λ u v bad. absurd cc }) Sent_all;
      role = role_sent ring h m id d s s.role r.role;
      sealed = sealed_sent ring h m d.term s.commit d.log r.sealed;
      applied = r.applied;
      reaches = inl r.chosen;
      holding = stays_holding ring id h d s s refl;
    }
