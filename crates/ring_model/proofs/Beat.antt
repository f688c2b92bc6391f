-- A leader's beat: its log is the book of its term, so each window of it that it sends is a stretch of that book.
use Rattle.std.proofs.Common.{◌≡◌, ℕ, ◌+◌, ◌-◌, ◌<◌, ◌≤◌, [], ◌∷◌, ◌∙◌, if◌then◌else◌, Bool, List, ap, arith, drop, false, length, map, refl, subst, suc, sym, take, true, zero}
use Rattle.ring_types.specs.declared.entries.Entry.{Entry}
use Rattle.ring_types.specs.Rings.{Layout}
use Rattle.ring_types.specs.Sizes.{group_limit}
use Rattle.ring_types.specs.Logs.{term_at}
use Rattle.ring_model.specs.declared.nodes.Role.TheVariants.{Candidate, Follower, Leader}
use Rattle.ring_model.specs.declared.nodes.Durable.{Durable}
use Rattle.ring_model.specs.declared.nodes.Peer.{Peer}
use Rattle.ring_model.specs.declared.nodes.Role.{Role}
use Rattle.ring_model.specs.declared.nodes.Soft.{Soft}
use Rattle.ring_model.specs.Replication.{batch_length, batch_limit, batch_of, beat, beat_to, is_proxied, opid_before, opids_of, proxy_id, quieter, send_direct, send_proxied}
use Rattle.ring_model.specs.Steps.{idle, stepped}
use Rattle.ring_model.specs.Nodes.{is_leader}
use Rattle.ring_model.specs.declared.messages.Body.TheVariants as body
use Rattle.ring_model.proofs.Lists.{map_of}
use Rattle.ring_model.proofs.Invariant.{HasAcked, HasRole, History, IsHistory, IsLeader, IsNode, IsRunning, IsSealed, IsSent, IsStretch}
use Rattle.ring_model.proofs.Turns.{IsRow}
use Rattle.ring_model.proofs.Plain.{IsSayable, idle_row, plain_row}

window_length : (n q : ℕ) (l : List Entry) → q ≤ length l → q + length (take n (drop q l)) ≤ length l
window_length zero q l le = omega arith
window_length (suc n) zero [] le = omega arith
window_length (suc n) zero (x ∷ l) le = omega (arith, window_length n zero l (omega arith))
window_length (suc n) (suc q) [] le = absurd (omega arith)
window_length (suc n) (suc q) (x ∷ l) le = omega (arith, window_length (suc n) q l (omega arith))

take_own : (n : ℕ) (l : List Entry) → take (length (take n l)) l ≡ take n l
take_own zero l = refl
take_own (suc n) [] = refl
take_own (suc n) (x ∷ l) = ap (λ w. x ∷ w) (take_own n l)

beat_stretch : (ring : Layout) (h : History) (id n q : ℕ) (d : Durable) (s : Soft) → IsHistory ring h → IsNode ring h id d → IsRunning ring h id d s
    → s.role ≡ Leader → q ≤ length d.log
    → IsStretch ring h d.term id (record { term = term_at d.log q; position = q }) s.commit (length (take n (drop q d.log)))
beat_stretch ring h id n q d s k node r role le =
    let l : IsLeader h id d s = subst (λ (o : Role). HasRole h id d s o) role r.role in
    let book : d.log ≡ h.book d.term = node.led_log l.election l.led l.by l.of_term ∙ ap h.book l.of_term in
    record {
      election = l.election;
      led = l.led;
      of_term = l.of_term;
      by = l.by;
      fits = omega (arith, window_length n q d.log le, ap length book);
      prev_term = ap (λ (w : List Entry). term_at w q) (sym book);
      sealed = subst (λ (w : List Entry). IsSealed ring h d.term s.commit w) book r.sealed;
      chosen = r.chosen;
    }

-- the entries to one member, sent as they are
direct_sent : (ring : Layout) (h : History) (id to n q : ℕ) (d : Durable) (s : Soft) → IsHistory ring h → IsNode ring h id d → IsRunning ring h id d s
    → s.role ≡ Leader → q ≤ length d.log
    → IsSent ring h id to (body.Append (record { term = d.term; leader = id; prev = record { term = term_at d.log q; position = q }; commit = s.commit; entries = take n (drop q d.log) }))
direct_sent ring h id to n q d s k node r role le =
    let l : IsLeader h id d s = subst (λ (o : Role). HasRole h id d s o) role r.role in
    let book : d.log ≡ h.book d.term = node.led_log l.election l.led l.by l.of_term ∙ ap h.book l.of_term in (
      beat_stretch ring h id n q d s k node r role le,
      subst (λ (w : List Entry). take (length (take n (drop q d.log))) (drop q w) ≡ take n (drop q d.log)) book (take_own n (drop q d.log)),
    )

pub opids_length : (l : List Entry) → length (opids_of l) ≡ length l
opids_length [] = refl
opids_length (x ∷ l) = ap suc (opids_length l)

-- their opids alone, sent to a proxy
proxied_sent : (ring : Layout) (h : History) (id to target n q : ℕ) (d : Durable) (s : Soft) → IsHistory ring h → IsNode ring h id d
    → IsRunning ring h id d s → s.role ≡ Leader → q ≤ length d.log
    → IsSent ring h id to (body.ProxyAppend (record { term = d.term; target = target; prev = record { term = term_at d.log q; position = q }; commit = s.commit; opids = opids_of (take n (drop q d.log)) }))
proxied_sent ring h id to target n q d s k node r role le =
    let same : length (opids_of (take n (drop q d.log))) ≡ length (take n (drop q d.log)) = opids_length (take n (drop q d.log)) in
    let x = direct_sent ring h id to n q d s k node r role le in (
      subst (λ (c : ℕ). IsStretch ring h d.term id (record { term = term_at d.log q; position = q }) s.commit c) (sym same) x.0,
      ap (λ (c : ℕ). opids_of (take c (drop q (h.book d.term)))) same ∙ ap opids_of x.1,
    )

beat_one : (ring : Layout) (h : History) (id : ℕ) (d : Durable) (s : Soft) (p : Peer) → IsHistory ring h → IsNode ring h id d → IsRunning ring h id d s
    → s.role ≡ Leader → p.next ≤ suc (length d.log)
    → IsSayable ring h id (beat_to ring id d s p)
beat_one ring h id d s p k n r role le = go (is_proxied ring id s.peers p.node)
  where
    count : ℕ
    count = batch_length ring.schema batch_limit group_limit (drop (p.next - 1) d.log)

    go : (b : Bool) → IsSayable ring h id (if b then send_proxied id (proxy_id ring p.node) d s p.node (opid_before d.log p.next) (batch_of ring.schema (drop (p.next - 1) d.log))
        else send_direct id d s p.node (opid_before d.log p.next) (batch_of ring.schema (drop (p.next - 1) d.log)))
    go true = record {
      sent = proxied_sent ring h id (proxy_id ring p.node) p.node (batch_length ring.schema batch_limit group_limit (drop (p.next - 1) d.log)) (p.next - 1) d s k n r role (omega arith);
      from = refl;
      never = λ u v bad. absurd cc;
    }
    go false = record {
      sent = direct_sent ring h id p.node (batch_length ring.schema batch_limit group_limit (drop (p.next - 1) d.log)) (p.next - 1) d s k n r role (omega arith);
      from = refl;
      never = λ u v bad. absurd cc;
    }

pub beat_row : (ring : Layout) (h : History) (id : ℕ) (d : Durable) (s : Soft) → IsHistory ring h → IsNode ring h id d → IsRunning ring h id d s
    → IsRow ring h id d s (beat ring id d s)
unfolding beat
beat_row ring h id d s k n r = go s.role refl
  where
    leads : s.role ≡ Leader → IsRow ring h id d s (stepped [] (map (beat_to ring id d s) s.peers) [] (record s { peers = map quieter s.peers }))
    leads is =
        let l : IsLeader h id d s = subst (λ (o : Role). HasRole h id d s o) is r.role in
        let t : Soft = record s { peers = map quieter s.peers } in
        let new : IsLeader h id d t = record {
          election = l.election;
          led = l.led;
          by = l.by;
          of_term = l.of_term;
          matched = λ p in_p some. (let z = map_of quieter s.peers p in_p in
              subst (λ (w : Peer). HasAcked h w.node d.term w.matched) z.2 (l.matched z.0 z.1 (omega (arith, ap (λ (w : Peer). w.matched) z.2))));
          next = λ p in_p. (let z = map_of quieter s.peers p in_p in subst (λ (w : Peer). (w.matched < w.next) × (w.next ≤ suc (length d.log))) z.2 (l.next z.0 z.1));
        } in
        plain_row ring h id d s t (map (beat_to ring id d s) s.peers) [] k n r refl refl (subst (λ (o : Role). HasRole h id d t o) (sym is) new)
        (λ m in_m. let z = map_of (beat_to ring id d s) s.peers m in_m in subst (IsSayable ring h id) z.2 (beat_one ring h id d s z.0 k n r is (l.next z.0 z.1).1))

    go : (o : Role) → s.role ≡ o → IsRow ring h id d s (if is_leader o then stepped [] (map (beat_to ring id d s) s.peers) [] (record s { peers = map quieter s.peers }) else idle s)
    go Follower is = idle_row ring h id d s r
    go Candidate is = idle_row ring h id d s r
    go Leader is = leads is
