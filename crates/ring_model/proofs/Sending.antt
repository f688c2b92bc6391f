-- A message whose words hold may be sent, two committed beginnings agree, and an entry below a committed one may be applied.
use Rattle.std.proofs.Common.{◌≡◌, ℕ, ◌≤◌, ◌⊎◌, [], ◌∷◌, ◌++◌, ◌∙◌, List, ap, arith, inl, inr, length, refl, subst, sym}
use Rattle.std.proofs.lemmas.List.Elements.{Contains-append_left, Contains-push_cases}
use Rattle.std.proofs.lemmas.Bool.{cases_lt}
use Rattle.ring_types.specs.declared.entries.Entry.{Entry}
use Rattle.ring_types.specs.Rings.{Layout}
use Rattle.ring_model.specs.Safety.{Agree}
use Rattle.ring_model.specs.declared.nodes.Durable.{Durable}
use Rattle.ring_model.specs.declared.messages.Message.{Message}
use Rattle.ring_model.proofs.Invariant.{As_leader, By_reply, Cut_by, HasAcked, History, IsHistory, IsNode, IsSealed, IsSent, Kept, Nothing_yet, Sealed_at, ok_reply}
use Rattle.ring_model.proofs.Growth.{Grows, agree_less, agree_sym, agree_trans, cast_stays, chosen_stays, grow_keeps, grow_log, grow_sealed, sent_stays, won_stays}
use Rattle.ring_model.proofs.Cover.{committed_in_book}
use Rattle.ring_model.proofs.Following.{agree_same}

abbrev pub with_message : History → Message → History
with_message h m = record h { messages = h.messages ++ m ∷ [] }

-- what an ok answer says is so of the node that sends it
pub record MayAnswer (h : History) (id : ℕ) (d : Durable) (m : Message) : Type 0 where
  pub from : m.from ≡ id
  pub answers : (s q : ℕ) → m.body ≡ ok_reply s q → (s ≡ d.term) × Agree q (h.book s) d.log

module _ (ring : Layout) (h : History) (id : ℕ) (d : Durable) (m : Message) (k : IsHistory ring h) (n : IsNode ring h id d) (sends : IsSent ring h m.from m.to m.body) (may : MayAnswer h id d m) where
  sent_acks : (v s p : ℕ) → HasAcked (with_message h m) v s p → HasAcked h v s p ⊎ ((v ≡ id) × (s ≡ d.term) × Agree p (h.book s) d.log)
  sent_acks v s p (As_leader e in_e t by le) = inl (As_leader e in_e t by le)
  sent_acks v s p (By_reply x q in_x by body le) = elim (Contains-push_cases h.messages m x in_x) [
    | inl old ↦ inl (By_reply x q old by body le)
    | inr new ↦
        let a = may.answers s q (ap (λ (w : Message). w.body) new ∙ body) in
        inr (sym by ∙ (ap (λ (w : Message). w.from) (sym new) ∙ may.from), a.0, agree_less p q (h.book s) d.log le a.1)
  ]

  pub sent_grows : Grows id h (with_message h m)
  sent_grows = record {
    elections = λ e in_e. in_e;
    casts = λ c in_c. in_c;
    messages = λ x in_x. Contains-append_left h.messages (m ∷ []) x in_x;
    books = λ e in_e. agree_same (length (h.book e.term)) (h.book e.term) (omega arith);
    other_books = λ e in_e other. refl;
    chosen = omega arith;
    new_elections = λ e in_e. inl in_e;
    new_casts = λ c in_c. inl in_c;
    new_acks = λ v s p a. elim (sent_acks v s p a) [ inl old ↦ inl old | inr new ↦ inr (new.0, λ c in_c by. omega (arith, n.cast_below c in_c by, new.1)) ];
  }

  pub sent_node : IsNode ring (with_message h m) id d
  sent_node = record {
    log = grow_log ring id h (with_message h m) sent_grows d.term d.term d.log (omega arith) n.log;
    led_below = n.led_below;
    led_log = n.led_log;
    cast_below = n.cast_below;
    cast_kept = n.cast_kept;
    votes_cast = n.votes_cast;
    dropped = λ c in_c by. elim (n.dropped c in_c by) [
      | inl kept ↦ inl kept
      | inr gone ↦ inr (record { at = gone.at; sealed = grow_sealed ring id h (with_message h m) sent_grows d.term d.term gone.at d.log (omega arith) gone.sealed; above = gone.above })
    ];
    between = n.between;
    acked_below = λ s p a. elim (sent_acks id s p a) [ inl old ↦ n.acked_below s p old | inr new ↦ omega (arith, new.1) ];
    acked = λ s p a. elim (sent_acks id s p a) [ inl old ↦ grow_keeps ring id h (with_message h m) sent_grows k d id s p old (n.acked s p old) | inr new ↦ Kept new.2 ];
    applied = grow_sealed ring id h (with_message h m) sent_grows d.term d.term d.applied d.log (omega arith) n.applied;
  }

  pub sent_history : IsHistory ring (with_message h m)
  sent_history = record {
    elections = λ f in_f. let y = k.elections f in_f in won_stays ring id h (with_message h m) sent_grows f in_f y (λ i low high. absurd (omega arith)) (grow_log ring id h (with_message h m) sent_grows f.term f.term (h.book f.term) (omega arith) y.book);
    one_leader = k.one_leader;
    terms_once = k.terms_once;
    casts = λ c in_c. cast_stays ring id h (with_message h m) sent_grows k c in_c (k.casts c in_c);
    valid = k.valid;
    one_vote = k.one_vote;
    sent = λ x in_x. elim (Contains-push_cases h.messages m x in_x) [
      | inl old ↦ sent_stays ring id h (with_message h m) sent_grows x.from x.to x.body (k.sent x old)
      | inr new ↦ subst (λ (w : Message). IsSent ring (with_message h m) w.from w.to w.body) new (sent_stays ring id h (with_message h m) sent_grows m.from m.to m.body sends)
    ];
    chosen = chosen_stays ring id h (with_message h m) sent_grows (length h.chosen) h.chosen k.chosen;
  }

-- ---- two committed beginnings are beginnings of one list
pub sealed_agree : (ring : Layout) (h : History) (u t c b : ℕ) (l m : List Entry) → IsHistory ring h → IsSealed ring h u c l → IsSealed ring h t b m → c ≤ b → Agree c l m
sealed_agree ring h u t c b l m k (Nothing_yet z) y le = record { left = omega arith; right = omega arith; same = rw z refl }
sealed_agree ring h u t c b l m k (Sealed_at s p a i x v) (Nothing_yet z) le = record { left = v.left; right = omega arith; same = (let w : c ≡ 0 = omega arith in rw w refl) }
sealed_agree ring h u t c b l m k (Sealed_at s p a i x v) (Sealed_at r q e f y w) le =
    let w' = agree_less c b m (h.book r) le w in
    elim (cases_lt r s) [
      | inl lt ↦
          let z = committed_in_book ring h k r q s x.election y x.led x.of_term (omega arith) in
          agree_trans c l (h.book s) m v (agree_trans c (h.book s) (h.book r) m (agree_sym c (h.book r) (h.book s) (agree_less c q (h.book r) (h.book s) (omega arith) z)) (agree_sym c m (h.book r) w'))
      | inr ge ↦
          let z = committed_in_book ring h k s p r y.election x y.led y.of_term ge in
          agree_trans c l (h.book s) m v (agree_trans c (h.book s) (h.book r) m (agree_less c p (h.book s) (h.book r) i z) (agree_sym c m (h.book r) w'))
    ]

-- the follower's commit count: the smaller of the message's count and the last matched place
pub sealed_from_book : (ring : Layout) (h : History) (u c j : ℕ) (l : List Entry) → j ≤ c → Agree j l (h.book u) → IsSealed ring h u c (h.book u) → IsSealed ring h u j l
sealed_from_book ring h u c j l le a (Nothing_yet z) = Nothing_yet (omega arith)
sealed_from_book ring h u c j l le a (Sealed_at s p b i x v) = Sealed_at s p b (omega arith) x (agree_trans j l (h.book u) (h.book s) a (agree_less j c (h.book u) (h.book s) le v))

-- an entry is applied
pub apply_keeps : (ring : Layout) (h : History) (id p : ℕ) (d : Durable) → IsNode ring h id d → IsSealed ring h d.term p d.log → IsNode ring h id (record d { applied = p })
apply_keeps ring h id p d n s = record {
  log = n.log;
  led_below = n.led_below;
  led_log = n.led_log;
  cast_below = n.cast_below;
  cast_kept = n.cast_kept;
  votes_cast = n.votes_cast;
  dropped = λ c in_c by. elim (n.dropped c in_c by) [ inl kept ↦ inl kept | inr gone ↦ inr (record { at = gone.at; sealed = gone.sealed; above = gone.above }) ];
  between = n.between;
  acked_below = n.acked_below;
  acked = λ s p a. elim (n.acked s p a) [ Kept x ↦ Kept x | Cut_by u o le ↦ Cut_by u o le ];
  applied = s;
}
