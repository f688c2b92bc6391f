-- A greater term and a cast vote keep the invariant: a voter's log, its kept votes and what it acknowledged bound what it is asked with.
use Rattle.std.proofs.Common.{◌≡◌, ℕ, ◌<◌, ◌≤◌, ◌⊎◌, [], ◌∷◌, ◌++◌, ◌∙◌, List, ap, arith, inl, inr, length, refl, subst, sym}
use Rattle.std.proofs.lemmas.List.Elements.{Contains-append_left, Contains-push, Contains-push_cases}
use Rattle.std.proofs.lemmas.Bool.{cases_lt}
use Rattle.std.specs.List.{Contains, filter}
use Rattle.std.specs.Prelude.{nat_lt}
use Rattle.ring_types.specs.declared.entries.Entry.{Entry}
use Rattle.ring_types.specs.Rings.{Layout, region_of}
use Rattle.ring_types.specs.declared.entries.Opid.{Opid}
use Rattle.ring_types.specs.declared.entries.Vote.{Vote}
use Rattle.ring_types.specs.Logs.{last, term_at}
use Rattle.ring_model.specs.declared.nodes.Durable.{Durable}
use Rattle.ring_model.specs.Actions.{done}
use Rattle.ring_model.specs.declared.effects.Action.TheVariants as action
use Rattle.ring_types.proofs.Booleans.{lt_true}
use Rattle.ring_model.proofs.Lists.{filter_keeps, filter_of}
use Rattle.ring_model.proofs.Invariant.{As_leader, As_new, By_reply, Cast, Cut_by, HasAcked, History, IsBookedLog, IsCast, IsDropped, IsHistory, IsNode, IsSealed, Kept, Newer, Nothing_yet, Overruled, Sealed_at, VoteKeeps}
use Rattle.ring_model.proofs.Growth.{Grows, agree_term, cast_stays, chosen_stays, grow_log, grow_sealed, sent_stays, won_stays}

-- ---- a greater term
pub raise_keeps : (ring : Layout) (h : History) (id t : ℕ) (d : Durable) → d.term < t → IsNode ring h id d → IsNode ring h id (done d (action.SetTerm t))
raise_keeps ring h id t d up n = record {
  log = record { entry = n.log.entry; rises = n.log.rises; below = omega (arith, n.log.below) };
  led_below = λ e in_e by. omega (arith, n.led_below e in_e by);
  led_log = λ e in_e by is. absurd (omega (arith, n.led_below e in_e by));
  cast_below = λ c in_c by. omega (arith, n.cast_below c in_c by);
  cast_kept = λ c in_c by is. absurd (omega (arith, n.cast_below c in_c by));
  votes_cast = n.votes_cast;
  dropped = λ c in_c by. elim (n.dropped c in_c by) [
    | inl kept ↦ inl kept
    | inr gone ↦ inr (record { at = gone.at; sealed = seal_later ring h d.term t gone.at d.log (omega arith) gone.sealed; above = gone.above })
  ];
  between = λ c e in_c in_e by_c by_e is low high. absurd (omega (arith, n.cast_below c in_c by_c));
  acked_below = λ s p a. omega (arith, n.acked_below s p a);
  acked = λ s p a. elim (n.acked s p a) [ Kept x ↦ Kept x | Cut_by u x le ↦ Cut_by u x (omega arith) ];
  applied = seal_later ring h d.term t d.applied d.log (omega arith) n.applied;
}
  where
    seal_later : (ring : Layout) (h : History) (t u c : ℕ) (l : List Entry) → t ≤ u → IsSealed ring h t c l → IsSealed ring h u c l
    seal_later ring h t u c l le (Nothing_yet z) = Nothing_yet z
    seal_later ring h t u c l le (Sealed_at s p a b m x) = Sealed_at s p (omega arith) b m x

pub seal_inside : (ring : Layout) (h : History) (at u : ℕ) (l : List Entry) → IsSealed ring h u at l → at ≤ length l
seal_inside ring h at u l (Nothing_yet z) = omega arith
seal_inside ring h at u l (Sealed_at s p a b m x) = x.left

-- ---- a vote
-- the opid with which was asked is not older than the log
pub data IsUpToDate (q : Opid) (l : List Entry) : Type 0 where
  Later : (last l).term < q.term → IsUpToDate q l
  Longer : q.term ≡ (last l).term → (last l).position ≤ q.position → IsUpToDate q l

abbrev pub with_cast : History → Cast → History
with_cast h c = record h { casts = h.casts ++ c ∷ [] }

abbrev pub with_vote : Durable → Vote → ℕ → Durable
with_vote d w floor = done d (action.Vote w floor)

pub record MayVote (ring : Layout) (h : History) (id : ℕ) (d : Durable) (c : Cast) (floor : ℕ) : Type 0 where
  pub by : c.voter ≡ id
  pub of_term : c.vote.term ≡ d.term
  pub first : (w : Vote) → Contains d.votes w → w.term ≡ d.term → ⊥
  pub of_region : c.vote.region ≡ region_of ring c.vote.candidate
  pub self : (c.vote.candidate ≡ id) ⊎ ((e : Cast) × Contains h.casts e × (e.voter ≡ c.vote.candidate) × (e.vote ≡ c.vote) × (e.asked ≡ c.asked))
  pub asked : IsUpToDate c.asked d.log
  pub floor_at : ℕ
  pub floor_sealed : IsSealed ring h d.term floor_at d.log
  pub floor_below : floor ≤ term_at d.log floor_at

module _ (ring : Layout) (h : History) (id : ℕ) (d : Durable) (c : Cast) (floor : ℕ) (k : IsHistory ring h) (n : IsNode ring h id d) (may : MayVote ring h id d c floor) where
  not_yet : (e : Cast) → Contains h.casts e → e.voter ≡ id → e.vote.term < c.vote.term
  not_yet e in_e by =
      let le = n.cast_below e in_e by in
      elim (cases_lt e.vote.term d.term) [
        | inl lt ↦ omega (arith, may.of_term)
        | inr ge ↦ absurd (may.first e.vote (n.cast_kept e in_e by (omega arith)) (omega arith))
      ]

  no_new_acks : (v s p : ℕ) → HasAcked (with_cast h c) v s p → HasAcked h v s p
  no_new_acks v s p (As_leader e in_e t m le) = As_leader e in_e t m le
  no_new_acks v s p (By_reply m q in_m by body le) = By_reply m q in_m by body le

  pub cast_grows : Grows id h (with_cast h c)
  cast_grows = record {
    elections = λ e in_e. in_e;
    casts = λ e in_e. Contains-append_left h.casts (c ∷ []) e in_e;
    messages = λ m in_m. in_m;
    books = λ e in_e. record { left = omega arith; right = omega arith; same = refl };
    other_books = λ e in_e other. refl;
    chosen = omega arith;
    new_elections = λ e in_e. inl in_e;
    new_casts = λ e in_e. elim (Contains-push_cases h.casts c e in_e) [
      | inl old ↦ inl old
      | inr new ↦ inr (ap (λ (w : Cast). w.voter) (sym new) ∙ may.by, λ o in_o by. let z = not_yet o in_o by in let q = ap (λ (w : Cast). w.vote.term) new in omega arith)
    ];
    new_acks = λ v s p a. inl (no_new_acks v s p a);
  }

  -- a dropped vote's term is at most that of the log's last entry, so at most that with which was asked
  dropped_low : (l : List Entry) (t at u : ℕ) → IsBookedLog ring h u l → at ≤ length l → t ≤ term_at l at → IsUpToDate c.asked l → t ≤ c.asked.term
  dropped_low l t at u log inside le up =
      let r = log.rises at (length l) inside (omega arith) in
      elim up [ Later x ↦ omega arith | Longer x y ↦ omega arith ]

  vote_found : (e : Cast) → Contains h.casts e → e.voter ≡ id → Contains (with_vote d c.vote floor).votes e.vote ⊎ IsDropped ring (with_cast h c) (with_vote d c.vote floor) e.vote.term
  vote_found e in_e by = elim (n.dropped e in_e by) [
    | inl kept ↦ elim (cases_lt floor e.vote.term) [
      | inl above ↦ inl (Contains-append_left (filter (λ (w : Vote). nat_lt floor w.term) d.votes) (c.vote ∷ []) e.vote
          (filter_keeps (λ (w : Vote). nat_lt floor w.term) d.votes e.vote kept (lt_true floor e.vote.term above)))
      | inr low ↦ inr (record {
        at = may.floor_at;
        sealed = grow_sealed ring id h (with_cast h c) cast_grows d.term d.term may.floor_at d.log (omega arith) may.floor_sealed;
        above = omega (arith, may.floor_below);
      })
    ]
    | inr gone ↦ inr (record {
      at = gone.at;
      sealed = grow_sealed ring id h (with_cast h c) cast_grows d.term d.term gone.at d.log (omega arith) gone.sealed;
      above = gone.above;
    })
  ]

  low_if_dropped : (t : ℕ) → IsDropped ring (with_cast h c) (with_vote d c.vote floor) t → t ≤ c.asked.term
  low_if_dropped t x = dropped_low d.log t x.at d.term n.log (seal_inside ring (with_cast h c) x.at d.term d.log x.sealed) x.above may.asked

  pub cast_keeps_node : IsNode ring (with_cast h c) id (with_vote d c.vote floor)
  cast_keeps_node = record {
    log = grow_log ring id h (with_cast h c) cast_grows d.term d.term d.log (omega arith) n.log;
    led_below = n.led_below;
    led_log = n.led_log;
    cast_below = λ e in_e by. elim (Contains-push_cases h.casts c e in_e) [ inl old ↦ n.cast_below e old by | inr new ↦ let q = ap (λ (w : Cast). w.vote.term) new in omega (arith, may.of_term) ];
    cast_kept = λ e in_e by is. elim (Contains-push_cases h.casts c e in_e) [
      | inl old ↦ absurd (let z = not_yet e old by in omega (arith, may.of_term))
      | inr new ↦ subst (λ (w : Cast). Contains (with_vote d c.vote floor).votes w.vote) new (Contains-push (filter (λ (w : Vote). nat_lt floor w.term) d.votes) c.vote)
    ];
    votes_cast = λ w in_w. elim (Contains-push_cases (filter (λ (w : Vote). nat_lt floor w.term) d.votes) c.vote w in_w) [
      | inl old ↦ let x = n.votes_cast w (filter_of (λ (w : Vote). nat_lt floor w.term) d.votes w old) in (x.0, cast_grows.casts x.0 x.1, x.2, x.3)
      | inr new ↦ (c, Contains-push h.casts c, may.by, new)
    ];
    dropped = λ e in_e by. elim (Contains-push_cases h.casts c e in_e) [
      | inl old ↦ vote_found e old by
      | inr new ↦ inl (subst (λ (w : Cast). Contains (with_vote d c.vote floor).votes w.vote) new (Contains-push (filter (λ (w : Vote). nat_lt floor w.term) d.votes) c.vote))
    ];
    between = λ e f in_e in_f by_e by_f is low high. elim (Contains-push_cases h.casts c e in_e) [
      | inl old ↦ absurd (let z = not_yet e old by_e in omega (arith, may.of_term))
      | inr new ↦ elim (Contains-push_cases h.casts c f in_f) [
        | inl old_f ↦ elim (vote_found f old_f by_f) [
          | inl kept ↦ kept
          | inr gone ↦ absurd (let z = low_if_dropped f.vote.term gone in let q = ap (λ (w : Cast). w.asked.term) new in omega arith)
        ]
        | inr new_f ↦ absurd (let q = ap (λ (w : Cast). w.vote.term) new in let r = ap (λ (w : Cast). w.vote.term) new_f in omega arith)
      ]
    ];
    acked_below = λ s p a. n.acked_below s p (no_new_acks id s p a);
    acked = λ s p a. elim (n.acked s p (no_new_acks id s p a)) [ Kept x ↦ Kept x | Cut_by u x le ↦ Cut_by u (record { led = x.led; later = x.later; lacks = x.lacks }) le ];
    applied = grow_sealed ring id h (with_cast h c) cast_grows d.term d.term d.applied d.log (omega arith) n.applied;
  }

  -- an acknowledged place is not newer than what the vote was asked with, or a leader in between overruled it
  new_cast_keeps : (s p : ℕ) → HasAcked h id s p → s < c.vote.term → term_at (h.book s) p ≡ s → VoteKeeps (with_cast h c) c s p
  new_cast_keeps s p a below own = elim (n.acked s p a) [
    | Kept x ↦
        let t : term_at d.log p ≡ s = sym (agree_term p p (h.book s) d.log (omega arith) x) ∙ own in
        let r = n.log.rises p (length d.log) x.right (omega arith) in
        elim may.asked [
          | Later y ↦ Newer (omega arith)
          | Longer y z ↦ elim (cases_lt s c.asked.term) [ inl lt ↦ Newer lt | inr ge ↦ As_new (omega arith) (omega (arith, x.right)) ]
        ]
    | Cut_by u x le ↦ Overruled u (record { led = x.led; later = x.later; lacks = x.lacks }) (omega (arith, may.of_term))
        (λ same g in_g by.
        let y = (k.elections u x.led).grants g in_g in
        let z = not_yet y.cast y.was_cast (y.by ∙ (by ∙ may.by)) in
        omega (arith, y.of_term))
  ]

  pub cast_keeps_history : IsHistory ring (with_cast h c)
  cast_keeps_history = record {
    elections = λ e in_e. let x = k.elections e in_e in won_stays ring id h (with_cast h c) cast_grows e in_e x (λ i low high. absurd (omega arith)) (grow_log ring id h (with_cast h c) cast_grows e.term e.term (h.book e.term) (omega arith) x.book);
    one_leader = k.one_leader;
    terms_once = k.terms_once;
    casts = λ e in_e. elim (Contains-push_cases h.casts c e in_e) [
      | inl old ↦ cast_stays ring id h (with_cast h c) cast_grows k e old (k.casts e old)
      | inr new ↦ subst (λ (w : Cast). IsCast ring (with_cast h c) w) new (record {
        of_region = may.of_region;
        self = elim may.self [
          | inl mine ↦ (c, Contains-push h.casts c, may.by ∙ sym mine, refl, refl)
          | inr other ↦ (other.0, cast_grows.casts other.0 other.1, other.2, other.3, other.4)
        ];
        keeps = λ s p a below own. new_cast_keeps s p (let b = no_new_acks c.voter s p a in rw may.by at b) below own;
      })
    ];
    valid = k.valid;
    one_vote = λ e f in_e in_f by is. elim (Contains-push_cases h.casts c e in_e) [
      | inl old ↦ elim (Contains-push_cases h.casts c f in_f) [
        | inl old_f ↦ k.one_vote e f old old_f by is
        | inr new_f ↦ absurd (let q = ap (λ (w : Cast). w.vote.term) new_f in let z = not_yet e old (by ∙ (ap (λ (w : Cast). w.voter) (sym new_f) ∙ may.by)) in omega arith)
      ]
      | inr new ↦ elim (Contains-push_cases h.casts c f in_f) [
        | inl old_f ↦ absurd (let q = ap (λ (w : Cast). w.vote.term) new in let z = not_yet f old_f (sym by ∙ (ap (λ (w : Cast). w.voter) (sym new) ∙ may.by)) in omega arith)
        | inr new_f ↦ sym new ∙ new_f
      ]
    ];
    sent = λ m in_m. sent_stays ring id h (with_cast h c) cast_grows m.from m.to m.body (k.sent m in_m);
    chosen = chosen_stays ring id h (with_cast h c) cast_grows (length h.chosen) h.chosen k.chosen;
  }
