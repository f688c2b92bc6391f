-- A node that begins to lead, and a leader that adds an entry, keep the invariant: the book of its term becomes its log.
use Rattle.ring_model.proofs.Lists.{place_cases, placed_contains}
use Rattle.std.proofs.Common.{◌≡◌, ℕ, ◌≤◌, ◌==◌, ◌⊎◌, [], ◌∷◌, ◌++◌, ◌∙◌, if◌then◌else◌, List, Some, ap, arith, false, inl, inr, length, refl, subst, suc, sym, true}
use Rattle.std.proofs.lemmas.List.Elements.{Contains-append_left, Contains-push, Contains-push_cases}
use Rattle.std.proofs.lemmas.Bool.{cases_eq}
use Rattle.std.proofs.lemmas.Bool.Decides.{nat_tests}
use Rattle.std.specs.List.{Contains}
use Rattle.std.specs.Prelude.{slice_get}
use Rattle.ring_types.specs.declared.entries.Entry.{Entry}
use Rattle.ring_types.specs.Rings.{Layout, region_of}
use Rattle.ring_types.specs.Logs.{last, term_at}
use Rattle.ring_model.specs.Safety.{Agree}
use Rattle.ring_model.specs.declared.nodes.Durable.{Durable}
use Rattle.ring_model.specs.Runs.{Election}
use Rattle.ring_model.proofs.Invariant.{As_leader, By_reply, Cast, HasAcked, History, IsBookedLog, IsHistory, IsNode, IsWon}
use Rattle.ring_model.proofs.Growth.{Grows, cast_stays, chosen_stays, grow_grant, grow_log, sent_stays, won_stays}
use Rattle.ring_model.proofs.Cover.{IsElection, leader_once}
use Rattle.ring_model.proofs.Following.{agree_more, agree_same}
use Rattle.ring_model.proofs.OwnEntry.{lead_keeps, length_push, push_log, term_at_end}

-- ---- the book of a term
abbrev pub with_book : History → ℕ → List Entry → History
with_book h t l = record h { book = λ s. if s == t then l else h.book s }

abbrev pub with_election : History → Election → List Entry → History
with_election h e l = record h { elections = h.elections ++ e ∷ []; book = λ s. if s == e.term then l else h.book s }

book_here : (h : History) (t : ℕ) (l : List Entry) → (with_book h t l).book t ≡ l
book_here h t l = let same : (t == t) ≡ true = grind (arith, nat_tests) in rw same refl

book_elsewhere : (h : History) (s t : ℕ) (l : List Entry) → (s ≡ t → ⊥) → (with_book h t l).book s ≡ h.book s
book_elsewhere h s t l other = let same : (s == t) ≡ false = grind (arith, nat_tests, other) in rw same refl

pub record MayLead (ring : Layout) (h : History) (id : ℕ) (d : Durable) (e : Election) (x : Entry) : Type 0 where
  pub election : IsElection ring h e
  pub by : e.node ≡ id
  pub of_term : e.term ≡ d.term
  pub base : e.base ≡ d.log
  pub new : (f : Election) → Contains h.elections f → f.node ≡ id → f.term ≡ d.term → ⊥
  pub x_term : x.opid.term ≡ d.term
  pub x_region : x.region ≡ region_of ring id
  pub x_place : x.opid.position ≡ suc (length d.log)

module _ (ring : Layout) (h : History) (id : ℕ) (d : Durable) (e : Election) (x : Entry) (k : IsHistory ring h) (n : IsNode ring h id d)
    (may : MayLead ring h id d e x) where
  abbrev led : History
  led = with_election h e (d.log ++ x ∷ [])

  no_leader : (f : Election) → Contains h.elections f → f.term ≡ e.term → ⊥
  no_leader f in_f t = may.new f in_f (sym (leader_once ring h k e f may.election in_f (sym t)) ∙ may.by) (t ∙ may.of_term)

  led_old : (f : Election) → Contains h.elections f → led.book f.term ≡ h.book f.term
  led_old f in_f = book_elsewhere h f.term e.term (d.log ++ x ∷ []) (no_leader f in_f)

  led_acks : (v s p : ℕ) → HasAcked led v s p → HasAcked h v s p ⊎ ((v ≡ id) × ((c : Cast) → Contains h.casts c → c.voter ≡ id → c.vote.term ≤ s))
  led_acks v s p (As_leader f in_f t by le) = elim (Contains-push_cases h.elections e f in_f) [
    | inl old ↦ inl (As_leader f old t by (subst (λ (b : List Entry). p ≤ length b) (ap led.book (sym t) ∙ (led_old f old ∙ ap h.book t)) le))
    | inr new ↦
        let q = ap (λ (w : Election). w.node) new in
        let r = ap (λ (w : Election). w.term) new in
        inr (sym by ∙ (sym q ∙ may.by), λ c in_c mine. omega (arith, n.cast_below c in_c mine, may.of_term))
  ]
  led_acks v s p (By_reply m q in_m by body le) = inl (By_reply m q in_m by body le)

  pub led_grows : Grows id h led
  led_grows = record {
    elections = λ f in_f. Contains-append_left h.elections (e ∷ []) f in_f;
    casts = λ c in_c. in_c;
    messages = λ m in_m. in_m;
    books = λ f in_f. subst (λ (b : List Entry). Agree (length (h.book f.term)) (h.book f.term) b) (sym (led_old f in_f))
        (agree_same (length (h.book f.term)) (h.book f.term) (omega arith));
    other_books = λ f in_f other. sym (led_old f in_f);
    chosen = omega arith;
    new_elections = λ f in_f. elim (Contains-push_cases h.elections e f in_f) [ inl old ↦ inl old | inr new ↦ inr (ap (λ (w : Election). w.node) (sym new) ∙ may.by) ];
    new_casts = λ c in_c. inl in_c;
    new_acks = led_acks;
  }

  led_book : led.book d.term ≡ d.log ++ x ∷ []
  led_book = ap led.book (sym may.of_term) ∙ book_here h e.term (d.log ++ x ∷ [])

  pub led_log : IsBookedLog ring led d.term (d.log ++ x ∷ [])
  led_log = push_log ring h led id d x e led_grows n led_book (Contains-push h.elections e) may.by may.of_term may.x_term may.x_region may.x_place

  pub led_node : IsNode ring led id (record d { log = d.log ++ x ∷ [] })
  led_node =
      lead_keeps ring h led id d x e led_grows n led_book (Contains-push h.elections e) may.by may.of_term may.x_term may.x_region may.x_place k
      (λ c in_c. in_c) (λ m in_m. in_m)
      (λ f in_f mine. elim (Contains-push_cases h.elections e f in_f) [ inl old ↦ n.led_below f old mine | inr new ↦ let q = ap (λ (w : Election). w.term) new in omega (arith, may.of_term) ])
      (λ f s in_f mine t lt. elim (Contains-push_cases h.elections e f in_f) [
        | inl old ↦ (old, book_elsewhere h s e.term (d.log ++ x ∷ []) (λ same. omega (arith, may.of_term)))
        | inr new ↦ absurd (let q = ap (λ (w : Election). w.term) new in omega (arith, may.of_term))
      ])

  led_once : (i j : ℕ) (f g : Election) → slice_get (h.elections ++ e ∷ []) i ≡ Some f → slice_get (h.elections ++ e ∷ []) j ≡ Some g → f.term ≡ g.term → i ≡ j
  led_once i j f g at_i at_j t = elim (place_cases h.elections e i f at_i) [
    | inl old ↦ elim (place_cases h.elections e j g at_j) [
      | inl old_g ↦ k.terms_once i j f g old old_g t
      | inr new_g ↦ absurd (no_leader f (placed_contains h.elections i f old) (t ∙ ap (λ (w : Election). w.term) (sym new_g.1)))
    ]
    | inr new ↦ elim (place_cases h.elections e j g at_j) [
      | inl old_g ↦ absurd (no_leader g (placed_contains h.elections j g old_g) (sym t ∙ ap (λ (w : Election). w.term) (sym new.1)))
      | inr new_g ↦ new.0 ∙ sym new_g.0
    ]
  ]

  pub led_history : IsHistory ring led
  led_history = record {
    elections = λ f in_f. elim (Contains-push_cases h.elections e f in_f) [
      | inl old ↦
          let y = k.elections f old in
          won_stays ring id h led led_grows f old y (λ i low high. absurd (omega (arith, ap length (led_old f old))))
          (subst (λ (b : List Entry). IsBookedLog ring led f.term b) (sym (led_old f old)) (grow_log ring id h led led_grows f.term f.term (h.book f.term) (omega arith) y.book))
      | inr new ↦ subst (IsWon ring led) new won_now
    ];
    one_leader = λ f g in_f in_g t. elim (Contains-push_cases h.elections e f in_f) [
      | inl old ↦ elim (Contains-push_cases h.elections e g in_g) [ inl old_g ↦ k.one_leader f g old old_g t | inr new_g ↦ absurd (no_leader f old (t ∙ ap (λ (w : Election). w.term) (sym new_g))) ]
      | inr new ↦ elim (Contains-push_cases h.elections e g in_g) [ inl old_g ↦ absurd (no_leader g old_g (sym t ∙ ap (λ (w : Election). w.term) (sym new))) | inr new_g ↦ sym new ∙ new_g ]
    ];
    terms_once = led_once;
    casts = λ c in_c. cast_stays ring id h led led_grows k c in_c (k.casts c in_c);
    valid = k.valid;
    one_vote = k.one_vote;
    sent = λ m in_m. sent_stays ring id h led led_grows m.from m.to m.body (k.sent m in_m);
    chosen = chosen_stays ring id h led led_grows (length h.chosen) h.chosen k.chosen;
  }
    where
      b_is : led.book e.term ≡ d.log ++ x ∷ []
      b_is = book_here h e.term (d.log ++ x ∷ [])

      won_now : IsWon ring led e
      won_now = record {
        won = may.election.won;
        base = grow_log ring id h led led_grows (last e.base).term (last e.base).term e.base (omega arith) may.election.base;
        base_below = may.election.base_below;
        grants = λ r in_r. grow_grant ring id h led led_grows e.node e.term (last e.base) r (may.election.grants r in_r);
        in_book = subst (λ (b : List Entry). Agree (length e.base) e.base b) (sym b_is)
            (subst (λ (b : List Entry). Agree (length b) b (d.log ++ x ∷ [])) (sym may.base) (agree_more (length d.log) d.log (x ∷ []) (omega arith)));
        longer = omega (arith, ap length b_is, ap length may.base, length_push d.log x);
        own = λ i low high.
            let is : i ≡ suc (length d.log) = omega (arith, ap length b_is, ap length may.base, length_push d.log x) in
            ap (λ (b : List Entry). term_at b i) b_is ∙ (ap (term_at (d.log ++ x ∷ [])) is ∙ (term_at_end d.log x ∙ (may.x_term ∙ sym may.of_term)));
        book = subst (λ (b : List Entry). IsBookedLog ring led e.term b) (sym b_is)
            (subst (λ (t : ℕ). IsBookedLog ring led t (d.log ++ x ∷ [])) (sym may.of_term) led_log);
      }

-- ---- a leader adds an entry
pub record MayAdd (ring : Layout) (h : History) (id : ℕ) (d : Durable) (e : Election) (x : Entry) : Type 0 where
  pub led : Contains h.elections e
  pub by : e.node ≡ id
  pub of_term : e.term ≡ d.term
  pub x_term : x.opid.term ≡ d.term
  pub x_region : x.region ≡ region_of ring id
  pub x_place : x.opid.position ≡ suc (length d.log)

module _ (ring : Layout) (h : History) (id : ℕ) (d : Durable) (e : Election) (x : Entry) (k : IsHistory ring h) (n : IsNode ring h id d)
    (may : MayAdd ring h id d e x) where
  abbrev added : History
  added = with_book h d.term (d.log ++ x ∷ [])

  book_was : h.book d.term ≡ d.log
  book_was = sym (n.led_log e may.led may.by may.of_term ∙ ap h.book may.of_term)

  added_books : (s : ℕ) → Agree (length (h.book s)) (h.book s) (added.book s)
  added_books s = elim (cases_eq s d.term) [
    | inl is ↦ subst (λ (t : ℕ). Agree (length (h.book t)) (h.book t) (added.book t)) (sym is)
        (subst (λ (b : List Entry). Agree (length b) b (added.book d.term)) (sym book_was)
        (subst (λ (b : List Entry). Agree (length d.log) d.log b) (sym (book_here h d.term (d.log ++ x ∷ []))) (agree_more (length d.log) d.log (x ∷ []) (omega arith))))
    | inr other ↦ subst (λ (b : List Entry). Agree (length (h.book s)) (h.book s) b) (sym (book_elsewhere h s d.term (d.log ++ x ∷ []) other)) (agree_same (length (h.book s)) (h.book s) (omega arith))
  ]

  mine_only : (f : Election) → Contains h.elections f → f.term ≡ d.term → f.node ≡ id
  mine_only f in_f t = ap (λ (w : Election). w.node) (k.one_leader f e in_f may.led (t ∙ sym may.of_term)) ∙ may.by

  added_acks : (v s p : ℕ) → HasAcked added v s p → HasAcked h v s p ⊎ ((v ≡ id) × ((c : Cast) → Contains h.casts c → c.voter ≡ id → c.vote.term ≤ s))
  added_acks v s p (As_leader f in_f t by le) = elim (cases_eq s d.term) [
    | inl is ↦ inr (sym by ∙ mine_only f in_f (t ∙ is), λ c in_c mine. omega (arith, n.cast_below c in_c mine))
    | inr other ↦ inl (As_leader f in_f t by (subst (λ (b : List Entry). p ≤ length b) (book_elsewhere h s d.term (d.log ++ x ∷ []) other) le))
  ]
  added_acks v s p (By_reply m q in_m by body le) = inl (By_reply m q in_m by body le)

  pub added_grows : Grows id h added
  added_grows = record {
    elections = λ f in_f. in_f;
    casts = λ c in_c. in_c;
    messages = λ m in_m. in_m;
    books = λ f in_f. added_books f.term;
    other_books = λ f in_f other. sym (book_elsewhere h f.term d.term (d.log ++ x ∷ []) (λ t. other (mine_only f in_f t)));
    chosen = omega arith;
    new_elections = λ f in_f. inl in_f;
    new_casts = λ c in_c. inl in_c;
    new_acks = added_acks;
  }

  pub added_log : IsBookedLog ring added d.term (d.log ++ x ∷ [])
  added_log = push_log ring h added id d x e added_grows n (book_here h d.term (d.log ++ x ∷ [])) may.led may.by may.of_term may.x_term may.x_region may.x_place

  pub added_node : IsNode ring added id (record d { log = d.log ++ x ∷ [] })
  added_node =
      lead_keeps ring h added id d x e added_grows n (book_here h d.term (d.log ++ x ∷ [])) may.led may.by may.of_term may.x_term may.x_region may.x_place k
      (λ c in_c. in_c) (λ m in_m. in_m)
      n.led_below (λ f s in_f mine t lt. (in_f, book_elsewhere h s d.term (d.log ++ x ∷ []) (λ same. omega arith)))

  pub added_history : IsHistory ring added
  added_history = record {
    elections = λ f in_f. let y = k.elections f in_f in elim (cases_eq f.term d.term) [
      | inl is ↦ won_stays ring id h added added_grows f in_f y
          (λ i low high.
          let b : added.book f.term ≡ d.log ++ x ∷ [] = ap added.book is ∙ book_here h d.term (d.log ++ x ∷ []) in
          let o : h.book f.term ≡ d.log = ap h.book is ∙ book_was in
          let j : i ≡ suc (length d.log) = omega (arith, ap length b, ap length o, length_push d.log x) in
          ap (λ (c : List Entry). term_at c i) b ∙ (ap (term_at (d.log ++ x ∷ [])) j ∙ (term_at_end d.log x ∙ (may.x_term ∙ sym is))))
          (subst (λ (t : ℕ). IsBookedLog ring added t (added.book t)) (sym is) (subst (λ (b : List Entry). IsBookedLog ring added d.term b) (sym (book_here h d.term (d.log ++ x ∷ []))) added_log))
      | inr other ↦
          let o = book_elsewhere h f.term d.term (d.log ++ x ∷ []) other in
          won_stays ring id h added added_grows f in_f y (λ i low high. absurd (omega (arith, ap length o)))
          (subst (λ (b : List Entry). IsBookedLog ring added f.term b) (sym o) (grow_log ring id h added added_grows f.term f.term (h.book f.term) (omega arith) y.book))
    ];
    one_leader = k.one_leader;
    terms_once = k.terms_once;
    casts = λ c in_c. cast_stays ring id h added added_grows k c in_c (k.casts c in_c);
    valid = k.valid;
    one_vote = k.one_vote;
    sent = λ m in_m. sent_stays ring id h added added_grows m.from m.to m.body (k.sent m in_m);
    chosen = chosen_stays ring id h added added_grows (length h.chosen) h.chosen k.chosen;
  }
