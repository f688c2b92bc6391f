-- A leader's log with one more entry of its own keeps what it was up to its old length, so all that was said of the old log holds of the new one.
use Rattle.std.proofs.Common.{◌≡◌, ℕ, ◌<◌, ◌≤◌, ◌⊎◌, [], ◌∷◌, ◌++◌, ◌∙◌, List, Some, ap, arith, inl, inr, length, length-append, refl, subst, suc, sym, zero}
use Rattle.std.proofs.lemmas.Bool.{cases_lt}
use Rattle.std.specs.List.{Contains}
use Rattle.std.specs.Prelude.{slice_get}
use Rattle.ring_types.specs.declared.entries.Entry.{Entry}
use Rattle.ring_types.specs.Rings.{Layout, region_of}
use Rattle.ring_types.specs.Logs.{entry_at, region_at, term_at}
use Rattle.ring_model.specs.Safety.{Agree}
use Rattle.ring_model.specs.declared.nodes.Durable.{Durable}
use Rattle.ring_model.specs.Runs.{Election}
use Rattle.ring_model.specs.declared.messages.Message.{Message}
use Rattle.ring_model.proofs.Invariant.{As_leader, By_reply, Cast, Cut_by, HasAcked, History, IsBookedLog, IsEntryOf, IsHistory, IsNode, IsSealed, KeepsAcked, Kept, Nothing_yet, Sealed_at}
use Rattle.ring_model.proofs.Growth.{Grows, agree_sym, agree_term, agree_trans, grow_entry, grow_keeps, grow_sealed}
use Rattle.ring_model.proofs.Following.{agree_more, agree_same}

term_at_more : (k : ℕ) (l r : List Entry) → k ≤ length l → term_at (l ++ r) k ≡ term_at l k
term_at_more k l r le = sym (agree_term k k l (l ++ r) (omega arith) (agree_more k l r le))

region_at_more : (home k : ℕ) (l r : List Entry) → 0 < k → k ≤ length l → region_at home (l ++ r) k ≡ region_at home l k
region_at_more home zero l r some le = absurd (omega arith)
region_at_more home (suc k) [] r some le = absurd (omega arith)
region_at_more home (suc zero) (e ∷ l) r some le = refl
region_at_more home (suc (suc k)) (e ∷ l) r some le = region_at_more home (suc k) l r (omega arith) (omega arith)

get_more : (k : ℕ) (l r : List Entry) → k < length l → slice_get (l ++ r) k ≡ slice_get l k
get_more k [] r lt = absurd (omega arith)
get_more zero (e ∷ l) r lt = refl
get_more (suc k) (e ∷ l) r lt = get_more k l r (omega arith)

pub entry_more : (l r : List Entry) (k : ℕ) (e : Entry) → entry_at l k ≡ Some e → entry_at (l ++ r) k ≡ Some e
entry_more l r zero e is = absurd cc
entry_more [] r (suc k) e is = absurd cc
entry_more (x ∷ l) r (suc zero) e is = is
entry_more (x ∷ l) r (suc (suc k)) e is = entry_more l r (suc k) e is

-- the entry after a log
pub term_at_end : (l : List Entry) (x : Entry) → term_at (l ++ x ∷ []) (suc (length l)) ≡ x.opid.term
term_at_end [] x = refl
term_at_end (e ∷ l) x = term_at_end l x

region_at_end : (home : ℕ) (l : List Entry) (x : Entry) → region_at home (l ++ x ∷ []) (suc (length l)) ≡ x.region
region_at_end home [] x = refl
region_at_end home (e ∷ l) x = region_at_end home l x

pub get_end : (l : List Entry) (x : Entry) → slice_get (l ++ x ∷ []) (length l) ≡ Some x
get_end [] x = refl
get_end (e ∷ l) x = get_end l x

pub length_push : (l : List Entry) (x : Entry) → length (l ++ x ∷ []) ≡ suc (length l)
length_push l x = omega (arith, length-append l (x ∷ []))

-- ---- the log of a leader after its own entry x
module _ (ring : Layout) (h g : History) (id : ℕ) (d : Durable) (x : Entry) (e : Election) (grows : Grows id h g) (n : IsNode ring h id d)
    (book_is : g.book d.term ≡ d.log ++ x ∷ []) (led : Contains g.elections e) (by : e.node ≡ id) (of_term : e.term ≡ d.term)
    (x_term : x.opid.term ≡ d.term) (x_region : x.region ≡ region_of ring id) (x_place : x.opid.position ≡ suc (length d.log)) where
  abbrev longer : List Entry
  longer = d.log ++ x ∷ []

  push_entry : (k : ℕ) → 0 < k → k ≤ length longer → IsEntryOf ring g longer k
  push_entry k some high = elim (cases_lt (length d.log) k) [
    | inl past ↦
        let is : k ≡ suc (length d.log) = omega (arith, length_push d.log x) in
        let t : term_at longer (suc (length d.log)) ≡ d.term = term_at_end d.log x ∙ x_term in
        subst (IsEntryOf ring g longer) (sym is) (record {
          election = e;
          led = led;
          of_term = of_term ∙ sym t;
          of_region = region_at_end ring.home d.log x ∙ (x_region ∙ ap (region_of ring) (sym by));
          in_book = subst (λ (w : ℕ). Agree (suc (length d.log)) longer (g.book w)) (sym t)
              (subst (λ (b : List Entry). Agree (suc (length d.log)) longer b) (sym book_is) (agree_same (suc (length d.log)) longer (omega (arith, length_push d.log x))));
          place = λ y here. let z : x ≡ y = (let w : Some x ≡ Some y = sym (get_end d.log x) ∙ here in cc) in ap (λ (w : Entry). w.opid.position) (sym z)
              ∙ x_place;
        })
    | inr le ↦
        let y = grow_entry ring id h g grows d.log k (n.log.entry k some le) in
        let same = term_at_more k d.log (x ∷ []) le in
        record {
          election = y.election;
          led = y.led;
          of_term = y.of_term ∙ sym same;
          of_region = region_at_more ring.home k d.log (x ∷ []) some le ∙ y.of_region;
          in_book = subst (λ (w : ℕ). Agree k longer (g.book w)) (sym same)
              (agree_trans k longer d.log (g.book (term_at d.log k)) (agree_sym k d.log longer (agree_more k d.log (x ∷ []) le)) y.in_book);
          place = place_old k some le y.place;
        }
  ]
    where
      place_old : (k : ℕ) → 0 < k → k ≤ length d.log → ((z : Entry) → entry_at d.log k ≡ Some z → z.opid.position ≡ k) → (z : Entry)
          → entry_at longer k ≡ Some z → z.opid.position ≡ k
      place_old zero some le f z is = absurd (omega arith)
      place_old (suc k) some le f z is = f z (sym (get_more k d.log (x ∷ []) (omega arith)) ∙ is)

  term_longer : (k : ℕ) → 0 < k → k ≤ length longer
      → (term_at longer k ≡ d.term) × (length d.log < k) ⊎ (term_at longer k ≡ term_at d.log k) × (k ≤ length d.log)
  term_longer k some high = elim (cases_lt (length d.log) k) [
    | inl past ↦
        let is : k ≡ suc (length d.log) = omega (arith, length_push d.log x) in
        inl (ap (term_at longer) is ∙ (term_at_end d.log x ∙ x_term), past)
    | inr le ↦ inr (term_at_more k d.log (x ∷ []) le, le)
  ]

  pub push_log : IsBookedLog ring g d.term longer
  push_log = record {
    entry = push_entry;
    rises = rises;
    below = omega (arith, ap (term_at longer) (length_push d.log x), term_at_end d.log x, x_term);
  }
    where
      low : (j : ℕ) → j ≤ length d.log → term_at d.log j ≤ d.term
      low j le = omega (arith, n.log.rises j (length d.log) le (omega arith), n.log.below)

      rises : (j k : ℕ) → j ≤ k → k ≤ length longer → term_at longer j ≤ term_at longer k
      rises zero k le high = omega arith
      rises (suc j) k le high = elim (term_longer k (omega arith) high) [
        | inl new ↦ elim (term_longer (suc j) (omega arith) (omega arith)) [ inl new_j ↦ omega (arith, new.0, new_j.0) | inr old_j ↦ omega (arith, new.0, old_j.0, low (suc j) old_j.1) ]
        | inr old ↦ omega (arith, old.0, term_at_more (suc j) d.log (x ∷ []) (omega (arith, old.1)), n.log.rises (suc j) k le old.1)
      ]

  seal_more : (c : ℕ) → IsSealed ring h d.term c d.log → IsSealed ring g d.term c longer
  seal_more c s = elim (grow_sealed ring id h g grows d.term d.term c d.log (omega arith) s) [
    | Nothing_yet z ↦ Nothing_yet z
    | Sealed_at s p a b m y ↦ Sealed_at s p a b m (agree_trans c longer d.log (g.book s) (agree_sym c d.log longer (agree_more c d.log (x ∷ []) y.left)) y)
  ]

  module _ (k : IsHistory ring h) (old_casts : (c : Cast) → Contains g.casts c → Contains h.casts c)
      (old_messages : (m : Message) → Contains g.messages m → Contains h.messages m)
      (once : (f : Election) → Contains g.elections f → f.node ≡ id → f.term ≤ d.term)
      (others : (f : Election) (s : ℕ) → Contains g.elections f → f.node ≡ id → f.term ≡ s → s < d.term → (Contains h.elections f) × (g.book s ≡ h.book s)) where
    acked_old : (s p : ℕ) → HasAcked h id s p → KeepsAcked g (record d { log = longer }) s p
    acked_old s p a = elim (grow_keeps ring id h g grows k d id s p a (n.acked s p a)) [
      | Kept y ↦ Kept (agree_trans p (g.book s) d.log longer y (agree_more p d.log (x ∷ []) y.right))
      | Cut_by u o le ↦ Cut_by u o le
    ]

    pub lead_keeps : IsNode ring g id (record d { log = longer })
    lead_keeps = record {
      log = push_log;
      led_below = once;
      led_log = λ f in_f mine t. sym (ap g.book t ∙ book_is);
      cast_below = λ c in_c mine. n.cast_below c (old_casts c in_c) mine;
      cast_kept = λ c in_c mine t. n.cast_kept c (old_casts c in_c) mine t;
      votes_cast = λ w in_w. let y = n.votes_cast w in_w in (y.0, grows.casts y.0 y.1, y.2, y.3);
      dropped = λ c in_c mine. elim (n.dropped c (old_casts c in_c) mine) [
        | inl kept ↦ inl kept
        | inr gone ↦ inr (record { at = gone.at; sealed = seal_more gone.at gone.sealed; above = omega (arith, gone.above, dropped_term gone.at gone.sealed) })
      ];
      between = λ c f in_c in_f by_c by_f t low high. n.between c f (old_casts c in_c) (old_casts f in_f) by_c by_f t low high;
      acked_below = λ s p a. elim a [
        | As_leader f in_f t mine le ↦ omega (arith, once f in_f mine)
        | By_reply m q in_m from body le ↦ n.acked_below s p (By_reply m q (old_messages m in_m) from body le)
      ];
      acked = λ s p a. elim a [
        | As_leader f in_f t mine le ↦ elim (cases_lt s d.term) [
          | inl lt ↦ let o = others f s in_f mine t lt in acked_old s p (As_leader f o.0 t mine (subst (λ (b : List Entry). p ≤ length b) o.1 le))
          | inr ge ↦
              let same : s ≡ d.term = omega (arith, once f in_f mine) in
              let is : g.book s ≡ longer = ap g.book same ∙ book_is in
              Kept (subst (λ (b : List Entry). Agree p b longer) (sym is) (agree_same p longer (subst (λ (b : List Entry). p ≤ length b) is le)))
        ]
        | By_reply m q in_m from body le ↦ acked_old s p (By_reply m q (old_messages m in_m) from body le)
      ];
      applied = seal_more d.applied n.applied;
    }
      where
        dropped_term : (at : ℕ) → IsSealed ring h d.term at d.log → term_at longer at ≡ term_at d.log at
        dropped_term at (Nothing_yet z) = rw z refl
        dropped_term at (Sealed_at s p a b m y) = term_at_more at d.log (x ∷ []) y.left
