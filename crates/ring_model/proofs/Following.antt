-- A follower that takes a stretch of its leader's book into its log loses only what differs from the book, which nothing committed does.
use Rattle.std.proofs.Common.{◌≡◌, ℕ, ◌+◌, ◌<◌, ◌≤◌, ◌==◌, ◌⊎◌, [], ◌∷◌, ◌++◌, ◌∙◌, Bool, List, ap, arith, drop, false, inl, inr, length, length-append, refl, subst, suc, sym, take, take-add, true, zero}
use Rattle.std.proofs.lemmas.Bool.{cases_lt}
use Rattle.std.proofs.lemmas.List.{length-take-le, take-append-le, take-take}
use Rattle.std.proofs.lemmas.Bool.Decides.{nat_tests}
use Rattle.std.specs.List.{Contains}
use Rattle.std.specs.Prelude.{nat_lt, slice_get}
use Rattle.ring_types.specs.declared.entries.Entry.{Entry}
use Rattle.ring_types.specs.Rings.{Layout}
use Rattle.ring_types.specs.Logs.{entry_at, region_at, term_at}
use Rattle.ring_model.specs.Safety.{Agree}
use Rattle.ring_model.specs.declared.nodes.Durable.{Durable}
use Rattle.ring_model.specs.Runs.{Election}
use Rattle.ring_model.specs.Replication.{unmatched}
use Rattle.ring_model.proofs.Invariant.{Cut_by, HasAcked, History, IsBookedLog, IsHistory, IsNode, IsSealed, KeepsAcked, Kept, Nothing_yet, Sealed_at}
use Rattle.ring_model.proofs.Growth.{agree_less, agree_sym, agree_term, agree_trans, term_at_take}
use Rattle.ring_model.proofs.Cover.{committed_in_book}

pub window_cons : (q : ℕ) (b : List Entry) (e : Entry) (es : List Entry) → q < length b → e ∷ es ≡ take (suc (length es)) (drop q b) → (e.opid.term ≡ term_at b (suc q)) × (es ≡ take (length es) (drop (suc q) b))
window_cons zero [] e es lt is = absurd (omega arith)
window_cons zero (x ∷ b) e es lt is = (let y : e ≡ x = cc in ap (λ (w : Entry). w.opid.term) y, cc)
window_cons (suc q) [] e es lt is = absurd (omega arith)
window_cons (suc q) (x ∷ b) e es lt is = window_cons q b e es (omega arith) is

pub agree_same : (p : ℕ) (l : List Entry) → p ≤ length l → Agree p l l
agree_same p l le = record { left = le; right = le; same = refl }

pub agree_take : (p m : ℕ) (l : List Entry) → p ≤ m → m ≤ length l → Agree p l (take m l)
agree_take p m l a b = record { left = omega arith; right = omega (arith, length-take-le m l b); same = sym (take-take p m l a) }

pub agree_more : (p : ℕ) (l r : List Entry) → p ≤ length l → Agree p l (l ++ r)
agree_more p l r le = record { left = le; right = omega (arith, length-append l r); same = sym (take-append-le p l r le) }

-- log matching: logs with entries of one term at one place are the same up to there
pub log_match : (ring : Layout) (h : History) (t u p : ℕ) (a b : List Entry) → IsBookedLog ring h t a → IsBookedLog ring h u b → 0 < p → p ≤ length a → p ≤ length b → term_at a p ≡ term_at b p → Agree p a b
log_match ring h t u p a b x y some in_a in_b same =
    let c = (x.entry p some in_a).in_book in
    let d = (y.entry p some in_b).in_book in
    agree_trans p a (h.book (term_at a p)) b c (agree_sym p b (h.book (term_at a p)) (subst (λ (w : ℕ). Agree p b (h.book w)) (sym same) d))

pub record Merge (l b : List Entry) (q : ℕ) (es rest : List Entry) : Type 0 where
  pub kept : ℕ
  pub low : q ≤ kept
  pub count : kept + length rest ≡ q + length es
  pub agree : Agree kept l b
  pub window : rest ≡ take (length rest) (drop kept b)
  pub conflict : 0 < length rest → kept < length l → term_at l (suc kept) ≡ term_at b (suc kept) → ⊥

merge_at : (l b es : List Entry) (e : Entry) (q : ℕ) → q + length (e ∷ es) ≤ length b → Agree q l b → e ∷ es ≡ take (length (e ∷ es)) (drop q b)
    → (q < length l → term_at l (suc q) ≡ e.opid.term → ⊥) → Merge l b q (e ∷ es) (e ∷ es)
merge_at l b es e q fits a win bad = record {
  kept = q;
  low = omega arith;
  count = refl;
  agree = a;
  window = win;
  conflict = λ some lt same. bad lt (same ∙ sym (window_cons q b e es (omega arith) win).0);
}

pub merge : (ring : Layout) (h : History) (t u : ℕ) (l b es : List Entry) (q : ℕ) → IsBookedLog ring h t l → IsBookedLog ring h u b → q + length es ≤ length b → Agree q l b → es ≡ take (length es) (drop q b)
    → Merge l b q es (unmatched l q es)
merge ring h t u l b [] q x y fits a win = record { kept = q; low = omega arith; count = refl; agree = a; window = refl; conflict = λ some. absurd (omega arith) }
merge ring h t u l b (e ∷ es) q x y fits a win =
    go ring h t u l b e es q x y fits a win (merge ring h t u l b es (suc q)) (nat_lt q (length l)) refl (term_at l (suc q) == e.opid.term) refl
  where
    go : (ring : Layout) (h : History) (t u : ℕ) (l b : List Entry) (e : Entry) (es : List Entry) (q : ℕ) → IsBookedLog ring h t l → IsBookedLog ring h u b → q + length (e ∷ es) ≤ length b → Agree q l b
        → e ∷ es ≡ take (length (e ∷ es)) (drop q b)
        → (IsBookedLog ring h t l → IsBookedLog ring h u b → suc q + length es ≤ length b → Agree (suc q) l b → es ≡ take (length es) (drop (suc q) b) → Merge l b (suc q) es (unmatched l (suc q) es))
        → (c : Bool) → nat_lt q (length l) ≡ c → (d : Bool) → (term_at l (suc q) == e.opid.term) ≡ d → Merge l b q (e ∷ es) (unmatched l q (e ∷ es))
    go ring h t u l b e es q x y fits a win ih true is_c true is_d =
        let w = window_cons q b e es (omega arith) win in
        let lt : q < length l = grind (arith, nat_tests, is_c) in
        let te : term_at l (suc q) ≡ e.opid.term = grind (arith, nat_tests, is_d) in
        let m = ih x y (omega arith) (log_match ring h t u (suc q) l b x y (omega arith) (omega arith) (omega arith) (te ∙ w.0)) w.1 in
        rw (is_c, is_d) (record { kept = m.kept; low = omega (arith, m.low); count = omega (arith, m.count); agree = m.agree; window = m.window; conflict = m.conflict })
    go ring h t u l b e es q x y fits a win ih true is_c false is_d = rw (is_c, is_d) (merge_at l b es e q fits a win (λ lt same. grind (arith, nat_tests, is_d, same)))
    go ring h t u l b e es q x y fits a win ih false is_c d is_d = rw is_c (merge_at l b es e q fits a win (λ lt same. grind (arith, nat_tests, is_c, lt)))

-- ---- a log that changes as its leader's book says: a place is lost only where it differs from the book
abbrev pub IsFollowed : List Entry → List Entry → List Entry → Type 0
IsFollowed l m b = (j : ℕ) → j ≤ length l → Agree j l m ⊎ (Agree j l b → ⊥)

pub cut_followed : (l b es rest : List Entry) (q : ℕ) → (m : Merge l b q es rest) → 0 < length rest → IsFollowed l (take m.kept l) b
cut_followed l b es rest q m some j le = elim (cases_lt m.kept j) [
  | inl lt ↦ inr (λ a. m.conflict some (omega arith) (agree_term (suc m.kept) j l b (omega arith) a))
  | inr ge ↦ inl (agree_take j m.kept l ge m.agree.left)
]

pub more_followed : (l r b : List Entry) → IsFollowed l (l ++ r) b
more_followed l r b j le = inl (agree_more j l r le)

-- after the append the log is the book up to the last matched place
pub merged_is : (l b es rest : List Entry) (q : ℕ) → (m : Merge l b q es rest) → q + length es ≤ length b → take m.kept l ++ rest ≡ take (q + length es) b
merged_is l b es rest q m fits =
    let x : take (m.kept + length rest) b ≡ take m.kept b ++ take (length rest) (drop m.kept b) = take-add m.kept (length rest) b in
    ap (λ w. w ++ rest) m.agree.same ∙ (ap (λ w. take m.kept b ++ w) m.window ∙ (sym x ∙ ap (λ n. take n b) m.count))

region_at_take : (home k p : ℕ) (l : List Entry) → k ≤ p → region_at home (take p l) k ≡ region_at home l k
region_at_take home zero p l le = refl
region_at_take home (suc k) zero l le = absurd (omega arith)
region_at_take home (suc k) (suc p) [] le = refl
region_at_take home (suc zero) (suc p) (e ∷ l) le = refl
region_at_take home (suc (suc k)) (suc p) (e ∷ l) le = region_at_take home (suc k) p l (omega arith)

get_take : (k p : ℕ) (l : List Entry) → k < p → slice_get (take p l) k ≡ slice_get l k
get_take k zero l lt = absurd (omega arith)
get_take k (suc p) [] lt = refl
get_take zero (suc p) (e ∷ l) lt = refl
get_take (suc k) (suc p) (e ∷ l) lt = get_take k p l (omega arith)

pub entry_at_take : (k p : ℕ) (l : List Entry) → k ≤ p → entry_at (take p l) k ≡ entry_at l k
entry_at_take zero p l le = refl
entry_at_take (suc k) p l le = get_take k p l (omega arith)

-- a beginning of a log is a log
pub log_take : (ring : Layout) (h : History) (t m : ℕ) (l : List Entry) → m ≤ length l → IsBookedLog ring h t l → IsBookedLog ring h t (take m l)
log_take ring h t m l le x =
    let n : length (take m l) ≡ m = length-take-le m l le in
    record {
      entry = λ k some high.
          let y = x.entry k some (omega arith) in
          let same = term_at_take k m l (omega arith) in
          record {
            election = y.election;
            led = y.led;
            of_term = y.of_term ∙ sym same;
            of_region = region_at_take ring.home k m l (omega arith) ∙ y.of_region;
            in_book = subst (λ (w : ℕ). Agree k (take m l) (h.book w)) (sym same) (agree_trans k (take m l) l (h.book (term_at l k)) (agree_sym k l (take m l) (agree_take k m l (omega arith) le)) y.in_book);
            place = λ e is. y.place e (sym (entry_at_take k m l (omega arith)) ∙ is);
          };
      rises = λ j k a b. omega (arith, x.rises j k a (omega arith), term_at_take j m l (omega arith), term_at_take k m l (omega arith));
      below = omega (arith, x.below, x.rises m (length l) le (omega arith), term_at_take (length (take m l)) m l (omega arith), ap (term_at l) n);
    }

module _ (ring : Layout) (h : History) (id : ℕ) (d : Durable) (m : List Entry) (k : IsHistory ring h) (n : IsNode ring h id d) (e : Election) (led : Contains h.elections e) (is : e.term ≡ d.term)
    (not_mine : e.node ≡ id → ⊥) (follows : IsFollowed d.log m (h.book d.term)) (log : IsBookedLog ring h d.term m) where
  pub seal_follows : (c : ℕ) → IsSealed ring h d.term c d.log → IsSealed ring h d.term c m
  seal_follows c (Nothing_yet z) = Nothing_yet z
  seal_follows c (Sealed_at s p a b x y) =
      let in_book = committed_in_book ring h k s p d.term e x led is a in
      elim (follows c y.left) [
        | inl kept ↦ Sealed_at s p a b x (agree_trans c m d.log (h.book s) (agree_sym c d.log m kept) y)
        | inr lost ↦ absurd (lost (agree_trans c d.log (h.book s) (h.book d.term) y (agree_less c p (h.book s) (h.book d.term) b in_book)))
      ]

  seal_term : (c : ℕ) → IsSealed ring h d.term c d.log → term_at d.log c ≡ term_at m c
  seal_term c (Nothing_yet z) = rw z refl
  seal_term c (Sealed_at s p a b x y) =
      let in_book = committed_in_book ring h k s p d.term e x led is a in
      elim (follows c y.left) [
        | inl kept ↦ agree_term c c d.log m (omega arith) kept
        | inr lost ↦ absurd (lost (agree_trans c d.log (h.book s) (h.book d.term) y (agree_less c p (h.book s) (h.book d.term) b in_book)))
      ]

  acked_follows : (s p : ℕ) → HasAcked h id s p → KeepsAcked h d s p → KeepsAcked h (record d { log = m }) s p
  acked_follows s p a (Cut_by u x le) = Cut_by u x le
  acked_follows s p a (Kept x) = elim (follows p x.right) [
    | inl kept ↦ Kept (agree_trans p (h.book s) d.log m x kept)
    | inr lost ↦
        let le = n.acked_below s p a in
        elim (cases_lt s d.term) [
          | inl lt ↦ Cut_by e (record {
            led = led;
            later = omega arith;
            lacks = λ y. lost (agree_trans p d.log e.base (h.book d.term) (agree_trans p d.log (h.book s) e.base (agree_sym p (h.book s) d.log x) y)
                (agree_less p (length e.base) e.base (h.book d.term) y.right (subst (λ (t : ℕ). Agree (length e.base) e.base (h.book t)) is (k.elections e led).in_book)));
          }) (omega arith)
          | inr ge ↦
              let same : s ≡ d.term = omega arith in
              absurd (lost (agree_sym p (h.book d.term) d.log (subst (λ (t : ℕ). Agree p (h.book t) d.log) same x)))
        ]
  ]

  pub follow_keeps : IsNode ring h id (record d { log = m })
  follow_keeps = record {
    log = log;
    led_below = n.led_below;
    led_log = λ f in_f by t. absurd (not_mine (ap (λ (w : Election). w.node) (k.one_leader e f led in_f (is ∙ sym t)) ∙ by));
    cast_below = n.cast_below;
    cast_kept = n.cast_kept;
    votes_cast = n.votes_cast;
    dropped = λ c in_c by. elim (n.dropped c in_c by) [
      | inl kept ↦ inl kept
      | inr gone ↦ inr (record { at = gone.at; sealed = seal_follows gone.at gone.sealed; above = omega (arith, gone.above, seal_term gone.at gone.sealed) })
    ];
    between = n.between;
    acked_below = n.acked_below;
    acked = λ s p a. acked_follows s p a (n.acked s p a);
    applied = seal_follows d.applied n.applied;
  }
