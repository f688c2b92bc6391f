-- Two canonical sets with the same members agree at their first server and its first interval, whose ends are the least number that is there and the last before one that is missing; so on behind it.
use Rattle.std.proofs.Common.{◌≡◌, ℕ, ◌+◌, ◌<◌, ◌≤◌, Bool, true, false, ◌&&◌, ◌||◌, ◌==◌, List, [], ◌∷◌, length, refl, sym, ap, ap₂, subst, ◌∙◌, arith, inl, inr}
use Rattle.std.proofs.lemmas.Bool.{cases_lt}
use Rattle.std.proofs.lemmas.Bool.Decides.{nat_tests}
use Rattle.ring_types.specs.Gtids.{has}
use Rattle.ring_types.specs.declared.gtid_sets.Interval.{Interval}
use Rattle.ring_types.specs.declared.gtid_sets.ServerSet.{ServerSet}
use Rattle.gtid_set.specs.Canonical.{AreMerged, AreCanonicalFrom}
use Rattle.gtid_set.specs.Laws.{OneSetHasThem}
use Rattle.gtid_set.proofs.Begun.{none_held}
use Rattle.gtid_set.proofs.RangeMembers.{held}
use Rattle.gtid_set.proofs.ServerMembers.{none_server}

neither : (a b : ℕ) → (a < b → ⊥) → (b < a → ⊥) → a ≡ b
neither a b f g =
    elim (cases_lt a b) [
      | inl lt ↦ absurd (f lt)
      | inr le ↦ elim (cases_lt b a) [
        | inl lt ↦ absurd (g lt)
        | inr le2 ↦ omega arith
      ]
    ]

true_is_false : (b : Bool) → b ≡ true → b ≡ false → ⊥
true_is_false true t f = absurd cc
true_is_false false t f = absurd cc

first_held : (low : ℕ) (i : Interval) (is : List Interval) → AreMerged low (i ∷ is) → held i.first (i ∷ is) ≡ true
first_held low i is h = let a : i.first ≤ i.last = h.1 in grind (arith, nat_tests)

below_first : (low n : ℕ) (i : Interval) (is : List Interval) → AreMerged low (i ∷ is) → n < i.first → held n (i ∷ is) ≡ false
below_first low n i is h lt = let a : i.first ≤ i.last = h.1 in let more = none_held (i.last + 1) n is h.3 (omega arith) in grind (arith, nat_tests, more)

behind_last : (low : ℕ) (i : Interval) (is : List Interval) → AreMerged low (i ∷ is) → held (i.last + 1) (i ∷ is) ≡ false
behind_last low i is h = let more = none_held (i.last + 1) (i.last + 1) is h.3 (omega arith) in grind (arith, nat_tests, more)

inside : (n : ℕ) (i : Interval) (is : List Interval) → i.first ≤ n → n ≤ i.last → held n (i ∷ is) ≡ true
inside n i is a b = grind (arith, nat_tests)

others_same : (low : ℕ) (i : Interval) (is js : List Interval) → AreMerged low (i ∷ is) → AreMerged low (i ∷ js) → ((n : ℕ) → held n (i ∷ is) ≡ held n (i ∷ js)) → (n : ℕ) → held n is ≡ held n js
others_same low i is js h k same n =
    elim (cases_lt (i.last + 1) n) [
      | inl above ↦ let s = same n in grind (arith, nat_tests, s)
      | inr below ↦ none_held (i.last + 1) n is h.3 below ∙ sym (none_held (i.last + 1) n js k.3 below)
    ]

one_list : (low : ℕ) (is js : List Interval) → AreMerged low is → AreMerged low js → ((n : ℕ) → held n is ≡ held n js) → is ≡ js
one_list low [] [] h k same = refl
one_list low [] (j ∷ js) h k same = absurd (true_is_false (held j.first (j ∷ js)) (first_held low j js k) (sym (same j.first)))
one_list low (i ∷ is) [] h k same = absurd (true_is_false (held i.first (i ∷ is)) (first_held low i is h) (same i.first))
one_list low (i ∷ is) (j ∷ js) h k same =
    let not_less : i.first < j.first → ⊥ = λ lt. true_is_false (held i.first (i ∷ is)) (first_held low i is h) (same i.first ∙ below_first low i.first j js k lt) in
    let not_more : j.first < i.first → ⊥ = λ lt. true_is_false (held j.first (j ∷ js)) (first_held low j js k) (sym (same j.first) ∙ below_first low j.first i is h lt) in
    let first : i.first ≡ j.first = neither i.first j.first not_less not_more in
    let a : i.first ≤ i.last = h.1 in
    let b : j.first ≤ j.last = k.1 in
    let last_less : i.last < j.last → ⊥ = λ lt. true_is_false (held (i.last + 1) (j ∷ js)) (inside (i.last + 1) j js (omega arith) (omega arith)) (sym (same (i.last + 1)) ∙ behind_last low i is h) in
    let last_more : j.last < i.last → ⊥ = λ lt. true_is_false (held (j.last + 1) (i ∷ is)) (inside (j.last + 1) i is (omega arith) (omega arith)) (same (j.last + 1) ∙ behind_last low j js k) in
    let last : i.last ≡ j.last = neither i.last j.last last_less last_more in
    let one : i ≡ j = ap₂ (λ (x y : ℕ). record { first = x; last = y }) first last in
    let k' : AreMerged low (i ∷ js) = subst (λ (x : Interval). AreMerged low (x ∷ js)) (sym one) k in
    let same' : (n : ℕ) → held n (i ∷ is) ≡ held n (i ∷ js) = λ n. same n ∙ ap (λ (x : Interval). held n (x ∷ js)) (sym one) in
    ap₂ (λ (x : Interval) (xs : List Interval). x ∷ xs) one (one_list (i.last + 1) is js h.3 k'.3 (others_same low i is js h k' same'))

-- ---- servers
some_member : (low : ℕ) (s : ServerSet) (a : List ServerSet) → AreCanonicalFrom low (s ∷ a) → (n : ℕ) × (has (s ∷ a) s.server n ≡ true)
some_member low s a h = found s.intervals h.2 h.3
  where
    found : (is : List Interval) → 0 < length is → AreMerged 0 is → (n : ℕ) × (((s.server == s.server && held n is) || has a s.server n) ≡ true)
    found [] lt m = absurd (omega arith)
    found (i ∷ is) lt m = (i.first, (let f = first_held 0 i is m in grind (arith, nat_tests, f)))

own_members : (low n : ℕ) (s : ServerSet) (a : List ServerSet) → AreCanonicalFrom low (s ∷ a) → has (s ∷ a) s.server n ≡ held n s.intervals
own_members low n s a h = let none = none_server (s.server + 1) s.server n a h.4 (omega arith) in grind (arith, nat_tests, none)

not_before : (low : ℕ) (s t : ServerSet) (a b : List ServerSet) → AreCanonicalFrom low (s ∷ a) → AreCanonicalFrom low (t ∷ b) → ((x n : ℕ) → has (s ∷ a) x n ≡ has (t ∷ b) x n) → s.server < t.server → ⊥
not_before low s t a b h k same lt =
    let whole : AreCanonicalFrom t.server (t ∷ b) = (omega arith, k.1, k.2, k.3, k.4) in
    let m = some_member low s a h in
    true_is_false (has (s ∷ a) s.server m.0) m.1 (same s.server m.0 ∙ none_server t.server s.server m.0 (t ∷ b) whole lt)

rest_same : (low : ℕ) (s t : ServerSet) (a b : List ServerSet) → s.server ≡ t.server → AreCanonicalFrom low (s ∷ a) → AreCanonicalFrom low (t ∷ b)
    → ((x n : ℕ) → has (s ∷ a) x n ≡ has (t ∷ b) x n) → (x n : ℕ) → has a x n ≡ has b x n
rest_same low s t a b e h k same x n =
    elim (cases_lt s.server x) [
      | inl above ↦ let w = same x n in grind (arith, nat_tests, w)
      | inr below ↦ none_server (s.server + 1) x n a h.4 (omega arith) ∙ sym (none_server (t.server + 1) x n b k.4 (omega arith))
    ]

one_set_from : (low : ℕ) (a b : List ServerSet) → AreCanonicalFrom low a → AreCanonicalFrom low b → ((x n : ℕ) → has a x n ≡ has b x n) → a ≡ b
one_set_from low [] [] h k same = refl
one_set_from low [] (t ∷ b) h k same = let m = some_member low t b k in absurd (true_is_false (has (t ∷ b) t.server m.0) m.1 (sym (same t.server m.0)))
one_set_from low (s ∷ a) [] h k same = let m = some_member low s a h in absurd (true_is_false (has (s ∷ a) s.server m.0) m.1 (same s.server m.0))
one_set_from low (s ∷ a) (t ∷ b) h k same =
    let server : s.server ≡ t.server = neither s.server t.server (not_before low s t a b h k same) (not_before low t s b a k h (λ x n. sym (same x n))) in
    let own : (n : ℕ) → held n s.intervals ≡ held n t.intervals =
    λ n. sym (own_members low n s a h) ∙ same s.server n ∙ ap (λ (x : ℕ). has (t ∷ b) x n) server ∙ own_members low n t b k in
    let intervals : s.intervals ≡ t.intervals = one_list 0 s.intervals t.intervals h.3 k.3 own in
    let one : s ≡ t = ap₂ (λ (x : ℕ) (is : List Interval). record { server = x; intervals = is }) server intervals in
    let k' : AreCanonicalFrom (s.server + 1) b = subst (λ (x : ℕ). AreCanonicalFrom (x + 1) b) (sym server) k.4 in
    ap₂ (λ (x : ServerSet) (xs : List ServerSet). x ∷ xs) one (one_set_from (s.server + 1) a b h.4 k' (rest_same low s t a b server h k same))

pub one_set_has_them : OneSetHasThem
one_set_has_them a b h k same = one_set_from 0 a b h k same
