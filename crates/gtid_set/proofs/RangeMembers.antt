-- A range joins only intervals that it touches, so that between them no number is gained; a number that is cut out parts one interval. The lists stay merged.
use Rattle.std.proofs.Common.{◌≡◌, ℕ, ◌+◌, ◌-◌, ◌<◌, ◌≤◌, Bool, true, false, cond, not, ◌&&◌, ◌||◌, ◌==◌, List, [], ◌∷◌, ◌++◌, length, max, min, nat_lt, nat_le, refl, arith}
use Rattle.std.specs.List.{list_any}
use Rattle.std.proofs.lemmas.Bool.Decides.{nat_tests}
use Rattle.ring_types.specs.Gtids.{interval_has}
use Rattle.ring_types.specs.declared.limits.TheConstants.{LAST_GTID}
use Rattle.ring_types.specs.declared.gtid_sets.Interval.{Interval}
use Rattle.gtid_set.specs.Canonical.{AreMerged}
use Rattle.gtid_set.specs.Ranges.{swallowed, put_first, with_range, part_below, part_above, cut_out, without}
use Rattle.gtid_set.proofs.Begun.{none_held}

abbrev pub held : ℕ → List Interval → Bool
held n is = list_any (interval_has n) is

abbrev pub between : ℕ → ℕ → ℕ → Bool
between a b n = nat_le a n && nat_le n b

-- ---- the members of a range put in
swallowed-held : (low a b m : ℕ) (is : List Interval) → AreMerged low is → a ≤ low → a ≤ b → held m (swallowed a b is) ≡ (between a b m || held m is)
swallowed-held low a b m [] h le ab = refl
swallowed-held low a b m (i ∷ is) h le ab =
    let l : low < i.first = h.0 in
    let f : i.first ≤ i.last = h.1 in
    let more = swallowed-held (i.last + 1) a (max b i.last) m is h.3 (omega arith) (omega arith) in
    grind (arith, nat_tests, more)

put_first-held : (low a b m : ℕ) (i : Interval) (is : List Interval) → AreMerged low (i ∷ is) → a ≤ i.last + 1 → a ≤ b
    → held m (put_first a b (i ∷ is)) ≡ (between a b m || held m (i ∷ is))
put_first-held low a b m i is h le ab =
    let l : low < i.first = h.0 in
    let f : i.first ≤ i.last = h.1 in
    let more = swallowed-held (i.last + 1) (min i.first a) (max b i.last) m is h.3 (omega arith) (omega arith) in
    grind (arith, nat_tests, more)

range_held_by : (low a b m : ℕ) (i : Interval) (is : List Interval) (t : Bool) → nat_lt i.last (a - 1) ≡ t → AreMerged low (i ∷ is) → a ≤ b
    → held m (with_range a b is) ≡ (between a b m || held m is) → held m (cond t (i ∷ with_range a b is) (put_first a b (i ∷ is))) ≡ (between a b m || held m (i ∷ is))
range_held_by low a b m i is true k h ab more = grind (arith, nat_tests, more)
range_held_by low a b m i is false k h ab more = put_first-held low a b m i is h (grind (arith, nat_tests, k)) ab

pub with_range-held : (low a b m : ℕ) (is : List Interval) → AreMerged low is → a ≤ b → held m (with_range a b is) ≡ (between a b m || held m is)
with_range-held low a b m [] h ab = refl
with_range-held low a b m (i ∷ is) h ab = range_held_by low a b m i is (nat_lt i.last (a - 1)) refl h ab (with_range-held (i.last + 1) a b m is h.3 ab)

-- ---- a range put in leaves the intervals merged
swallow_by : (under low a b : ℕ) (i : Interval) (is : List Interval) (t : Bool) → nat_le i.first (b + 1) ≡ t → AreMerged low (i ∷ is) → a ≤ low → under < a → a ≤ b → b ≤ LAST_GTID
    → AreMerged under (swallowed a (max b i.last) is) → AreMerged under (cond t (swallowed a (max b i.last) is) (record { first = a; last = b } ∷ (i ∷ is)))
swallow_by under low a b i is true k h al ua ab top more = more
swallow_by under low a b i is false k h al ua ab top more = (ua, ab, top, (let gap : b + 1 < i.first = grind (arith, nat_tests, k) in gap, h.1, h.2, h.3))

swallowed-merged : (under low a b : ℕ) (is : List Interval) → AreMerged low is → a ≤ low → under < a → a ≤ b → b ≤ LAST_GTID → AreMerged under (swallowed a b is)
swallowed-merged under low a b [] h al ua ab top = (ua, ab, top, tt)
swallowed-merged under low a b (i ∷ is) h al ua ab top =
    let l : low < i.first = h.0 in
    let f : i.first ≤ i.last = h.1 in
    let e : i.last ≤ LAST_GTID = h.2 in
    swallow_by under low a b i is (nat_le i.first (b + 1)) refl h al ua ab top
    (swallowed-merged under (i.last + 1) a (max b i.last) is h.3 (omega arith) ua (omega arith) (omega arith))

put_by : (low a b : ℕ) (i : Interval) (is : List Interval) (t : Bool) → nat_le i.first (b + 1) ≡ t → AreMerged low (i ∷ is) → low < a → a ≤ b → b ≤ LAST_GTID
    → AreMerged low (cond t (swallowed (min i.first a) (max b i.last) is) (record { first = a; last = b } ∷ (i ∷ is)))
put_by low a b i is true k h la ab top =
    let l : low < i.first = h.0 in
    let f : i.first ≤ i.last = h.1 in
    let e : i.last ≤ LAST_GTID = h.2 in
    swallowed-merged low (i.last + 1) (min i.first a) (max b i.last) is h.3 (omega arith) (omega arith) (omega arith) (omega arith)
put_by low a b i is false k h la ab top = (la, ab, top, (let gap : b + 1 < i.first = grind (arith, nat_tests, k) in gap, h.1, h.2, h.3))

merged_by : (low a b : ℕ) (i : Interval) (is : List Interval) (t : Bool) → nat_lt i.last (a - 1) ≡ t → AreMerged low (i ∷ is) → low < a → a ≤ b → b ≤ LAST_GTID
    → (i.last + 1 < a → AreMerged (i.last + 1) (with_range a b is)) → AreMerged low (cond t (i ∷ with_range a b is) (put_first a b (i ∷ is)))
merged_by low a b i is true k h la ab top more = (h.0, h.1, h.2, more (grind (arith, nat_tests, k)))
merged_by low a b i is false k h la ab top more = put_by low a b i is (nat_le i.first (b + 1)) refl h la ab top

pub with_range-merged : (low a b : ℕ) (is : List Interval) → AreMerged low is → low < a → a ≤ b → b ≤ LAST_GTID → AreMerged low (with_range a b is)
with_range-merged low a b [] h la ab top = (la, ab, top, tt)
with_range-merged low a b (i ∷ is) h la ab top =
    merged_by low a b i is (nat_lt i.last (a - 1)) refl h la ab top (λ k. with_range-merged (i.last + 1) a b is h.3 k ab top)

-- ---- some interval is left
some_by : (a b : ℕ) (i : Interval) (is : List Interval) (t : Bool) (ys : List Interval) → 0 < length ys → 0 < length (cond t ys (i ∷ is))
some_by a b i is true ys more = more
some_by a b i is false ys more = omega arith

swallowed-some : (a b : ℕ) (is : List Interval) → 0 < length (swallowed a b is)
swallowed-some a b [] = omega arith
swallowed-some a b (i ∷ is) = some_by a b (record { first = a; last = b }) (i ∷ is) (nat_le i.first (b + 1)) (swallowed a (max b i.last) is) (swallowed-some a (max b i.last) is)

put_first-some : (a b : ℕ) (is : List Interval) → 0 < length (put_first a b is)
put_first-some a b [] = omega arith
put_first-some a b (i ∷ is) =
    some_by a b (record { first = a; last = b }) (i ∷ is) (nat_le i.first (b + 1)) (swallowed (min i.first a) (max b i.last) is) (swallowed-some (min i.first a) (max b i.last) is)

range_some_by : (i : Interval) (xs ys : List Interval) (t : Bool) → 0 < length ys → 0 < length (cond t (i ∷ xs) ys)
range_some_by i xs ys true h = omega arith
range_some_by i xs ys false h = h

pub with_range-some : (a b : ℕ) (is : List Interval) → 0 < length (with_range a b is)
with_range-some a b [] = omega arith
with_range-some a b (i ∷ is) = range_some_by i (with_range a b is) (put_first a b (i ∷ is)) (nat_lt i.last (a - 1)) (put_first-some a b (i ∷ is))

-- ---- a number taken out
merged_lower : (low under : ℕ) (is : List Interval) → under ≤ low → AreMerged low is → AreMerged under is
merged_lower low under [] le h = tt
merged_lower low under (i ∷ is) le h = let l : low < i.first = h.0 in (omega arith, h.1, h.2, h.3)

parts_held : (n m : ℕ) (i : Interval) (is : List Interval) (s t : Bool) → nat_lt i.first n ≡ s → nat_lt n i.last ≡ t → i.first ≤ n → n ≤ i.last → held n is ≡ false
    → held m (cond s (record { first = i.first; last = n - 1 } ∷ []) [] ++ (cond t (record { first = n + 1; last = i.last } ∷ []) [] ++ is)) ≡ (held m (i ∷ is) && not (m == n))
parts_held n m i is true true a b low high none = grind (arith, nat_tests, a, b, none)
parts_held n m i is true false a b low high none = grind (arith, nat_tests, a, b, none)
parts_held n m i is false true a b low high none = grind (arith, nat_tests, a, b, none)
parts_held n m i is false false a b low high none = grind (arith, nat_tests, a, b, none)

cut_held : (low n m : ℕ) (i : Interval) (is : List Interval) (t : Bool) → nat_lt n i.first ≡ t → AreMerged low (i ∷ is) → n ≤ i.last
    → held m (cond t (i ∷ is) (part_below n i ++ (part_above n i ++ is))) ≡ (held m (i ∷ is) && not (m == n))
cut_held low n m i is true k h le =
    let f : i.first ≤ i.last = h.1 in
    let none = none_held (i.last + 1) n is h.3 (omega arith) in
    grind (arith, nat_tests, k, none)
cut_held low n m i is false k h le =
    parts_held n m i is (nat_lt i.first n) (nat_lt n i.last) refl refl (grind (arith, nat_tests, k)) le (none_held (i.last + 1) n is h.3 (omega arith))

without_held_by : (low n m : ℕ) (i : Interval) (is : List Interval) (t : Bool) → nat_lt i.last n ≡ t → AreMerged low (i ∷ is) → held m (without n is) ≡ (held m is && not (m == n))
    → held m (cond t (i ∷ without n is) (cut_out n (i ∷ is))) ≡ (held m (i ∷ is) && not (m == n))
without_held_by low n m i is true k h more = grind (arith, nat_tests, k, more)
without_held_by low n m i is false k h more = cut_held low n m i is (nat_lt n i.first) refl h (grind (arith, nat_tests, k))

pub without-held : (low n m : ℕ) (is : List Interval) → AreMerged low is → held m (without n is) ≡ (held m is && not (m == n))
without-held low n m [] h = refl
without-held low n m (i ∷ is) h = without_held_by low n m i is (nat_lt i.last n) refl h (without-held (i.last + 1) n m is h.3)

above_merged : (low n : ℕ) (i : Interval) (is : List Interval) (t : Bool) → nat_lt n i.last ≡ t → AreMerged (i.last + 1) is → i.last ≤ LAST_GTID → low ≤ n → n ≤ i.last
    → AreMerged low (cond t (record { first = n + 1; last = i.last } ∷ []) [] ++ is)
above_merged low n i is true k h top le high = (omega arith, (let lt : n < i.last = grind (arith, nat_tests, k) in omega arith), top, h)
above_merged low n i is false k h top le high = merged_lower (i.last + 1) low is (omega arith) h

below_merged : (low n : ℕ) (i : Interval) (is : List Interval) (s t : Bool) → nat_lt i.first n ≡ s → nat_lt n i.last ≡ t → AreMerged low (i ∷ is) → i.first ≤ n → n ≤ i.last
    → AreMerged low (cond s (record { first = i.first; last = n - 1 } ∷ []) [] ++ (cond t (record { first = n + 1; last = i.last } ∷ []) [] ++ is))
below_merged low n i is true t a b h le high =
    let lt : i.first < n = grind (arith, nat_tests, a) in
    let top : i.last ≤ LAST_GTID = h.2 in
    (h.0, omega arith, omega arith, above_merged (n - 1 + 1) n i is t b h.3 h.2 (omega arith) high)
below_merged low n i is false t a b h le high = let l : low < i.first = h.0 in above_merged low n i is t b h.3 h.2 (omega arith) high

cut_merged : (low n : ℕ) (i : Interval) (is : List Interval) (t : Bool) → nat_lt n i.first ≡ t → AreMerged low (i ∷ is) → n ≤ i.last
    → AreMerged low (cond t (i ∷ is) (part_below n i ++ (part_above n i ++ is)))
cut_merged low n i is true k h le = h
cut_merged low n i is false k h le = below_merged low n i is (nat_lt i.first n) (nat_lt n i.last) refl refl h (grind (arith, nat_tests, k)) le

without_merged_by : (low n : ℕ) (i : Interval) (is : List Interval) (t : Bool) → nat_lt i.last n ≡ t → AreMerged low (i ∷ is) → AreMerged (i.last + 1) (without n is)
    → AreMerged low (cond t (i ∷ without n is) (cut_out n (i ∷ is)))
without_merged_by low n i is true k h more = (h.0, h.1, h.2, more)
without_merged_by low n i is false k h more = cut_merged low n i is (nat_lt n i.first) refl h (grind (arith, nat_tests, k))

pub without-merged : (low n : ℕ) (is : List Interval) → AreMerged low is → AreMerged low (without n is)
without-merged low n [] h = tt
without-merged low n (i ∷ is) h = without_merged_by low n i is (nat_lt i.last n) refl h (without-merged (i.last + 1) n is h.3)
