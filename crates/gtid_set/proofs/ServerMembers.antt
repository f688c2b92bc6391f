-- Servers ascend, so that those behind a place have none of an earlier server's numbers: a change at one server is a change of its numbers alone.
use Rattle.std.proofs.Common.{◌≡◌, ℕ, ◌+◌, ◌^◌, ◌<◌, ◌≤◌, Bool, true, false, cond, not, ◌&&◌, ◌||◌, ◌==◌, List, [], ◌∷◌, ◌++◌, nat_lt, refl, ap, ◌∙◌, arith}
use Rattle.std.proofs.lemmas.Bool.Decides.{nat_tests}
use Rattle.ring_types.specs.Gtids.{has}
use Rattle.ring_types.specs.declared.gtid_sets.Interval.{Interval}
use Rattle.ring_types.specs.declared.gtid_sets.ServerSet.{ServerSet}
use Rattle.gtid_set.specs.Canonical.{AreMerged, AreCanonicalFrom, IsCanonical}
use Rattle.gtid_set.specs.Ranges.{with_range, without}
use Rattle.gtid_set.specs.Servers.{lone, range_here, range_in, ranges_in, sets_in, left, number_here, number_out}
use Rattle.gtid_set.proofs.RangeMembers.{held, between, with_range-held, with_range-merged, with_range-some, without-held, without-merged}

pub none_server : (low x n : ℕ) (set : List ServerSet) → AreCanonicalFrom low set → x < low → has set x n ≡ false
none_server low x n [] h lt = refl
none_server low x n (s ∷ set) h lt =
    let l : low ≤ s.server = h.0 in
    let more = none_server (s.server + 1) x n set h.4 (omega arith) in
    grind (arith, nat_tests, more)

canonical_lower : (low under : ℕ) (set : List ServerSet) → under ≤ low → AreCanonicalFrom low set → AreCanonicalFrom under set
canonical_lower low under [] le h = tt
canonical_lower low under (s ∷ set) le h = let l : low ≤ s.server = h.0 in (omega arith, h.1, h.2, h.3, h.4)

-- ---- a range put in
here_has : (low server x m : ℕ) (i : Interval) (s : ServerSet) (set : List ServerSet) (t : Bool) → (s.server == server) ≡ t → AreCanonicalFrom low (s ∷ set) → i.first ≤ i.last
    → has (cond t (record { server = s.server; intervals = with_range i.first i.last s.intervals } ∷ set) (lone server i ∷ (s ∷ set))) x m
    ≡ (has (s ∷ set) x m || (x == server && between i.first i.last m))
here_has low server x m i s set true k h ab =
    let w = with_range-held 0 i.first i.last m s.intervals h.3 ab in
    grind (arith, nat_tests, k, w)
here_has low server x m i s set false k h ab = grind (arith, nat_tests, k)

in_has : (low server x m : ℕ) (i : Interval) (s : ServerSet) (set : List ServerSet) (t : Bool) → AreCanonicalFrom low (s ∷ set) → i.first ≤ i.last
    → has (range_in server i set) x m ≡ (has set x m || (x == server && between i.first i.last m))
    → has (cond t (s ∷ range_in server i set) (range_here server i (s ∷ set))) x m ≡ (has (s ∷ set) x m || (x == server && between i.first i.last m))
in_has low server x m i s set true h ab more = grind (arith, nat_tests, more)
in_has low server x m i s set false h ab more = here_has low server x m i s set (s.server == server) refl h ab

pub range_in-has : (low server x m : ℕ) (i : Interval) (set : List ServerSet) → AreCanonicalFrom low set → i.first ≤ i.last
    → has (range_in server i set) x m ≡ (has set x m || (x == server && between i.first i.last m))
range_in-has low server x m i [] h ab = grind (arith, nat_tests)
range_in-has low server x m i (s ∷ set) h ab = in_has low server x m i s set (nat_lt s.server server) h ab (range_in-has (s.server + 1) server x m i set h.4 ab)

here_canonical : (low server : ℕ) (i : Interval) (s : ServerSet) (set : List ServerSet) (t : Bool) → (s.server == server) ≡ t → nat_lt s.server server ≡ false → AreCanonicalFrom low (s ∷ set)
    → low ≤ server → server < 2 ^ 128 → AreMerged 0 (i ∷ [])
    → AreCanonicalFrom low (cond t (record { server = s.server; intervals = with_range i.first i.last s.intervals } ∷ set) (lone server i ∷ (s ∷ set)))
here_canonical low server i s set true k n h le fits one =
    (h.0, h.1, with_range-some i.first i.last s.intervals, with_range-merged 0 i.first i.last s.intervals h.3 one.0 one.1 one.2, h.4)
here_canonical low server i s set false k n h le fits one =
    let above : server + 1 ≤ s.server = grind (arith, nat_tests, k, n) in
    (le, fits, omega arith, one, (above, h.1, h.2, h.3, h.4))

in_canonical : (low server : ℕ) (i : Interval) (s : ServerSet) (set : List ServerSet) (t : Bool) → nat_lt s.server server ≡ t → AreCanonicalFrom low (s ∷ set)
    → low ≤ server → server < 2 ^ 128 → AreMerged 0 (i ∷ []) → (s.server + 1 ≤ server → AreCanonicalFrom (s.server + 1) (range_in server i set))
    → AreCanonicalFrom low (cond t (s ∷ range_in server i set) (range_here server i (s ∷ set)))
in_canonical low server i s set true k h le fits one more = (h.0, h.1, h.2, h.3, more (grind (arith, nat_tests, k)))
in_canonical low server i s set false k h le fits one more = here_canonical low server i s set (s.server == server) refl k h le fits one

pub range_in-canonical : (low server : ℕ) (i : Interval) (set : List ServerSet) → AreCanonicalFrom low set → low ≤ server → server < 2 ^ 128 → AreMerged 0 (i ∷ [])
    → AreCanonicalFrom low (range_in server i set)
range_in-canonical low server i [] h le fits one = (le, fits, omega arith, one, tt)
range_in-canonical low server i (s ∷ set) h le fits one =
    in_canonical low server i s set (nat_lt s.server server) refl h le fits one (λ k. range_in-canonical (s.server + 1) server i set h.4 k fits one)

-- ---- many ranges
abbrev one_of : (low : ℕ) (i : Interval) (is : List Interval) → AreMerged low (i ∷ is) → AreMerged 0 (i ∷ [])
one_of low i is h = let l : low < i.first = h.0 in (let z : 0 < i.first = omega arith in z, h.1, h.2, tt)

ranges_in-canonical : (low server : ℕ) (is : List Interval) (set : List ServerSet) → IsCanonical set → server < 2 ^ 128 → AreMerged low is → IsCanonical (ranges_in server is set)
ranges_in-canonical low server [] set h fits m = h
ranges_in-canonical low server (i ∷ is) set h fits m =
    ranges_in-canonical (i.last + 1) server is (range_in server i set) (range_in-canonical 0 server i set h (omega arith) fits (one_of low i is m)) fits m.3

or_shared : (a p b c : Bool) → ((a || (p && b)) || (p && c)) ≡ (a || (p && (b || c)))
or_shared true p b c = refl
or_shared false true b c = refl
or_shared false false b c = refl

ranges_in-has : (low server x m : ℕ) (is : List Interval) (set : List ServerSet) → IsCanonical set → server < 2 ^ 128 → AreMerged low is
    → has (ranges_in server is set) x m ≡ (has set x m || (x == server && held m is))
ranges_in-has low server x m [] set h fits g = grind (arith, nat_tests)
ranges_in-has low server x m (i ∷ is) set h fits g =
    ranges_in-has (i.last + 1) server x m is (range_in server i set) (range_in-canonical 0 server i set h (omega arith) fits (one_of low i is g)) fits g.3
    ∙ ap (λ (b : Bool). b || (x == server && held m is)) (range_in-has 0 server x m i set h g.1)
    ∙ or_shared (has set x m) (x == server) (between i.first i.last m) (held m is)

pub sets_in-canonical : (low : ℕ) (more set : List ServerSet) → IsCanonical set → AreCanonicalFrom low more → IsCanonical (sets_in more set)
sets_in-canonical low [] set h g = h
sets_in-canonical low (s ∷ more) set h g =
    sets_in-canonical (s.server + 1) more (ranges_in s.server s.intervals set) (ranges_in-canonical 0 s.server s.intervals set h g.1 g.3) g.4

or_more : (a p b c : Bool) → ((a || (p && b)) || c) ≡ (a || ((p && b) || c))
or_more true p b c = refl
or_more false p b c = refl

eq_turned : (a b : ℕ) → (a == b) ≡ (b == a)
eq_turned a b = grind (arith, nat_tests)

pub sets_in-has : (low x m : ℕ) (more set : List ServerSet) → IsCanonical set → AreCanonicalFrom low more → has (sets_in more set) x m ≡ (has set x m || has more x m)
sets_in-has low x m [] set h g = grind (arith, nat_tests)
sets_in-has low x m (s ∷ more) set h g =
    sets_in-has (s.server + 1) x m more (ranges_in s.server s.intervals set) (ranges_in-canonical 0 s.server s.intervals set h g.1 g.3) g.4
    ∙ ap (λ (b : Bool). b || has more x m) (ranges_in-has 0 s.server x m s.intervals set h g.1 g.3)
    ∙ ap (λ (b : Bool). (has set x m || (b && held m s.intervals)) || has more x m) (eq_turned x s.server)
    ∙ or_more (has set x m) (s.server == x) (held m s.intervals) (has more x m)

-- ---- a number taken out
untouched : (a b c : Bool) → (b ≡ true → a ≡ false) → a ≡ (a && not (b && c))
untouched true true c f = absurd (let e : true ≡ false = f refl in cc)
untouched true false c f = refl
untouched false b c f = refl

left_has : (server x m : ℕ) (ys : List Interval) (set : List ServerSet) → has (left server ys ++ set) x m ≡ ((server == x && held m ys) || has set x m)
left_has server x m [] set = grind (arith, nat_tests)
left_has server x m (i ∷ is) set = refl

out_here_has : (low server n x m : ℕ) (s : ServerSet) (set : List ServerSet) (t : Bool) → (s.server == server) ≡ t → nat_lt s.server server ≡ false → AreCanonicalFrom low (s ∷ set)
    → has (cond t (left s.server (without n s.intervals) ++ set) (s ∷ set)) x m ≡ (has (s ∷ set) x m && not (x == server && m == n))
out_here_has low server n x m s set true k f h =
    let same : s.server ≡ server = grind (arith, nat_tests, k) in
    let w = without-held 0 n m s.intervals h.3 in
    let none = none_server (s.server + 1) s.server m set h.4 (omega arith) in
    left_has s.server x m (without n s.intervals) set
    ∙ ap (λ (b : Bool). (s.server == x && b) || has set x m) w
    ∙ cut_one (s.server == x) (x == server) (held m s.intervals) (m == n) (has set x m) (grind (arith, nat_tests, same)) (λ e. let at : x ≡ s.server = grind (arith, nat_tests, same, e) in ap (λ (y : ℕ). has set y m) at ∙ none)
  where
    cut_one : (p q a b r : Bool) → p ≡ q → (q ≡ true → r ≡ false) → ((p && (a && not b)) || r) ≡ (((p && a) || r) && not (q && b))
    cut_one true true a b true e none = absurd (let z : true ≡ false = none refl in cc)
    cut_one true true true true false e none = refl
    cut_one true true true false false e none = refl
    cut_one true true false b false e none = refl
    cut_one true false a b r e none = absurd cc
    cut_one false true a b r e none = absurd cc
    cut_one false false a b true e none = refl
    cut_one false false a b false e none = refl
out_here_has low server n x m s set false k f h =
    let above : server < s.server = grind (arith, nat_tests, k, f) in
    let whole : AreCanonicalFrom s.server (s ∷ set) = (omega arith, h.1, h.2, h.3, h.4) in
    untouched (has (s ∷ set) x m) (x == server) (m == n)
    (λ e. let at : x ≡ server = grind (arith, nat_tests, e) in ap (λ (y : ℕ). has (s ∷ set) y m) at ∙ none_server s.server server m (s ∷ set) whole above)

out_has : (low server n x m : ℕ) (s : ServerSet) (set : List ServerSet) (t : Bool) → nat_lt s.server server ≡ t → AreCanonicalFrom low (s ∷ set)
    → has (number_out server n set) x m ≡ (has set x m && not (x == server && m == n))
    → has (cond t (s ∷ number_out server n set) (number_here server n (s ∷ set))) x m ≡ (has (s ∷ set) x m && not (x == server && m == n))
out_has low server n x m s set true k h more = grind (arith, nat_tests, k, more)
out_has low server n x m s set false k h more = out_here_has low server n x m s set (s.server == server) refl k h

pub number_out-has : (low server n x m : ℕ) (set : List ServerSet) → AreCanonicalFrom low set → has (number_out server n set) x m ≡ (has set x m && not (x == server && m == n))
number_out-has low server n x m [] h = refl
number_out-has low server n x m (s ∷ set) h = out_has low server n x m s set (nat_lt s.server server) refl h (number_out-has (s.server + 1) server n x m set h.4)

left_canonical : (low server : ℕ) (ys : List Interval) (set : List ServerSet) → low ≤ server → server < 2 ^ 128 → AreMerged 0 ys → AreCanonicalFrom (server + 1) set
    → AreCanonicalFrom low (left server ys ++ set)
left_canonical low server [] set le fits g h = canonical_lower (server + 1) low set (omega arith) h
left_canonical low server (i ∷ is) set le fits g h = (le, fits, omega arith, g, h)

out_here_canonical : (low server n : ℕ) (s : ServerSet) (set : List ServerSet) (t : Bool) → AreCanonicalFrom low (s ∷ set)
    → AreCanonicalFrom low (cond t (left s.server (without n s.intervals) ++ set) (s ∷ set))
out_here_canonical low server n s set true h = left_canonical low s.server (without n s.intervals) set h.0 h.1 (without-merged 0 n s.intervals h.3) h.4
out_here_canonical low server n s set false h = h

out_canonical : (low server n : ℕ) (s : ServerSet) (set : List ServerSet) (t : Bool) → AreCanonicalFrom low (s ∷ set) → AreCanonicalFrom (s.server + 1) (number_out server n set)
    → AreCanonicalFrom low (cond t (s ∷ number_out server n set) (number_here server n (s ∷ set)))
out_canonical low server n s set true h more = (h.0, h.1, h.2, h.3, more)
out_canonical low server n s set false h more = out_here_canonical low server n s set (s.server == server) h

pub number_out-canonical : (low server n : ℕ) (set : List ServerSet) → AreCanonicalFrom low set → AreCanonicalFrom low (number_out server n set)
number_out-canonical low server n [] h = tt
number_out-canonical low server n (s ∷ set) h = out_canonical low server n s set (nat_lt s.server server) h (number_out-canonical (s.server + 1) server n set h.4)
