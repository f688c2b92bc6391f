-- The set that some GTIDs make is canonical: numbers and servers are put in order before they are joined, and a server is named only by one of its numbers.
use Rattle.std.proofs.Common.{◌≡◌, ℕ, ◌+◌, ◌^◌, ◌<◌, ◌≤◌, Bool, true, false, cond, ◌&&◌, ◌||◌, ◌==◌, List, [], ◌∷◌, ◌++◌, length, map, filter, fold, nat_lt, Option, Some, refl, sym, ap, ◌∙◌, arith}
use Rattle.std.specs.List.{cons_option, AllByRecursion}
use Rattle.std.proofs.lemmas.List.Elements.{filter_map-append}
use Rattle.std.proofs.lemmas.Bool.Decides.{nat_tests}
use Rattle.ring_types.specs.Gtids.{gtid_of, gtids, gtids_in, with_number, ascending, joined, intervals_of, numbers_of, server_set, set_of}
use Rattle.ring_types.specs.declared.limits.TheConstants.{LAST_GTID}
use Rattle.ring_types.specs.declared.values.Gtid.{Gtid}
use Rattle.ring_types.specs.declared.entries.Entry.{Entry}
use Rattle.ring_types.specs.declared.gtid_sets.Interval.{Interval}
use Rattle.gtid_set.specs.Canonical.{AreMerged, AreCanonicalFrom}
use Rattle.gtid_set.specs.Laws.{is_among, AreInRange, IsCanonicalOfAny, GrowsWithLog}
use Rattle.gtid_set.proofs.Has.{among, has_exactly_them}
use Rattle.gtid_set.proofs.OneSet.{one_set_has_them}

-- numbers that rise from one on, all below an end
abbrev RiseFrom : ℕ → ℕ → List ℕ → Type 0
RiseFrom low end [] = Unit {0}
RiseFrom low end (x ∷ xs) = (low ≤ x) × (x < end) × RiseFrom (x + 1) end xs

abbrev AreWithin : ℕ → ℕ → List ℕ → Type 0
AreWithin low end xs = AllByRecursion (λ (x : ℕ). (low ≤ x) × (x < end)) xs

with_rises : (low end n x : ℕ) (xs : List ℕ) (a b : Bool) → nat_lt n x ≡ a → (n == x) ≡ b → low ≤ n → n < end → RiseFrom low end (x ∷ xs)
    → (x + 1 ≤ n → RiseFrom (x + 1) end (with_number n xs)) → RiseFrom low end (cond a (n ∷ (x ∷ xs)) (cond b (x ∷ xs) (x ∷ with_number n xs)))
with_rises low end n x xs true b p q le lt h more = (le, lt, (let up : n + 1 ≤ x = grind (arith, nat_tests, p) in up, h.1, h.2))
with_rises low end n x xs false true p q le lt h more = h
with_rises low end n x xs false false p q le lt h more = (h.0, h.1, more (grind (arith, nat_tests, p, q)))

with_number-rises : (low end n : ℕ) (xs : List ℕ) → low ≤ n → n < end → RiseFrom low end xs → RiseFrom low end (with_number n xs)
with_number-rises low end n [] le lt h = (le, lt, tt)
with_number-rises low end n (x ∷ xs) le lt h =
    with_rises low end n x xs (nat_lt n x) (n == x) refl refl le lt h (λ k. with_number-rises (x + 1) end n xs k lt h.2)

fold-rises : (low end : ℕ) (acc xs : List ℕ) → RiseFrom low end acc → AreWithin low end xs → RiseFrom low end (fold (λ (ys : List ℕ) (n : ℕ). with_number n ys) acc xs)
fold-rises low end acc [] h w = h
fold-rises low end acc (x ∷ xs) h w = fold-rises low end (with_number x acc) xs (with_number-rises low end x acc w.0.0 w.0.1 h) w.1

ascending-rises : (low end : ℕ) (xs : List ℕ) → AreWithin low end xs → RiseFrom low end (ascending xs)
ascending-rises low end xs w = fold-rises low end [] xs tt w

-- ---- intervals
join_merged : (low n : ℕ) (i : Interval) (is : List Interval) (b : Bool) → (i.first == n + 1) ≡ b → low < n → n ≤ LAST_GTID → AreMerged n (i ∷ is)
    → AreMerged low (cond b (record { first = n; last = i.last } ∷ is) (record { first = n; last = n } ∷ (i ∷ is)))
join_merged low n i is true k lt top h = let a : n < i.first = h.0 in let b : i.first ≤ i.last = h.1 in (lt, omega arith, h.2, h.3)
join_merged low n i is false k lt top h = let a : n < i.first = h.0 in (lt, omega arith, top, (let gap : n + 1 < i.first = grind (arith, nat_tests, k) in gap, h.1, h.2, h.3))

joined-merged : (low n : ℕ) (is : List Interval) → low < n → n ≤ LAST_GTID → AreMerged n is → AreMerged low (joined n is)
joined-merged low n [] lt top h = (lt, omega arith, top, tt)
joined-merged low n (i ∷ is) lt top h = join_merged low n i is (i.first == n + 1) refl lt top h

intervals-merged : (low from : ℕ) (xs : List ℕ) → low < from → RiseFrom from (LAST_GTID + 1) xs → AreMerged low (intervals_of xs)
intervals-merged low from [] lt h = tt
intervals-merged low from (x ∷ xs) lt h =
    let a : from ≤ x = h.0 in
    let b : x < LAST_GTID + 1 = h.1 in
    joined-merged low x (intervals_of xs) (omega arith) (omega arith) (intervals-merged x (x + 1) xs (omega arith) h.2)

joined-some : (n : ℕ) (is : List Interval) → 0 < length (joined n is)
joined-some n [] = omega arith
joined-some n (i ∷ is) = some_by (i.first == n + 1)
  where
    some_by : (b : Bool) → 0 < length (cond b (record { first = n; last = i.last } ∷ is) (record { first = n; last = n } ∷ (i ∷ is)))
    some_by true = omega arith
    some_by false = omega arith

intervals-some : (xs : List ℕ) → 0 < length xs → 0 < length (intervals_of xs)
intervals-some [] lt = absurd (omega arith)
intervals-some (x ∷ xs) lt = joined-some x (intervals_of xs)

with_number-some : (n : ℕ) (xs : List ℕ) → 0 < length (with_number n xs)
with_number-some n [] = omega arith
with_number-some n (x ∷ xs) = some_by (nat_lt n x) (n == x)
  where
    some_by : (a b : Bool) → 0 < length (cond a (n ∷ (x ∷ xs)) (cond b (x ∷ xs) (x ∷ with_number n xs)))
    some_by true b = omega arith
    some_by false true = omega arith
    some_by false false = omega arith

fold-some : (acc xs : List ℕ) → 0 < length acc → 0 < length (fold (λ (ys : List ℕ) (n : ℕ). with_number n ys) acc xs)
fold-some acc [] lt = lt
fold-some acc (x ∷ xs) lt = fold-some (with_number x acc) xs (with_number-some x acc)

ascending-some : (xs : List ℕ) → 0 < length xs → 0 < length (ascending xs)
ascending-some [] lt = absurd (omega arith)
ascending-some (x ∷ xs) lt = fold-some (with_number x []) xs (with_number-some x [])

-- ---- servers
numbers-within : (t : ℕ) (gs : List Gtid) → AreInRange gs → AreWithin 1 (LAST_GTID + 1) (numbers_of t gs)
numbers-within t [] h = tt
numbers-within t (g ∷ gs) h = kept (g.server == t) (numbers-within t gs h.1)
  where
    kept : (b : Bool) → AreWithin 1 (LAST_GTID + 1) (numbers_of t gs) → AreWithin 1 (LAST_GTID + 1) (map (λ (x : Gtid). x.number) (cond b (g ∷ filter (λ (x : Gtid). x.server == t) gs) (filter (λ (x : Gtid). x.server == t) gs)))
    kept true more = let top : g.number ≤ LAST_GTID = h.0.1 in ((h.0.0, omega arith), more)
    kept false more = more

servers-within : (gs : List Gtid) → AreInRange gs → AreWithin 0 (2 ^ 128) (map (λ (g : Gtid). g.server) gs)
servers-within [] h = tt
servers-within (g ∷ gs) h = ((omega arith, h.0.2), servers-within gs h.1)

numbers-some : (t : ℕ) (gs : List Gtid) → among t (map (λ (g : Gtid). g.server) gs) ≡ true → 0 < length (numbers_of t gs)
numbers-some t [] h = absurd cc
numbers-some t (g ∷ gs) h = kept (g.server == t) h (λ k. numbers-some t gs k)
  where
    kept : (b : Bool) → (b || among t (map (λ (x : Gtid). x.server) gs)) ≡ true → (among t (map (λ (x : Gtid). x.server) gs) ≡ true → 0 < length (numbers_of t gs))
        → 0 < length (map (λ (x : Gtid). x.number) (cond b (g ∷ filter (λ (x : Gtid). x.server == t) gs) (filter (λ (x : Gtid). x.server == t) gs)))
    kept true k more = omega arith
    kept false k more = more k

abbrev AllAmong : List ℕ → List ℕ → Type 0
AllAmong all xs = AllByRecursion (λ (x : ℕ). among x all ≡ true) xs

among-more : (y : ℕ) (all xs : List ℕ) → AllAmong all xs → AllAmong (y ∷ all) xs
among-more y all [] h = tt
among-more y all (x ∷ xs) h = (let e = h.0 in grind (arith, nat_tests, e), among-more y all xs h.1)

among-itself : (xs : List ℕ) → AllAmong xs xs
among-itself [] = tt
among-itself (x ∷ xs) = (grind (arith, nat_tests), among-more x xs xs (among-itself xs))

with_number-among_all : (n : ℕ) (all xs : List ℕ) → among n all ≡ true → AllAmong all xs → AllAmong all (with_number n xs)
with_number-among_all n all [] e h = (e, tt)
with_number-among_all n all (x ∷ xs) e h = put_by (nat_lt n x) (n == x) (with_number-among_all n all xs e h.1)
  where
    put_by : (a b : Bool) → AllAmong all (with_number n xs) → AllAmong all (cond a (n ∷ (x ∷ xs)) (cond b (x ∷ xs) (x ∷ with_number n xs)))
    put_by true b more = (e, h)
    put_by false true more = h
    put_by false false more = (h.0, more)

fold-among_all : (all acc xs : List ℕ) → AllAmong all acc → AllAmong all xs → AllAmong all (fold (λ (ys : List ℕ) (n : ℕ). with_number n ys) acc xs)
fold-among_all all acc [] h g = h
fold-among_all all acc (x ∷ xs) h g = fold-among_all all (with_number x acc) xs (with_number-among_all x all acc g.0 h) g.1

sets-canonical : (gs : List Gtid) (low : ℕ) (ts : List ℕ) → AreInRange gs → RiseFrom low (2 ^ 128) ts → AllAmong (map (λ (g : Gtid). g.server) gs) ts → AreCanonicalFrom low (map (server_set gs) ts)
sets-canonical gs low [] r h a = tt
sets-canonical gs low (t ∷ ts) r h a = (
  h.0,
  h.1,
  intervals-some (ascending (numbers_of t gs)) (ascending-some (numbers_of t gs) (numbers-some t gs a.0)),
  intervals-merged 0 1 (ascending (numbers_of t gs)) (omega arith) (ascending-rises 1 (LAST_GTID + 1) (numbers_of t gs) (numbers-within t gs r)),
  sets-canonical gs (t + 1) ts r h.2 a.1,
)

pub is_canonical_of_any : IsCanonicalOfAny
is_canonical_of_any gs r =
    let servers = map (λ (g : Gtid). g.server) gs in
    sets-canonical gs 0 (ascending servers) r (ascending-rises 0 (2 ^ 128) servers (servers-within gs r)) (fold-among_all servers [] servers tt (among-itself servers))

-- ---- a log that grows
among-append : (x n : ℕ) (gs hs : List Gtid) → is_among x n (gs ++ hs) ≡ (is_among x n gs || is_among x n hs)
among-append x n [] hs = refl
among-append x n (g ∷ gs) hs = let more = among-append x n gs hs in or_more (g.server == x && g.number == n) (is_among x n gs) (is_among x n hs) more
  where
    or_more : (a b c : Bool) {d : Bool} → d ≡ (b || c) → (a || d) ≡ ((a || b) || c)
    or_more true b c e = refl
    or_more false b c e = e

range-front : (gs hs : List Gtid) → AreInRange (gs ++ hs) → AreInRange gs
range-front [] hs r = tt
range-front (g ∷ gs) hs r = (r.0, range-front gs hs r.1)

gtids_in-more : (log : List Entry) (e : Entry) (g : Gtid) → gtid_of e ≡ Some g → gtids_in (log ++ e ∷ []) ≡ gtids_in log ++ g ∷ []
gtids_in-more log e g is = filter_map-append gtid_of log (e ∷ []) ∙ ap (λ (o : Option Gtid). gtids_in log ++ cons_option o []) is

last_same : (x n : ℕ) (g : Gtid) → is_among x n (g ∷ []) ≡ (x == g.server && n == g.number)
last_same x n g = grind (arith, nat_tests)

pub grows_with_log : GrowsWithLog
unfolding gtids
grows_with_log log e g new is r canonical also =
    let longer = gtids_in-more log e g is in
    one_set_has_them new (set_of (gtids_in (log ++ e ∷ []))) canonical (is_canonical_of_any (gtids_in (log ++ e ∷ [])) r)
    (λ x n. also x n
    ∙ ap (λ (b : Bool). b || (x == g.server && n == g.number)) (has_exactly_them (gtids_in log) x n)
    ∙ ap (λ (b : Bool). is_among x n (gtids_in log) || b) (sym (last_same x n g))
    ∙ sym (among-append x n (gtids_in log) (g ∷ []))
    ∙ ap (is_among x n) (sym longer)
    ∙ sym (has_exactly_them (gtids_in (log ++ e ∷ [])) x n))
