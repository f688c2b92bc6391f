-- The map's calls pass over the entries before a key as the definitions pass over the intervals before a number; at the key's place one step of each is the same.
use Rattle.std.proofs.Common.{◌≡◌, ℕ, zero, suc, ◌+◌, ◌-◌, ◌<◌, ◌≤◌, Bool, true, false, cond, ◌==◌, List, [], ◌∷◌, ◌++◌, length, get_or, take, max, min, nat_lt, nat_le, Option, Some, None, refl, sym, ap, subst, ◌∙◌, arith}
use Rattle.std.specs.List.{AllByRecursion}
use Rattle.std.specs.Option.{unwrap_or}
use Rattle.std.specs.Ordering.{nat_cmp, is_eq, match_ordering}
use Rattle.std.specs.declared.cmp.Ordering.{Ordering}
use Rattle.std.specs.declared.cmp.Ordering.TheVariants.{Less, Equal, Greater}
use Rattle.std.specs.Cmp.{nat_cmp_is}
use Rattle.std.specs.Map.{lookup, set_value, remove_entry}
use Rattle.std.specs.BTreeMap.{insert_entry, is_at}
use Rattle.std.proofs.lemmas.Bool.Decides.{nat_tests}
use Rattle.std.proofs.lemmas.List.{take_more}
use Rattle.ring_types.specs.declared.gtid_sets.Interval.{Interval}
use Rattle.gtid_set.specs.Canonical.{AreMerged}
use Rattle.gtid_set.specs.Ranges.{interval_of, intervals, begun_by, joined, swallowed, grown, put_first, with_range, ended_before, part_below, part_above, cut_out, without}
use Rattle.gtid_set.proofs.Begun.{begun_above, none_begun, reaches}

-- ---- one step of each call
pub less : (k q : ℕ) → k < q → nat_cmp k q ≡ Less
less k q lt = sym (nat_cmp_is k q Less lt)

pub equal : (k : ℕ) → nat_cmp k k ≡ Equal
equal k = sym (nat_cmp_is k k Equal refl)

pub greater : (k q : ℕ) → q < k → nat_cmp k q ≡ Greater
greater k q lt = sym (nat_cmp_is k q Greater lt)

abbrev inserted : Ordering → ℕ → ℕ → ℕ × ℕ → List (ℕ × ℕ) → List (ℕ × ℕ)
inserted o k v e es = match_ordering o ((k, v) ∷ e ∷ es) ((e.0, v) ∷ es) (e ∷ insert_entry nat_cmp es k v)

pub insert_past : (k v : ℕ) (e : ℕ × ℕ) (es : List (ℕ × ℕ)) → e.0 < k → insert_entry nat_cmp (e ∷ es) k v ≡ e ∷ insert_entry nat_cmp es k v
insert_past k v e es lt = ap (λ (o : Ordering). inserted o k v e es) (greater k e.0 lt)

pub insert_here : (v : ℕ) (e : ℕ × ℕ) (es : List (ℕ × ℕ)) → insert_entry nat_cmp (e ∷ es) e.0 v ≡ (e.0, v) ∷ es
insert_here v e es = ap (λ (o : Ordering). inserted o e.0 v e es) (equal e.0)

pub insert_front : (k v : ℕ) (e : ℕ × ℕ) (es : List (ℕ × ℕ)) → k < e.0 → insert_entry nat_cmp (e ∷ es) k v ≡ (k, v) ∷ e ∷ es
insert_front k v e es lt = ap (λ (o : Ordering). inserted o k v e es) (less k e.0 lt)

pub set_past : (k v : ℕ) (e : ℕ × ℕ) (es : List (ℕ × ℕ)) → e.0 < k → set_value (is_at (nat_cmp k)) (e ∷ es) v ≡ e ∷ set_value (is_at (nat_cmp k)) es v
set_past k v e es lt = ap (λ (o : Ordering). cond (is_eq o) ((e.0, v) ∷ es) (e ∷ set_value (is_at (nat_cmp k)) es v)) (greater k e.0 lt)

pub set_here : (v : ℕ) (e : ℕ × ℕ) (es : List (ℕ × ℕ)) → set_value (is_at (nat_cmp e.0)) (e ∷ es) v ≡ (e.0, v) ∷ es
set_here v e es = ap (λ (o : Ordering). cond (is_eq o) ((e.0, v) ∷ es) (e ∷ set_value (is_at (nat_cmp e.0)) es v)) (equal e.0)

pub remove_past : (k : ℕ) (e : ℕ × ℕ) (es : List (ℕ × ℕ)) → e.0 < k → remove_entry (is_at (nat_cmp k)) (e ∷ es) ≡ e ∷ remove_entry (is_at (nat_cmp k)) es
remove_past k e es lt = ap (λ (o : Ordering). cond (is_eq o) es (e ∷ remove_entry (is_at (nat_cmp k)) es)) (greater k e.0 lt)

pub remove_here : (e : ℕ × ℕ) (es : List (ℕ × ℕ)) → remove_entry (is_at (nat_cmp e.0)) (e ∷ es) ≡ es
remove_here e es = ap (λ (o : Ordering). cond (is_eq o) es (e ∷ remove_entry (is_at (nat_cmp e.0)) es)) (equal e.0)

-- ---- one step of an interval that grows
same : (n : ℕ) → (n == n) ≡ true
same n = grind (arith, nat_tests)

pub grown_here : (f l : ℕ) (is : List Interval) → grown f (record { first = f; last = l } ∷ is) ≡ swallowed f l is
grown_here f l is = ap (λ (b : Bool). cond b (swallowed f l is) (record { first = f; last = l } ∷ grown f is)) (same f)

pub grown_past : (f : ℕ) (i : Interval) (is : List Interval) → i.first < f → grown f (i ∷ is) ≡ i ∷ grown f is
grown_past f i is lt = let other : (i.first == f) ≡ false = grind (arith, nat_tests) in ap (λ (b : Bool). cond b (swallowed i.first i.last is) (i ∷ grown f is)) other

pub other_grown : (f : ℕ) (i : Interval) (is : List Interval) → f < i.first → grown f (i ∷ is) ≡ i ∷ grown f is
other_grown f i is lt = let other : (i.first == f) ≡ false = grind (arith, nat_tests) in ap (λ (b : Bool). cond b (swallowed i.first i.last is) (i ∷ grown f is)) other

-- ---- a range put in
joined_past_by : (i r : Interval) (o : Option Interval) → i.last + 1 < r.first → joined (Some (unwrap_or o i)) r ≡ joined o r
joined_past_by i r None lt = let apart : nat_le r.first (i.last + 1) ≡ false = grind (arith, nat_tests) in rw apart refl
joined_past_by i r (Some x) lt = refl

-- an interval that ends before the range may be passed over
joined_past : (i r : Interval) (is : List Interval) → i.first ≤ i.last → i.last + 1 < r.first → joined (begun_by r.first (i ∷ is)) r ≡ joined (begun_by r.first is) r
joined_past i r is some lt =
    let begun : nat_le i.first r.first ≡ true = grind (arith, nat_tests) in
    ap (λ (t : Bool). joined (cond t (Some (unwrap_or (begun_by r.first is) i)) (begun_by r.first is)) r) begun
    ∙ joined_past_by i r (begun_by r.first is) lt

joined_above_by : (low : ℕ) (x r : Interval) (t : Bool) → low < x.first → low < r.first → low < (cond t (record { first = x.first; last = max r.last x.last }) r).first
joined_above_by low x r true a b = a
joined_above_by low x r false a b = b

above_by : (low : ℕ) (r : Interval) (is : List Interval) (o : Option Interval) → begun_by r.first is ≡ o → AreMerged low is → low < r.first → low < (joined o r).first
above_by low r is None e h lt = lt
above_by low r is (Some x) e h lt = joined_above_by low x r (nat_le r.first (x.last + 1)) (begun_above low r.first x is h e).0 lt

joined_above : (low : ℕ) (r : Interval) (is : List Interval) → AreMerged low is → low < r.first → low < (joined (begun_by r.first is) r).first
joined_above low r is h lt = above_by low r is (begun_by r.first is) refl h lt

-- the map after the insert, of which the new interval has not yet grown
abbrev pub after_insert : Interval → List (ℕ × ℕ) → List Interval
after_insert j es = grown j.first (intervals (insert_entry nat_cmp es j.first j.last))

joined_here : (low : ℕ) (r : Interval) (e : ℕ × ℕ) (es : List (ℕ × ℕ)) → AreMerged low (intervals (e ∷ es)) → r.first ≤ r.last → r.first ≤ e.1 + 1 → e.0 ≤ r.first
    → after_insert (joined (begun_by r.first (intervals (e ∷ es))) r) (e ∷ es) ≡ put_first r.first r.last (intervals (e ∷ es))
joined_here low r e es h some near begun =
    let none = none_begun (e.1 + 1) r.first (intervals es) h.3 near in
    let t : nat_le e.0 r.first ≡ true = grind (arith, nat_tests) in
    let u : nat_le r.first (e.1 + 1) ≡ true = grind (arith, nat_tests) in
    let m = max r.last e.1 in
    let j : joined (begun_by r.first (intervals (e ∷ es))) r ≡ record { first = e.0; last = m } = rw (none, t, u) refl in
    let v : nat_le e.0 (r.last + 1) ≡ true = grind (arith, nat_tests) in
    let w : min e.0 r.first ≡ e.0 = omega arith in
    ap (λ (i : Interval). after_insert i (e ∷ es)) j
    ∙ ap (λ (l : List (ℕ × ℕ)). grown e.0 (intervals l)) (insert_here m e es)
    ∙ grown_here e.0 m (intervals es)
    ∙ sym (rw (v, w) refl)

joined_front : (low : ℕ) (r : Interval) (e : ℕ × ℕ) (es : List (ℕ × ℕ)) → AreMerged low (intervals (e ∷ es)) → r.first < e.0
    → after_insert (joined (begun_by r.first (intervals (e ∷ es))) r) (e ∷ es) ≡ put_first r.first r.last (intervals (e ∷ es))
joined_front low r e es h before =
    let none = none_begun r.first r.first (intervals (e ∷ es)) (before, h.1, h.2, h.3) (omega arith) in
    let w : min e.0 r.first ≡ r.first = omega arith in
    ap (λ (o : Option Interval). after_insert (joined o r) (e ∷ es)) none
    ∙ ap (λ (l : List (ℕ × ℕ)). grown r.first (intervals l)) (insert_front r.first r.last e es before)
    ∙ grown_here r.first r.last (intervals (e ∷ es))
    ∙ ap (λ (a : ℕ). cond (nat_le e.0 (r.last + 1)) (swallowed a (max r.last e.1) (intervals es)) (record { first = r.first; last = r.last } ∷ intervals (e ∷ es))) (sym w)

place_by : (low : ℕ) (r : Interval) (e : ℕ × ℕ) (es : List (ℕ × ℕ)) (t : Bool) → nat_le e.0 r.first ≡ t → AreMerged low (intervals (e ∷ es)) → r.first ≤ r.last → r.first ≤ e.1 + 1
    → after_insert (joined (begun_by r.first (intervals (e ∷ es))) r) (e ∷ es) ≡ put_first r.first r.last (intervals (e ∷ es))
place_by low r e es true k h some near = joined_here low r e es h some near (grind (arith, nat_tests, k))
place_by low r e es false k h some near = joined_front low r e es h (grind (arith, nat_tests, k))

range_by : (low : ℕ) (r : Interval) (e : ℕ × ℕ) (es : List (ℕ × ℕ)) (t : Bool) → nat_lt e.1 (r.first - 1) ≡ t → AreMerged low (intervals (e ∷ es)) → r.first ≤ r.last
    → after_insert (joined (begun_by r.first (intervals es)) r) es ≡ with_range r.first r.last (intervals es)
    → after_insert (joined (begun_by r.first (intervals (e ∷ es))) r) (e ∷ es)
    ≡ cond t (interval_of e ∷ with_range r.first r.last (intervals es)) (put_first r.first r.last (intervals (e ∷ es)))
range_by low r e es true k h some more =
    let b : e.0 ≤ e.1 = h.1 in
    let far : e.1 + 1 < r.first = grind (arith, nat_tests, k) in
    let j = joined (begun_by r.first (intervals es)) r in
    let above : e.1 + 1 < j.first = joined_above (e.1 + 1) r (intervals es) h.3 far in
    let past : e.0 < j.first = omega arith in
    ap (λ (i : Interval). after_insert i (e ∷ es)) (joined_past (interval_of e) r (intervals es) b far)
    ∙ ap (λ (l : List (ℕ × ℕ)). grown j.first (intervals l)) (insert_past j.first j.last e es past)
    ∙ grown_past j.first (interval_of e) (intervals (insert_entry nat_cmp es j.first j.last)) past
    ∙ ap (λ (l : List Interval). interval_of e ∷ l) more
range_by low r e es false k h some more = place_by low r e es (nat_le e.0 r.first) refl h some (grind (arith, nat_tests, k))

pub range_put : (low : ℕ) (r : Interval) (es : List (ℕ × ℕ)) → AreMerged low (intervals es) → r.first ≤ r.last
    → after_insert (joined (begun_by r.first (intervals es)) r) es ≡ with_range r.first r.last (intervals es)
range_put low r [] h some = grown_here r.first r.last []
range_put low r (e ∷ es) h some = range_by low r e es (nat_lt e.1 (r.first - 1)) refl h some (range_put (e.1 + 1) r es h.3 some)

-- ---- a number taken out
-- what the two calls leave: the part above the number goes in, and the part below stays, if there are such
abbrev pub cut_entries : ℕ → ℕ × ℕ → Bool → Bool → List (ℕ × ℕ) → List (ℕ × ℕ)
cut_entries n x true true es = set_value (is_at (nat_cmp x.0)) (insert_entry nat_cmp es (n + 1) x.1) (n - 1)
cut_entries n x true false es = remove_entry (is_at (nat_cmp x.0)) (insert_entry nat_cmp es (n + 1) x.1)
cut_entries n x false true es = set_value (is_at (nat_cmp x.0)) es (n - 1)
cut_entries n x false false es = remove_entry (is_at (nat_cmp x.0)) es

cut_past : (n : ℕ) (x e : ℕ × ℕ) (above below : Bool) (es : List (ℕ × ℕ)) → e.0 < x.0 → x.0 ≤ n → cut_entries n x above below (e ∷ es) ≡ e ∷ cut_entries n x above below es
cut_past n x e true true es lt le = ap (λ (l : List (ℕ × ℕ)). set_value (is_at (nat_cmp x.0)) l (n - 1)) (insert_past (n + 1) x.1 e es (omega arith)) ∙ set_past x.0 (n - 1) e (insert_entry nat_cmp es (n + 1) x.1) lt
cut_past n x e true false es lt le = ap (λ (l : List (ℕ × ℕ)). remove_entry (is_at (nat_cmp x.0)) l) (insert_past (n + 1) x.1 e es (omega arith)) ∙ remove_past x.0 e (insert_entry nat_cmp es (n + 1) x.1) lt
cut_past n x e false true es lt le = set_past x.0 (n - 1) e es lt
cut_past n x e false false es lt le = remove_past x.0 e es lt

insert_low : (low k v : ℕ) (es : List (ℕ × ℕ)) → AreMerged low (intervals es) → k ≤ low → insert_entry nat_cmp es k v ≡ (k, v) ∷ es
insert_low low k v [] h le = refl
insert_low low k v (e ∷ es) h le = let a : low < e.0 = h.0 in insert_front k v e es (omega arith)

cut_here : (n : ℕ) (e : ℕ × ℕ) (above below : Bool) (es : List (ℕ × ℕ)) → nat_lt n e.1 ≡ above → nat_lt e.0 n ≡ below → AreMerged (e.1 + 1) (intervals es) → e.0 ≤ n → n ≤ e.1
    → intervals (cut_entries n e above below (e ∷ es)) ≡ part_below n (interval_of e) ++ (part_above n (interval_of e) ++ intervals es)
cut_here n e true true es a b h low high =
    ap (λ (l : List (ℕ × ℕ)). intervals (set_value (is_at (nat_cmp e.0)) l (n - 1)))
    (insert_past (n + 1) e.1 e es (omega arith) ∙ ap (λ (l : List (ℕ × ℕ)). e ∷ l) (insert_low (e.1 + 1) (n + 1) e.1 es h (omega arith)))
    ∙ ap intervals (set_here (n - 1) e ((n + 1, e.1) ∷ es))
    ∙ sym (rw (a, b) refl)
cut_here n e true false es a b h low high =
    ap (λ (l : List (ℕ × ℕ)). intervals (remove_entry (is_at (nat_cmp e.0)) l))
    (insert_past (n + 1) e.1 e es (omega arith) ∙ ap (λ (l : List (ℕ × ℕ)). e ∷ l) (insert_low (e.1 + 1) (n + 1) e.1 es h (omega arith)))
    ∙ ap intervals (remove_here e ((n + 1, e.1) ∷ es))
    ∙ sym (rw (a, b) refl)
cut_here n e false true es a b h low high = ap intervals (set_here (n - 1) e es) ∙ sym (rw (a, b) refl)
cut_here n e false false es a b h low high = ap intervals (remove_here e es) ∙ sym (rw (a, b) refl)

-- the part below the number is left, if there is one
pub ended_is : (n : ℕ) (x : ℕ × ℕ) (above below : Bool) (es : List (ℕ × ℕ)) → nat_lt x.0 n ≡ below
    → ended_before x.0 n (cond above (insert_entry nat_cmp es (n + 1) x.1) es) ≡ cut_entries n x above below es
ended_is n x true true es b = rw b refl
ended_is n x true false es b = rw b refl
ended_is n x false true es b = rw b refl
ended_is n x false false es b = rw b refl

abbrev entry_of : Interval → ℕ × ℕ
entry_of i = (i.first, i.last)

pass : (low n : ℕ) (x : Interval) (e : ℕ × ℕ) (above below : Bool) (es : List (ℕ × ℕ)) → AreMerged low (intervals (e ∷ es)) → begun_by n (intervals es) ≡ Some x
    → intervals (cut_entries n (entry_of x) above below es) ≡ without n (intervals es)
    → intervals (cut_entries n (entry_of x) above below (e ∷ es)) ≡ without n (intervals (e ∷ es))
pass low n x e above below es h is more =
    let far = begun_above (e.1 + 1) n x (intervals es) h.3 is in
    let a : e.1 + 1 < x.first = far.0 in
    let b : x.first ≤ n = far.1 in
    let c : e.0 ≤ e.1 = h.1 in
    let u : nat_lt e.1 n ≡ true = grind (arith, nat_tests) in
    ap intervals (cut_past n (entry_of x) e above below es (omega arith) b)
    ∙ ap (λ (l : List Interval). interval_of e ∷ l) more
    ∙ sym (rw u refl)

without_by : (low n : ℕ) (x : Interval) (e : ℕ × ℕ) (above below : Bool) (es : List (ℕ × ℕ)) (o : Option Interval) (t : Bool) → begun_by n (intervals es) ≡ o → nat_le e.0 n ≡ t
    → nat_lt n x.last ≡ above → nat_lt x.first n ≡ below → AreMerged low (intervals (e ∷ es)) → cond t (Some (unwrap_or o (interval_of e))) o ≡ Some x → n ≤ x.last
    → (o ≡ Some x → intervals (cut_entries n (entry_of x) above below es) ≡ without n (intervals es))
    → intervals (cut_entries n (entry_of x) above below (e ∷ es)) ≡ without n (intervals (e ∷ es))
without_by low n x e above below es None true o k a b h is high more =
    let here : interval_of e ≡ x = cc in
    let low : e.0 ≤ n = grind (arith, nat_tests, k) in
    let end : n ≤ e.1 = subst (λ (i : Interval). n ≤ i.last) (sym here) high in
    let u : nat_lt e.1 n ≡ false = grind (arith, nat_tests) in
    let v : nat_lt n e.0 ≡ false = grind (arith, nat_tests) in
    ap (λ (i : Interval). intervals (cut_entries n (entry_of i) above below (e ∷ es))) (sym here)
    ∙ cut_here n e above below es (ap (λ (i : Interval). nat_lt n i.last) here ∙ a) (ap (λ (i : Interval). nat_lt i.first n) here ∙ b) h.3 low end
    ∙ sym (rw (u, v) refl)
without_by low n x e above below es (Some y) true o k a b h is high more = pass low n x e above below es h (o ∙ is) (more is)
without_by low n x e above below es (Some y) false o k a b h is high more = pass low n x e above below es h (o ∙ is) (more is)
without_by low n x e above below es None false o k a b h is high more = absurd cc

pub number_cut : (low n : ℕ) (x : Interval) (above below : Bool) (es : List (ℕ × ℕ)) → nat_lt n x.last ≡ above → nat_lt x.first n ≡ below → AreMerged low (intervals es)
    → begun_by n (intervals es) ≡ Some x → n ≤ x.last → intervals (cut_entries n (x.first, x.last) above below es) ≡ without n (intervals es)
number_cut low n x above below [] a b h is high = absurd cc
number_cut low n x above below (e ∷ es) a b h is high =
    without_by low n x e above below es (begun_by n (intervals es)) (nat_le e.0 n) refl refl a b h is high (λ e2. number_cut (e.1 + 1) n x above below es a b h.3 e2 high)

absent_by : (low n : ℕ) (i : Interval) (is : List Interval) (o : Option Interval) (t : Bool) → begun_by n is ≡ o → nat_le i.first n ≡ t → AreMerged low (i ∷ is)
    → reaches n (cond t (Some (unwrap_or o i)) o) ≡ false → (reaches n o ≡ false → without n is ≡ is) → without n (i ∷ is) ≡ i ∷ is
absent_by low n i is None true o k h none more =
    let u : nat_lt i.last n ≡ true = grind (arith, nat_tests, none) in
    rw u (ap (λ (l : List Interval). i ∷ l) (more refl))
absent_by low n i is (Some x) true o k h none more =
    let far = begun_above (i.last + 1) n x is h.3 o in
    let a : i.last + 1 < x.first = far.0 in
    let b : x.first ≤ n = far.1 in
    let u : nat_lt i.last n ≡ true = grind (arith, nat_tests) in
    rw u (ap (λ (l : List Interval). i ∷ l) (more none))
absent_by low n i is o false e k h none more =
    let b : i.first ≤ i.last = h.1 in
    let c : n < i.first = grind (arith, nat_tests, k) in
    let u : nat_lt i.last n ≡ false = grind (arith, nat_tests) in
    let v : nat_lt n i.first ≡ true = grind (arith, nat_tests) in
    rw (u, v) refl

-- a number that no interval has changes nothing
pub number_absent : (low n : ℕ) (is : List Interval) → AreMerged low is → reaches n (begun_by n is) ≡ false → without n is ≡ is
number_absent low n [] h none = refl
number_absent low n (i ∷ is) h none = absent_by low n i is (begun_by n is) (nat_le i.first n) refl refl h none (number_absent (i.last + 1) n is h.3)

-- ---- the value at a key that is not there
set_by : (t : Bool) (v : ℕ) (e : ℕ × ℕ) (es : List (ℕ × ℕ)) (o : Option ℕ) (new : List (ℕ × ℕ)) → cond t (Some e.1) o ≡ None → (o ≡ None → new ≡ es)
    → cond t ((e.0, v) ∷ es) (e ∷ new) ≡ e ∷ es
set_by true v e es o new none more = absurd cc
set_by false v e es o new none more = ap (λ (l : List (ℕ × ℕ)). e ∷ l) (more none)

pub set_absent : (test : ℕ → Bool) (v : ℕ) (es : List (ℕ × ℕ)) → lookup test es ≡ None → set_value test es v ≡ es
set_absent test v [] none = refl
set_absent test v (e ∷ es) none = set_by (test e.0) v e es (lookup test es) (set_value test es v) none (set_absent test v es)

-- ---- intervals put in one behind the other
insert_last : (k v : ℕ) (es : List (ℕ × ℕ)) → AllByRecursion (λ (i : Interval). i.first < k) (intervals es) → intervals (insert_entry nat_cmp es k v) ≡ intervals es ++ record { first = k; last = v } ∷ []
insert_last k v [] h = refl
insert_last k v (e ∷ es) h = ap intervals (insert_past k v e es h.0) ∙ ap (λ (l : List Interval). interval_of e ∷ l) (insert_last k v es h.1)

first_above : (low k : ℕ) (d : Interval) (is : List Interval) → AreMerged low is → k < length is → low < (get_or is k d).first
first_above low k d [] h lt = absurd (omega arith)
first_above low zero d (i ∷ is) h lt = h.0
first_above low (suc k) d (i ∷ is) h lt =
    let a : low < i.first = h.0 in
    let b : i.first ≤ i.last = h.1 in
    let more = first_above (i.last + 1) k d is h.3 (omega arith) in
    omega arith

firsts_below : (low k : ℕ) (d : Interval) (is : List Interval) → AreMerged low is → k < length is → AllByRecursion (λ (i : Interval). i.first < (get_or is k d).first) (take k is)
firsts_below low k d [] h lt = absurd (omega arith)
firsts_below low zero d (i ∷ is) h lt = tt
firsts_below low (suc k) d (i ∷ is) h lt =
    let b : i.first ≤ i.last = h.1 in
    let more = first_above (i.last + 1) k d is h.3 (omega arith) in
    (omega arith, firsts_below (i.last + 1) k d is h.3 (omega arith))

pub filled_next : (k : ℕ) (d : Interval) (is : List Interval) (es : List (ℕ × ℕ)) → AreMerged 0 is → k < length is → intervals es ≡ take k is
    → intervals (insert_entry nat_cmp es (get_or is k d).first (get_or is k d).last) ≡ take (k + 1) is
filled_next k d is es h lt e =
    let x = get_or is k d in
    insert_last x.first x.last es (subst (λ (l : List Interval). AllByRecursion (λ (i : Interval). i.first < x.first) l) (sym e) (firsts_below 0 k d is h lt))
    ∙ ap (λ (l : List Interval). l ++ x ∷ []) e
    ∙ sym (take_more is k d lt)
