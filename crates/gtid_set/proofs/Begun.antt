-- Merged intervals begin one above the other, so that only the last that begins at a number or below it may have the number.
use Rattle.std.proofs.Common.{◌≡◌, ℕ, suc, ◌+◌, ◌-◌, ◌<◌, ◌≤◌, Bool, true, false, cond, List, [], ◌∷◌, ◌++◌, filter, length, nat_le, Option, Some, None, refl, sym, ap, subst, ◌∙◌, arith}
use Rattle.std.specs.List.{list_any, slice_get}
use Rattle.std.specs.Option.{unwrap_or}
use Rattle.std.specs.Ordering.{nat_cmp}
use Rattle.std.specs.declared.ops.Bound.TheVariants.{Included, Excluded, Unbounded}
use Rattle.std.specs.BTreeMap.Range.{range_contains}
use Rattle.std.proofs.lemmas.Bool.Decides.{nat_tests}
use Rattle.ring_types.specs.Gtids.{interval_has}
use Rattle.ring_types.specs.declared.gtid_sets.Interval.{Interval}
use Rattle.gtid_set.specs.Canonical.{AreMerged}
use Rattle.gtid_set.specs.Ranges.{interval_of, intervals, begun_by, begun_after, end_behind}

-- ---- what a range of the map shows
abbrev last_of : List (ℕ × ℕ) → Option Interval
last_of [] = None
last_of (e ∷ es) = Some (unwrap_or (last_of es) (interval_of e))

abbrev first_of_them : List (ℕ × ℕ) → Option Interval
first_of_them [] = None
first_of_them (e ∷ es) = Some (interval_of e)

last_push : (t : List (ℕ × ℕ)) (e : ℕ × ℕ) → last_of (t ++ e ∷ []) ≡ Some (interval_of e)
last_push [] e = refl
last_push (x ∷ t) e = ap (λ (o : Option Interval). Some (unwrap_or o (interval_of x))) (last_push t e)

by_last : (n : ℕ) (es : List (ℕ × ℕ)) → begun_by n (intervals es) ≡ last_of (filter (λ (e : ℕ × ℕ). range_contains nat_cmp Unbounded (Included n) e.0) es)
by_last n [] = refl
by_last n (e ∷ es) = let more = by_last n es in grind (arith, nat_tests, more)

pub last_shown : (n : ℕ) (es t : List (ℕ × ℕ)) (e : ℕ × ℕ) → filter (λ (x : ℕ × ℕ). range_contains nat_cmp Unbounded (Included n) x.0) es ≡ t ++ e ∷ []
    → Some (interval_of e) ≡ begun_by n (intervals es)
last_shown n es t e h = sym (by_last n es ∙ ap last_of h ∙ last_push t e)

pub no_last_shown : (n : ℕ) (es : List (ℕ × ℕ)) → filter (λ (x : ℕ × ℕ). range_contains nat_cmp Unbounded (Included n) x.0) es ≡ [] → None ≡ begun_by n (intervals es)
no_last_shown n es h = sym (by_last n es ∙ ap last_of h)

after_first : (n : ℕ) (es : List (ℕ × ℕ)) → begun_after n (intervals es) ≡ first_of_them (filter (λ (e : ℕ × ℕ). range_contains nat_cmp (Excluded n) Unbounded e.0) es)
after_first n [] = refl
after_first n (e ∷ es) = let more = after_first n es in grind (arith, nat_tests, more)

pub first_shown : (n : ℕ) (es t : List (ℕ × ℕ)) (e : ℕ × ℕ) → filter (λ (x : ℕ × ℕ). range_contains nat_cmp (Excluded n) Unbounded x.0) es ≡ e ∷ t
    → Some (interval_of e) ≡ begun_after n (intervals es)
first_shown n es t e h = sym (after_first n es ∙ ap first_of_them h)

pub no_first_shown : (n : ℕ) (es : List (ℕ × ℕ)) → filter (λ (x : ℕ × ℕ). range_contains nat_cmp (Excluded n) Unbounded x.0) es ≡ [] → None ≡ begun_after n (intervals es)
no_first_shown n es h = sym (after_first n es ∙ ap first_of_them h)

-- ---- where the intervals begin
above_by : (low n : ℕ) (i x : Interval) (o : Option Interval) (t : Bool) → nat_le i.first n ≡ t → low < i.first → i.first ≤ i.last → cond t (Some (unwrap_or o i)) o ≡ Some x
    → (o ≡ Some x → (i.last + 1 < x.first) × (x.first ≤ n)) → (low < x.first) × (x.first ≤ n)
above_by low n i x None true k a b e more =
    let here : i ≡ x = cc in
    subst (λ (j : Interval). (low < j.first) × (j.first ≤ n)) here (a, grind (arith, nat_tests, k))
above_by low n i x (Some y) true k a b e more = let far = more e in (omega (arith, far.0), far.1)
above_by low n i x o false k a b e more = let far = more e in (omega (arith, far.0), far.1)

-- what begins at a number or below it begins above where the intervals do
pub begun_above : (low n : ℕ) (x : Interval) (is : List Interval) → AreMerged low is → begun_by n is ≡ Some x → (low < x.first) × (x.first ≤ n)
begun_above low n x [] h e = absurd cc
begun_above low n x (i ∷ is) h e = above_by low n i x (begun_by n is) (nat_le i.first n) refl h.0 h.1 e (begun_above (i.last + 1) n x is h.3)

-- none begins at a number or below it if they all begin above
pub none_begun : (low n : ℕ) (is : List Interval) → AreMerged low is → n ≤ low → begun_by n is ≡ None
none_begun low n [] h le = refl
none_begun low n (i ∷ is) h le =
    let a : low < i.first = h.0 in
    let b : i.first ≤ i.last = h.1 in
    let more = none_begun (i.last + 1) n is h.3 (omega arith) in
    let out : nat_le i.first n ≡ false = grind (arith, nat_tests) in
    rw out more

-- ---- the number is in that one or in none
abbrev pub reaches : ℕ → Option Interval → Bool
reaches n None = false
reaches n (Some i) = nat_le n i.last

have_by : (low n : ℕ) (i : Interval) (is : List Interval) (o : Option Interval) (t : Bool) → begun_by n is ≡ o → nat_le i.first n ≡ t → AreMerged low (i ∷ is)
    → reaches n o ≡ list_any (interval_has n) is → reaches n (cond t (Some (unwrap_or o i)) o) ≡ list_any (interval_has n) (i ∷ is)
have_by low n i is None true e k h more = grind (arith, nat_tests, k, more)
have_by low n i is (Some x) true e k h more =
    let far = begun_above (i.last + 1) n x is h.3 e in
    let out : interval_has n i ≡ false = let a = far.0 in let b = far.1 in grind (arith, nat_tests) in
    rw out more
have_by low n i is o false e k h more =
    let out : interval_has n i ≡ false = grind (arith, nat_tests, k) in
    rw out more

pub have_is : (low n : ℕ) (is : List Interval) → AreMerged low is → reaches n (begun_by n is) ≡ list_any (interval_has n) is
have_is low n [] h = refl
have_is low n (i ∷ is) h = have_by low n i is (begun_by n is) (nat_le i.first n) refl refl h (have_is (i.last + 1) n is h.3)

-- no interval has a number below where they begin
pub none_held : (low n : ℕ) (is : List Interval) → AreMerged low is → n ≤ low → list_any (interval_has n) is ≡ false
none_held low n [] h le = refl
none_held low n (i ∷ is) h le =
    let l : low < i.first = h.0 in
    let f : i.first ≤ i.last = h.1 in
    let more = none_held (i.last + 1) n is h.3 (omega arith) in
    grind (arith, nat_tests, more)

-- ---- the greatest number
pub last_end : (n : ℕ) (es : List (ℕ × ℕ)) (e : ℕ × ℕ) → slice_get es (length es - 1) ≡ Some e → e.1 ≡ end_behind n (intervals es)
last_end n [] e h = absurd cc
last_end n (x ∷ []) e h = let same : x ≡ e = cc in ap (λ (y : ℕ × ℕ). y.1) (sym same)
last_end n (x ∷ (y ∷ es)) e h =
    let at : length (x ∷ (y ∷ es)) - 1 ≡ suc (length (y ∷ es) - 1) = omega arith in
    last_end x.1 (y ∷ es) e (sym (ap (λ (k : ℕ). slice_get (x ∷ (y ∷ es)) k) at) ∙ h)
