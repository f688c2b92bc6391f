-- The map's keys ascend, so that the first key above an interval's is the next entry's: to take that one out and end the interval where it ended is one step of its growth.
use Rattle.std.proofs.Common.{◌≡◌, ℕ, ◌+◌, ◌<◌, ◌≤◌, Bool, true, false, cond, ◌==◌, List, [], ◌∷◌, ◌++◌, length, max, nat_lt, nat_le, Option, Some, None, refl, sym, ap, ap₂, subst, ◌∙◌, arith}
use Rattle.std.specs.List.{AllByRecursion}
use Rattle.std.specs.List.Sorted.{IsStrictlySortedBy}
use Rattle.std.specs.Ordering.{nat_cmp, is_eq}
use Rattle.std.specs.declared.cmp.Ordering.{Ordering}
use Rattle.std.specs.declared.cmp.Ordering.TheVariants.{Less, Equal, Greater}
use Rattle.std.specs.Map.{keys_of, lookup, set_value, remove_entry}
use Rattle.std.specs.BTreeMap.{is_at}
use Rattle.std.proofs.lemmas.Bool.Decides.{nat_tests}
use Rattle.std.proofs.lemmas.Map.Keys.{sorted_head, sorted_tail}
use Rattle.ring_types.specs.declared.gtid_sets.Interval.{Interval}
use Rattle.gtid_set.specs.Ranges.{interval_of, intervals, begun_after, touch, touched, swallowed, grown}
use Rattle.gtid_set.proofs.Entries.{set_past, set_here, remove_past, remove_here, grown_here, grown_past, other_grown, less, equal, greater}

abbrev AreAbove : ℕ → List (ℕ × ℕ) → Type 0
AreAbove k es = AllByRecursion (λ (q : ℕ). nat_cmp k q ≡ Less) (keys_of es)

abbrev Ascend : List (ℕ × ℕ) → Type 0
Ascend es = IsStrictlySortedBy nat_cmp (keys_of es)

is_below : (k q : ℕ) (t : Bool) → nat_lt k q ≡ t → nat_cmp k q ≡ Less → k < q
is_below k q true e h = grind (arith, nat_tests, e)
is_below k q false e h = absurd (grind (arith, nat_tests, e, h))

below : (k q : ℕ) → nat_cmp k q ≡ Less → k < q
below k q h = is_below k q (nat_lt k q) refl h

-- a key below all others is none of them
none_found : (k f : ℕ) (es : List (ℕ × ℕ)) → AreAbove k es → f ≤ k → lookup (is_at (nat_cmp f)) es ≡ None
none_found k f [] h le = refl
none_found k f (e ∷ es) h le =
    let a : k < e.0 = below k e.0 h.0 in
    ap (λ (o : Ordering). cond (is_eq o) (Some e.1) (lookup (is_at (nat_cmp f)) es)) (less f e.0 (omega arith)) ∙ none_found k f es h.1 le

found_past : (f : ℕ) (e : ℕ × ℕ) (es : List (ℕ × ℕ)) → e.0 < f → lookup (is_at (nat_cmp f)) (e ∷ es) ≡ lookup (is_at (nat_cmp f)) es
found_past f e es lt = ap (λ (o : Ordering). cond (is_eq o) (Some e.1) (lookup (is_at (nat_cmp f)) es)) (greater f e.0 lt)

found_here : (e : ℕ × ℕ) (es : List (ℕ × ℕ)) → lookup (is_at (nat_cmp e.0)) (e ∷ es) ≡ Some e.1
found_here e es = ap (λ (o : Ordering). cond (is_eq o) (Some e.1) (lookup (is_at (nat_cmp e.0)) es)) (equal e.0)

found_none : (f : ℕ) (e : ℕ × ℕ) (es : List (ℕ × ℕ)) → AreAbove e.0 es → f < e.0 → lookup (is_at (nat_cmp f)) (e ∷ es) ≡ None
found_none f e es h lt = ap (λ (o : Ordering). cond (is_eq o) (Some e.1) (lookup (is_at (nat_cmp f)) es)) (less f e.0 lt) ∙ none_found e.0 f es h (omega arith)

after_past : (f : ℕ) (i : Interval) (is : List Interval) → i.first ≤ f → begun_after f (i ∷ is) ≡ begun_after f is
after_past f i is le = let out : nat_lt f i.first ≡ false = grind (arith, nat_tests) in rw out refl

after_here : (f : ℕ) (i : Interval) (is : List Interval) → f < i.first → begun_after f (i ∷ is) ≡ Some i
after_here f i is lt = let in' : nat_lt f i.first ≡ true = grind (arith, nat_tests) in rw in' refl

-- where the next interval begins
after_above_by : (f : ℕ) (i x : Interval) (o : Option Interval) (t : Bool) → nat_lt f i.first ≡ t → cond t (Some i) o ≡ Some x → (o ≡ Some x → f < x.first) → f < x.first
after_above_by f i x o true k e more = let here : i ≡ x = cc in let lt : f < i.first = grind (arith, nat_tests, k) in subst (λ (j : Interval). f < j.first) here lt
after_above_by f i x o false k e more = more e

after_above : (f : ℕ) (x : Interval) (is : List Interval) → begun_after f is ≡ Some x → f < x.first
after_above f x [] e = absurd cc
after_above f x (i ∷ is) e = after_above_by f i x (begun_after f is) (nat_lt f i.first) refl e (after_above f x is)

touch_above_by : (f n l last : ℕ) (x : Interval) (t : Bool) → cond {A = Option (ℕ × ℕ)} t (Some (x.first, max last x.last)) None ≡ Some (n, l) → f < x.first → f < n
touch_above_by f n l last x true e lt =
    let p : ℕ × ℕ = (x.first, max last x.last) in
    let q : ℕ × ℕ = (n, l) in
    let at : p ≡ q = cc in subst (λ (p : ℕ × ℕ). f < p.0) at lt
touch_above_by f n l last x false e lt = absurd cc

touch_above : (f n l : ℕ) (o : Option ℕ) (p : Option Interval) → touch o p ≡ Some (n, l) → ((x : Interval) → p ≡ Some x → f < x.first) → f < n
touch_above f n l None p e above = absurd cc
touch_above f n l (Some last) None e above = absurd cc
touch_above f n l (Some last) (Some x) e above = touch_above_by f n l last x (nat_le x.first (last + 1)) e (above x refl)

-- ---- the interval and the next touch
abbrev pub after_take : ℕ → ℕ → ℕ → List (ℕ × ℕ) → List (ℕ × ℕ)
after_take f n l es = set_value (is_at (nat_cmp f)) (remove_entry (is_at (nat_cmp n)) es) l

pub record IsStep (f n l : ℕ) (es : List (ℕ × ℕ)) : Type 0 where
  pub same : grown f (intervals (after_take f n l es)) ≡ grown f (intervals es)
  pub fewer : length (after_take f n l es) < length es

step_here_by : (n l : ℕ) (e x : ℕ × ℕ) (es : List (ℕ × ℕ)) (t : Bool) → nat_le x.0 (e.1 + 1) ≡ t → e.0 < x.0 → cond {A = Option (ℕ × ℕ)} t (Some (x.0, max e.1 x.1)) None ≡ Some (n, l) → IsStep e.0 n l (e ∷ (x ∷ es))
step_here_by n l e x es true k lt is =
    let p : ℕ × ℕ = (x.0, max e.1 x.1) in
    let q : ℕ × ℕ = (n, l) in
    let at : p ≡ q = cc in
    let gone : after_take e.0 x.0 (max e.1 x.1) (e ∷ (x ∷ es)) ≡ (e.0, max e.1 x.1) ∷ es =
    ap (λ (ys : List (ℕ × ℕ)). set_value (is_at (nat_cmp e.0)) ys (max e.1 x.1)) (remove_past x.0 e (x ∷ es) lt ∙ ap (λ (ys : List (ℕ × ℕ)). e ∷ ys) (remove_here x es))
    ∙ set_here (max e.1 x.1) e es in
    let step : grown e.0 (intervals (e ∷ (x ∷ es))) ≡ swallowed e.0 (max e.1 x.1) (intervals es) = grown_here e.0 e.1 (intervals (x ∷ es)) ∙ rw k refl in
    subst (λ (p : ℕ × ℕ). IsStep e.0 p.0 p.1 (e ∷ (x ∷ es))) at
    (record {
      same = ap (λ (ys : List (ℕ × ℕ)). grown e.0 (intervals ys)) gone ∙ grown_here e.0 (max e.1 x.1) (intervals es) ∙ sym step;
      fewer = omega (arith, ap length gone);
    })
step_here_by n l e x es false k lt is = absurd cc

step_here : (n l : ℕ) (e : ℕ × ℕ) (es : List (ℕ × ℕ)) → AreAbove e.0 es → touch (Some e.1) (begun_after e.0 (intervals es)) ≡ Some (n, l) → IsStep e.0 n l (e ∷ es)
step_here n l e [] h is = absurd cc
step_here n l e (x ∷ es) h is =
    let lt : e.0 < x.0 = below e.0 x.0 h.0 in
    step_here_by n l e x es (nat_le x.0 (e.1 + 1)) refl lt (sym (ap (touch (Some e.1)) (after_here e.0 (interval_of x) (intervals es) lt)) ∙ is)

step_past : (f n l : ℕ) (e : ℕ × ℕ) (es : List (ℕ × ℕ)) → e.0 < f → f < n → IsStep f n l es → IsStep f n l (e ∷ es)
step_past f n l e es lt above more =
    let past : after_take f n l (e ∷ es) ≡ e ∷ after_take f n l es =
    ap (λ (ys : List (ℕ × ℕ)). set_value (is_at (nat_cmp f)) ys l) (remove_past n e es (omega arith)) ∙ set_past f l e (remove_entry (is_at (nat_cmp n)) es) lt in
    record {
      same =
          ap (λ (ys : List (ℕ × ℕ)). grown f (intervals ys)) past
          ∙ grown_past f (interval_of e) (intervals (after_take f n l es)) lt
          ∙ ap (λ (ys : List Interval). interval_of e ∷ ys) more.same
          ∙ sym (grown_past f (interval_of e) (intervals es) lt);
      fewer = omega (arith, ap length past, more.fewer);
    }

here_touched : (f : ℕ) (e : ℕ × ℕ) (es : List (ℕ × ℕ)) → e.0 ≡ f → touched f (e ∷ es) ≡ touch (Some e.1) (begun_after e.0 (intervals es))
here_touched f e es at =
    ap (λ (k : ℕ). touched k (e ∷ es)) (sym at)
    ∙ ap₂ touch (found_here e es) (after_past e.0 (interval_of e) (intervals es) (omega arith))

past_touched : (f : ℕ) (e : ℕ × ℕ) (es : List (ℕ × ℕ)) → e.0 < f → touched f (e ∷ es) ≡ touched f es
past_touched f e es lt = ap₂ touch (found_past f e es lt) (after_past f (interval_of e) (intervals es) (omega arith))

none_touched : (f : ℕ) (e : ℕ × ℕ) (es : List (ℕ × ℕ)) → AreAbove e.0 es → f < e.0 → touched f (e ∷ es) ≡ None
none_touched f e es h lt = ap (λ (o : Option ℕ). touch o (begun_after f (intervals (e ∷ es)))) (found_none f e es h lt)

step_by : (f n l : ℕ) (e : ℕ × ℕ) (es : List (ℕ × ℕ)) (s t : Bool) → nat_lt f e.0 ≡ s → nat_lt e.0 f ≡ t → Ascend (e ∷ es) → touched f (e ∷ es) ≡ Some (n, l)
    → (touched f es ≡ Some (n, l) → IsStep f n l es) → IsStep f n l (e ∷ es)
step_by f n l e es true t a b h is more =
    let none = none_touched f e es (sorted_head nat_cmp e.0 (keys_of es) h) (grind (arith, nat_tests, a)) in
    absurd (let z = sym none ∙ is in cc)
step_by f n l e es false true a b h is more =
    let lt : e.0 < f = grind (arith, nat_tests, b) in
    let rest : touched f es ≡ Some (n, l) = sym (past_touched f e es lt) ∙ is in
    step_past f n l e es lt (touch_above f n l (lookup (is_at (nat_cmp f)) es) (begun_after f (intervals es)) rest (λ x. after_above f x (intervals es))) (more rest)
step_by f n l e es false false a b h is more =
    let at : e.0 ≡ f = grind (arith, nat_tests, a, b) in
    subst (λ (k : ℕ). IsStep k n l (e ∷ es)) at (step_here n l e es (sorted_head nat_cmp e.0 (keys_of es) h) (sym (here_touched f e es at) ∙ is))

pub step_taken : (f n l : ℕ) (es : List (ℕ × ℕ)) → Ascend es → touched f es ≡ Some (n, l) → IsStep f n l es
step_taken f n l [] h is = absurd cc
step_taken f n l (e ∷ es) h is = step_by f n l e es (nat_lt f e.0) (nat_lt e.0 f) refl refl h is (step_taken f n l es (sorted_tail nat_cmp e.0 (keys_of es) h))

-- ---- the interval and the next do not touch
none_grown : (k f : ℕ) (es : List (ℕ × ℕ)) → AreAbove k es → f ≤ k → grown f (intervals es) ≡ intervals es
none_grown k f [] h le = refl
none_grown k f (e ∷ es) h le =
    let a : k < e.0 = below k e.0 h.0 in
    other_grown f (interval_of e) (intervals es) (omega arith) ∙ ap (λ (ys : List Interval). interval_of e ∷ ys) (none_grown k f es h.1 le)

alone_by : (e x : ℕ × ℕ) (es : List (ℕ × ℕ)) (t : Bool) → nat_le x.0 (e.1 + 1) ≡ t → cond {A = Option (ℕ × ℕ)} t (Some (x.0, max e.1 x.1)) None ≡ None
    → cond t (swallowed e.0 (max e.1 x.1) (intervals es)) (interval_of e ∷ intervals (x ∷ es)) ≡ interval_of e ∷ intervals (x ∷ es)
alone_by e x es true k is = absurd cc
alone_by e x es false k is = refl

alone_here : (e : ℕ × ℕ) (es : List (ℕ × ℕ)) → AreAbove e.0 es → touch (Some e.1) (begun_after e.0 (intervals es)) ≡ None → swallowed e.0 e.1 (intervals es) ≡ intervals (e ∷ es)
alone_here e [] h is = refl
alone_here e (x ∷ es) h is =
    let lt : e.0 < x.0 = below e.0 x.0 h.0 in
    alone_by e x es (nat_le x.0 (e.1 + 1)) refl (sym (ap (touch (Some e.1)) (after_here e.0 (interval_of x) (intervals es) lt)) ∙ is)

settled_by : (f : ℕ) (e : ℕ × ℕ) (es : List (ℕ × ℕ)) (s t : Bool) → nat_lt f e.0 ≡ s → nat_lt e.0 f ≡ t → Ascend (e ∷ es) → touched f (e ∷ es) ≡ None
    → (touched f es ≡ None → grown f (intervals es) ≡ intervals es) → grown f (intervals (e ∷ es)) ≡ intervals (e ∷ es)
settled_by f e es true t a b h is more =
    let lt : f < e.0 = grind (arith, nat_tests, a) in
    other_grown f (interval_of e) (intervals es) lt
    ∙ ap (λ (ys : List Interval). interval_of e ∷ ys) (none_grown e.0 f es (sorted_head nat_cmp e.0 (keys_of es) h) (omega arith))
settled_by f e es false true a b h is more =
    let lt : e.0 < f = grind (arith, nat_tests, b) in
    grown_past f (interval_of e) (intervals es) lt ∙ ap (λ (ys : List Interval). interval_of e ∷ ys) (more (sym (past_touched f e es lt) ∙ is))
settled_by f e es false false a b h is more =
    let at : e.0 ≡ f = grind (arith, nat_tests, a, b) in
    ap (λ (k : ℕ). grown k (intervals (e ∷ es))) (sym at)
    ∙ grown_here e.0 e.1 (intervals es)
    ∙ alone_here e es (sorted_head nat_cmp e.0 (keys_of es) h) (sym (here_touched f e es at) ∙ is)

pub settled : (f : ℕ) (es : List (ℕ × ℕ)) → Ascend es → touched f es ≡ None → grown f (intervals es) ≡ intervals es
settled f [] h is = refl
settled f (e ∷ es) h is = settled_by f e es (nat_lt f e.0) (nat_lt e.0 f) refl refl h is (settled f es (sorted_tail nat_cmp e.0 (keys_of es) h))
