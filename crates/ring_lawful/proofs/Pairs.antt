-- The pairs of a stretch of a log: what a filter by opid keeps of them, and the stretch as the log is cut, goes on, or is applied.
use Rattle.std.proofs.Common.{◌≡◌, ℕ, ◌+◌, ◌-◌, ◌<◌, ◌≤◌, ◌⊎◌, [], ◌∷◌, ◌++◌, ◌∙◌, Bool, List, None, Some, ap, arith, drop, false, inl, inr, length, refl, subst, suc, sym, take, true, zero}
use Rattle.std.proofs.lemmas.Bool.{cases_lt}
use Rattle.std.proofs.lemmas.Bool.Decides.{nat_tests}
use Rattle.std.proofs.lemmas.List.{append-nil, drop-append-le, take-append-le, take_all}
use Rattle.std.proofs.lemmas.List.Elements.{filter-append, filter_map-append}
use Rattle.std.specs.Prelude.{filter, nat_le, slice_get}
use Rattle.std.specs.List.{Contains}
use Rattle.ring_types.specs.declared.entries.Entry.{Entry}
use Rattle.ring_types.specs.declared.entries.Opid.{Opid}
use Rattle.ring_types.specs.declared.entries.Pair.{Pair}
use Rattle.ring_types.specs.declared.entries.Payload.{Payload}
use Rattle.ring_types.specs.declared.entries.Payload.TheVariants as payload
use Rattle.ring_types.specs.Logs.{entry_at, has_opid, same_opid}
use Rattle.ring_model.specs.Actions.{entries_between, is_prepared, pair_of, pairs_in}
use Rattle.ring_model.proofs.Lists.{any_true, cons_cases, in_cons, none_contained, place_cases, placed_contains}

abbrev pub Placed : List Entry → Type 0
Placed log = (k : ℕ) (e : Entry) → entry_at log k ≡ Some e → e.opid.position ≡ k

-- ---- filters by opid
pub filter_on : (g : Opid → Bool) (xs : List Entry) → ((e : Entry) → Contains xs e → g e.opid ≡ true)
    → filter (λ (p : Pair). g p.opid) (pairs_in xs) ≡ pairs_in xs
filter_on g [] each = refl
filter_on g (e ∷ xs) each = go (filter_on g xs (λ x c. each x (in_cons e xs x c))) e.payload refl
  where
    here : g e.opid ≡ true
    here = each e (zero, omega arith, refl)

    go : filter (λ (p : Pair). g p.opid) (pairs_in xs) ≡ pairs_in xs → (b : Payload) → e.payload ≡ b
        → filter (λ (p : Pair). g p.opid) (pairs_in (e ∷ xs)) ≡ pairs_in (e ∷ xs)
    go rest payload.NoOp is = rw is rest
    go rest payload.Rotate is = rw is rest
    go rest (payload.Txn t) is = rw (is, here) (ap (λ (ps : List Pair). (record { opid = e.opid; txn = t }) ∷ ps) rest)

pub filter_off : (g : Opid → Bool) (xs : List Entry) → ((e : Entry) → Contains xs e → g e.opid ≡ false) → filter (λ (p : Pair). g p.opid) (pairs_in xs) ≡ []
filter_off g [] each = refl
filter_off g (e ∷ xs) each = go (filter_off g xs (λ x c. each x (in_cons e xs x c))) e.payload refl
  where
    here : g e.opid ≡ false
    here = each e (zero, omega arith, refl)

    go : filter (λ (p : Pair). g p.opid) (pairs_in xs) ≡ [] → (b : Payload) → e.payload ≡ b → filter (λ (p : Pair). g p.opid) (pairs_in (e ∷ xs)) ≡ []
    go rest payload.NoOp is = rw is rest
    go rest payload.Rotate is = rw is rest
    go rest (payload.Txn t) is = rw (is, here) rest

pub pairs_join : (xs ys : List Entry) → pairs_in (xs ++ ys) ≡ pairs_in xs ++ pairs_in ys
pairs_join xs ys = filter_map-append pair_of xs ys

pub filter_first : (g : Opid → Bool) (xs ys : List Entry) → ((e : Entry) → Contains xs e → g e.opid ≡ true)
    → ((e : Entry) → Contains ys e → g e.opid ≡ false) → filter (λ (p : Pair). g p.opid) (pairs_in (xs ++ ys)) ≡ pairs_in xs
filter_first g xs ys on off =
    ap (filter (λ (p : Pair). g p.opid)) (pairs_join xs ys)
    ∙ (filter-append (λ (p : Pair). g p.opid) (pairs_in xs) (pairs_in ys)
    ∙ (ap (λ (ps : List Pair). filter (λ (p : Pair). g p.opid) (pairs_in xs) ++ ps) (filter_off g ys off) ∙ (append-nil (filter (λ (p : Pair). g p.opid) (pairs_in xs)) ∙ filter_on g xs on)))

-- ---- stretches
pub none_between : (log : List Entry) (a k : ℕ) → k ≤ a → entries_between log a k ≡ []
none_between log a k le = let z : k - a ≡ 0 = omega (arith, le) in rw z refl

drop_at : (xs : List Entry) (k : ℕ) (e : Entry) → slice_get xs k ≡ Some e → drop k xs ≡ e ∷ drop (suc k) xs
drop_at [] k e is = absurd cc
drop_at (x ∷ xs) zero e is = ap (λ (w : Entry). w ∷ xs) (let z : x ≡ e = cc in z)
drop_at (x ∷ xs) (suc k) e is = drop_at xs k e is

pub next_between : (log : List Entry) (a k : ℕ) (e : Entry) → a < k → entry_at log (suc a) ≡ Some e
    → entries_between log a k ≡ e ∷ entries_between log (suc a) k
next_between log a k e lt is = let z : k - a ≡ suc (k - suc a) = omega (arith, lt) in rw z (ap (take (suc (k - suc a))) (drop_at log a e is))

-- a place of the first n after a is a place of the log
drop_place : (xs : List Entry) (a j : ℕ) → slice_get (drop a xs) j ≡ slice_get xs (a + j)
drop_place xs zero j = let z : 0 + j ≡ j = omega arith in rw z refl
drop_place [] (suc a) j = refl
drop_place (x ∷ xs) (suc a) j = let z : suc a + j ≡ suc (a + j) = omega arith in rw z (drop_place xs a j)

take_place : (xs : List Entry) (n j : ℕ) (e : Entry) → slice_get (take n xs) j ≡ Some e → (slice_get xs j ≡ Some e) × (j < n)
take_place xs zero j e is = absurd cc
take_place [] (suc n) j e is = absurd cc
take_place (x ∷ xs) (suc n) zero e is = (is, omega arith)
take_place (x ∷ xs) (suc n) (suc j) e is = let y = take_place xs n j e is in (y.0, omega (arith, y.1))

contains_place : (xs : List Entry) (e : Entry) → Contains xs e → (j : ℕ) × (slice_get xs j ≡ Some e)
contains_place [] e c = absurd (none_contained e c)
contains_place (x ∷ xs) e (zero, lt, is) = (0, ap (λ (w : Entry). Some w) is)
contains_place (x ∷ xs) e (suc k, lt, is) = let y = contains_place xs e (k, omega arith, is) in (suc y.0, y.1)

-- an entry of a stretch stands in the log, between its ends
pub in_between : (log : List Entry) (a k : ℕ) (e : Entry) → Placed log → Contains (entries_between log a k) e
    → (entry_at log e.opid.position ≡ Some e) × (a < e.opid.position) × (e.opid.position ≤ k)
in_between log a k e placed c =
    let y = contains_place (entries_between log a k) e c in
    let t = take_place (drop a log) (k - a) y.0 e y.1 in
    let at : slice_get log (a + y.0) ≡ Some e = sym (drop_place log a y.0) ∙ t.0 in
    let p : e.opid.position ≡ suc (a + y.0) = placed (suc (a + y.0)) e at in (
      subst (λ (j : ℕ). entry_at log j ≡ Some e) (sym p) at,
      omega (arith, p),
      omega (arith, p, t.1),
    )

pub at_contains : (log : List Entry) (k : ℕ) (e : Entry) → entry_at log k ≡ Some e → Contains log e
at_contains log zero e is = absurd cc
at_contains log (suc k) e is = placed_contains log k e is

pub opid_in : (log : List Entry) (e : Entry) → Contains log e → has_opid log e.opid ≡ true
opid_in log e c = any_true (λ (x : Entry). same_opid x.opid e.opid) log e c (grind (arith, nat_tests))

-- an entry at a place of the log's beginning
pub take_at : (log : List Entry) (n k : ℕ) (e : Entry) → k ≤ n → entry_at log k ≡ Some e → entry_at (take n log) k ≡ Some e
take_at log n zero e le is = absurd cc
take_at log n (suc k) e le is = go log n k le is
  where
    go : (xs : List Entry) (n k : ℕ) → suc k ≤ n → slice_get xs k ≡ Some e → slice_get (take n xs) k ≡ Some e
    go xs zero k le is = absurd (omega arith)
    go [] (suc n) k le is = absurd cc
    go (x ∷ xs) (suc n) zero le is = is
    go (x ∷ xs) (suc n) (suc k) le is = go xs n k (omega arith) is

pub placed_take : (log : List Entry) (n : ℕ) → Placed log → Placed (take n log)
placed_take log n placed zero e is = absurd cc
placed_take log n placed (suc k) e is = placed (suc k) e (take_place log n k e is).0

-- an opid at a place beyond the end of a log is not in it
pub opid_beyond : (log : List Entry) (o : Opid) → Placed log → length log < o.position → has_opid log o ≡ false
opid_beyond log o placed more = go log (λ e c. let y = contains_place log e c in (y.0, placed (suc y.0) e y.1, within log y.0 e y.1))
  where
    within : (xs : List Entry) (j : ℕ) (e : Entry) → slice_get xs j ≡ Some e → j < length xs
    within [] j e is = absurd cc
    within (x ∷ xs) zero e is = omega arith
    within (x ∷ xs) (suc j) e is = let y = within xs j e is in omega (arith, y)

    go : (xs : List Entry) → ((e : Entry) → Contains xs e → (j : ℕ) × (e.opid.position ≡ suc j) × (j < length log)) → has_opid xs o ≡ false
    go [] each = refl
    go (x ∷ xs) each =
        let y = each x (zero, omega arith, refl) in
        let no : same_opid x.opid o ≡ false = grind (arith, nat_tests, y.1, y.2, more) in
        rw no (go xs (λ e c. each e (in_cons x xs e c)))

pub between_at : (log : List Entry) (a k j : ℕ) (e : Entry) → a ≤ j → j < k → entry_at log (suc j) ≡ Some e → Contains (entries_between log a k) e
between_at log a k j e low high is = placed_contains (entries_between log a k) (j - a) e (go (drop a log) (k - a) (j - a) (omega (arith, low, high)) (drop_place log a (j - a) ∙ (let z : a + (j - a) ≡ j = omega (arith, low) in rw z is)))
  where
    go : (xs : List Entry) (n i : ℕ) → i < n → slice_get xs i ≡ Some e → slice_get (take n xs) i ≡ Some e
    go xs zero i lt at = absurd (omega arith)
    go [] (suc n) i lt at = absurd cc
    go (x ∷ xs) (suc n) zero lt at = at
    go (x ∷ xs) (suc n) (suc i) lt at = go xs n i (omega arith) at

-- ---- the pairs of a stretch by opid
pub prepared_in : (xs : List Entry) (e : Entry) (p : Pair) → Contains xs e → pair_of e ≡ Some p → is_prepared (pairs_in xs) e.opid ≡ true
prepared_in [] e p c is = absurd (none_contained e c)
prepared_in (x ∷ xs) e p c is = go x.payload refl (cons_cases x xs e c) (λ d. prepared_in xs e p d is)
  where
    go : (b : Payload) → x.payload ≡ b → (x ≡ e) ⊎ Contains xs e → (Contains xs e → is_prepared (pairs_in xs) e.opid ≡ true)
        → is_prepared (pairs_in (x ∷ xs)) e.opid ≡ true
    go payload.NoOp y (inl here) rest = absurd (let z : None ≡ Some p = (let w : pair_of x ≡ None = rw y refl in sym w) ∙ (ap pair_of here ∙ is) in cc)
    go payload.NoOp y (inr there) rest = rw y (rest there)
    go payload.Rotate y (inl here) rest = absurd (let z : None ≡ Some p = (let w : pair_of x ≡ None = rw y refl in sym w) ∙ (ap pair_of here ∙ is) in cc)
    go payload.Rotate y (inr there) rest = rw y (rest there)
    go (payload.Txn t) y (inl here) rest =
        let same : same_opid x.opid e.opid ≡ true = (let z : x.opid ≡ e.opid = ap (λ (w : Entry). w.opid) here in grind (arith, nat_tests, z)) in
        rw (y, same) refl
    go (payload.Txn t) y (inr there) rest = go_on (same_opid x.opid e.opid) refl
      where
        go_on : (b : Bool) → same_opid x.opid e.opid ≡ b → is_prepared (pairs_in (x ∷ xs)) e.opid ≡ true
        go_on true z = rw (y, z) refl
        go_on false z = rw (y, z) (rest there)

pub prepared_out : (xs : List Entry) (o : Opid) → ((e : Entry) → Contains xs e → same_opid e.opid o ≡ false) → is_prepared (pairs_in xs) o ≡ false
prepared_out [] o each = refl
prepared_out (x ∷ xs) o each = go x.payload refl (prepared_out xs o (λ e c. each e (in_cons x xs e c))) (each x (zero, omega arith, refl))
  where
    go : (b : Payload) → x.payload ≡ b → is_prepared (pairs_in xs) o ≡ false → same_opid x.opid o ≡ false → is_prepared (pairs_in (x ∷ xs)) o ≡ false
    go payload.NoOp y rest differs = rw y rest
    go payload.Rotate y rest differs = rw y rest
    go (payload.Txn t) y rest differs = rw (y, differs) rest

-- ---- stretches of a log that is cut or goes on
take_less : (i j : ℕ) (xs : List Entry) → i ≤ j → take i (take j xs) ≡ take i xs
take_less zero j xs le = refl
take_less (suc i) zero xs le = absurd (omega arith)
take_less (suc i) (suc j) [] le = refl
take_less (suc i) (suc j) (x ∷ xs) le = ap (λ (ys : List Entry). x ∷ ys) (take_less i j xs (omega arith))

take_nil : (i : ℕ) → [] ≡ take {A = Entry} i []
take_nil zero = refl
take_nil (suc i) = refl

drop_take : (a m : ℕ) (xs : List Entry) → drop a (take m xs) ≡ take (m - a) (drop a xs)
drop_take zero m xs = let z : m - 0 ≡ m = omega arith in rw z refl
drop_take (suc a) zero [] = take_nil (0 - suc a)
drop_take (suc a) zero (x ∷ xs) = let z : 0 - suc a ≡ 0 = omega arith in rw z refl
drop_take (suc a) (suc m) [] = let z : suc m - suc a ≡ m - a = omega arith in rw z (take_nil (m - a))
drop_take (suc a) (suc m) (x ∷ xs) = let z : suc m - suc a ≡ m - a = omega arith in rw z (drop_take a m xs)

take_sum : (i j : ℕ) (xs : List Entry) → take (i + j) xs ≡ take i xs ++ take j (drop i xs)
take_sum zero j xs = let z : 0 + j ≡ j = omega arith in rw z refl
take_sum (suc i) zero [] = let z : suc i + 0 ≡ suc i = omega arith in rw z refl
take_sum (suc i) (suc j) [] = let z : suc i + suc j ≡ suc (i + suc j) = omega arith in rw z refl
take_sum (suc i) j (x ∷ xs) = let z : suc i + j ≡ suc (i + j) = omega arith in rw z (ap (λ (ys : List Entry). x ∷ ys) (take_sum i j xs))

drop_sum : (i j : ℕ) (xs : List Entry) → drop j (drop i xs) ≡ drop (i + j) xs
drop_sum zero j xs = let z : 0 + j ≡ j = omega arith in rw z refl
drop_sum (suc i) zero [] = let z : suc i + 0 ≡ suc i = omega arith in rw z refl
drop_sum (suc i) (suc j) [] = let z : suc i + suc j ≡ suc (i + suc j) = omega arith in rw z refl
drop_sum (suc i) j (x ∷ xs) = let z : suc i + j ≡ suc (i + j) = omega arith in rw z (drop_sum i j xs)

pub between_take : (log : List Entry) (m a k : ℕ) → k ≤ m → entries_between (take m log) a k ≡ entries_between log a k
between_take log m a k le = ap (take (k - a)) (drop_take a m log) ∙ take_less (k - a) (m - a) (drop a log) (omega (arith, le))

pub between_split : (log : List Entry) (a m k : ℕ) → a ≤ m → m ≤ k → entries_between log a k ≡ entries_between log a m ++ entries_between log m k
between_split log a m k low high =
    let z : k - a ≡ (m - a) + (k - m) = omega (arith, low, high) in
    let y : a + (m - a) ≡ m = omega (arith, low) in
    ap (λ (n : ℕ). take n (drop a log)) z
    ∙ (take_sum (m - a) (k - m) (drop a log) ∙ ap (λ (ys : List Entry). take (m - a) (drop a log) ++ take (k - m) ys) (drop_sum a (m - a) log ∙ ap (λ (n : ℕ). drop n log) y))

length_drop : (a : ℕ) (xs : List Entry) → length (drop a xs) ≡ length xs - a
length_drop zero xs = omega arith
length_drop (suc a) [] = omega arith
length_drop (suc a) (x ∷ xs) = let y = length_drop a xs in omega (arith, y)

pub between_more : (log es : List Entry) (a k : ℕ) → a ≤ length log → k ≤ length log → entries_between (log ++ es) a k ≡ entries_between log a k
between_more log es a k in_a in_k =
    ap (take (k - a)) (drop-append-le a log es in_a) ∙ take-append-le (k - a) (drop a log) es (let y = length_drop a log in omega (arith, y, in_k))

pub between_all : (log : List Entry) (a : ℕ) → entries_between log a (length log) ≡ drop a log
between_all log a = take_all (length log - a) (drop a log) (let y = length_drop a log in omega (arith, y))

pub between_push : (log : List Entry) (x : Entry) (a : ℕ) → a ≤ length log
    → entries_between (log ++ x ∷ []) a (length (log ++ x ∷ [])) ≡ entries_between log a (length log) ++ x ∷ []
between_push log x a in_a =
    between_all (log ++ x ∷ []) a ∙ (drop-append-le a log (x ∷ []) in_a ∙ ap (λ (ys : List Entry). ys ++ x ∷ []) (sym (between_all log a)))

pub placed_push : (log : List Entry) (x : Entry) → Placed log → x.opid.position ≡ suc (length log) → Placed (log ++ x ∷ [])
placed_push log x placed is zero e at = absurd cc
placed_push log x placed is (suc k) e at = elim (place_cases log x k e at) [
  | inl old ↦ placed (suc k) e old
  | inr new ↦ ap (λ (w : Entry). w.opid.position) (sym new.1) ∙ (is ∙ ap suc (sym new.0))
]

pub take_short : (n : ℕ) (xs : List Entry) → length (take n xs) ≤ n
take_short zero xs = omega arith
take_short (suc n) [] = omega arith
take_short (suc n) (x ∷ xs) = let y = take_short n xs in omega (arith, y)

-- what a filter that passes just the places up to m keeps of a stretch's pairs
pub filter_up_to : (log : List Entry) (g : Opid → Bool) (a m k : ℕ) → a ≤ m → Placed log
    → ((e : Entry) → entry_at log e.opid.position ≡ Some e → e.opid.position ≤ m → g e.opid ≡ true)
    → ((e : Entry) → m < e.opid.position → g e.opid ≡ false)
    → (j : ℕ) × (j ≤ m) × (j ≤ k) × (filter (λ (p : Pair). g p.opid) (pairs_in (entries_between log a k)) ≡ pairs_in (entries_between log a j))
filter_up_to log g a m k low placed on off = elim (cases_lt m k) [
  | inl lt ↦ (
    m,
    omega arith,
    omega (arith, lt),
    ap (λ (xs : List Entry). filter (λ (p : Pair). g p.opid) (pairs_in xs)) (between_split log a m k low (omega arith))
        ∙ filter_first g (entries_between log a m) (entries_between log m k) (λ e c. let y = in_between log a m e placed c in on e y.0 y.2)
        (λ e c. let y = in_between log m k e placed c in off e y.1),
  )
  | inr ge ↦ (k, ge, omega arith, filter_on g (entries_between log a k) (λ e c. let y = in_between log a k e placed c in on e y.0 (omega (arith, y.2, ge))))
]

pub cut_pairs : (log : List Entry) (a m k : ℕ) → a ≤ m → Placed log
    → (j : ℕ) × (j ≤ m) × (j ≤ k) × (filter (λ (p : Pair). has_opid (take m log) p.opid) (pairs_in (entries_between log a k)) ≡ pairs_in (entries_between (take m log) a j))
cut_pairs log a m k low placed =
    let x = filter_up_to log (has_opid (take m log)) a m k low placed (λ e at le. opid_in (take m log) e (at_contains (take m log) e.opid.position e (take_at log m e.opid.position e le at)))
    (λ e more. opid_beyond (take m log) e.opid (placed_take log m placed) (let y = take_short m log in omega (arith, y, more))) in
    (x.0, x.1, x.2, x.3 ∙ ap pairs_in (sym (between_take log m a x.0 x.1)))

pub rolled_pairs : (log : List Entry) (a m k : ℕ) → a ≤ m → Placed log
    → (j : ℕ) × (j ≤ m) × (j ≤ k) × (filter (λ (p : Pair). nat_le p.opid.position m) (pairs_in (entries_between log a k)) ≡ pairs_in (entries_between (take m log) a j))
rolled_pairs log a m k low placed =
    let x = filter_up_to log (λ o. nat_le o.position m) a m k low placed (λ e at le. grind (arith, nat_tests, le)) (λ e more. grind (arith, nat_tests, more)) in
    (x.0, x.1, x.2, x.3 ∙ ap pairs_in (sym (between_take log m a x.0 x.1)))

pub within_some : (xs : List Entry) (k : ℕ) → k < length xs → (e : Entry) × (slice_get xs k ≡ Some e)
within_some [] k lt = absurd (omega arith)
within_some (x ∷ xs) zero lt = (x, refl)
within_some (x ∷ xs) (suc k) lt = within_some xs k (omega arith)
