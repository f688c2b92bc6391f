-- An entry stands at the position of its opid, so one look there tells whether the log has it; and where the strays are dropped, the other pairs are left.
use Rattle.std.proofs.Common.{◌≡◌, ℕ, zero, suc, ◌+◌, ◌≤◌, ◌==◌, Bool, true, false, ◌||◌, List, [], ◌∷◌, Option, Some, None, filter, refl, sym, ap, ap₂, ◌∙◌, arith}
use Rattle.std.specs.Prelude.{not, slice_get}
use Rattle.std.specs.List.{Contains, list_any}
use Rattle.std.specs.Option.{option_map_or}
use Rattle.std.proofs.lemmas.Bool.Decides.{nat_tests}
use Rattle.ring_types.specs.declared.entries.Entry.{Entry}
use Rattle.ring_types.specs.declared.entries.Opid.{Opid}
use Rattle.ring_types.specs.declared.entries.Pair.{Pair}
use Rattle.ring_types.specs.Logs.{IsLog, entry_at, has_opid, same_opid}
use Rattle.ring_model.proofs.Lists.{any_true, filter_keeps, in_cons, map_keeps}
use Rattle.node_store.specs.Kept.{strays_in}

-- ---- one look
-- the entries stand at the positions above i
abbrev StandAbove : ℕ → List Entry → Type 0
StandAbove i log = (k : ℕ) (e : Entry) → slice_get log k ≡ Some e → e.opid.position ≡ suc (i + k)

stand_behind : (i : ℕ) (e : Entry) (log : List Entry) → StandAbove i (e ∷ log) → StandAbove (suc i) log
stand_behind i e log at k x is = at (suc k) x is ∙ omega arith

other_place : (e : Entry) (o : Opid) → (e.opid.position == o.position) ≡ false → same_opid e.opid o ≡ false
other_place e o is = grind (arith, nat_tests, is)

none_below : (i : ℕ) (log : List Entry) (o : Opid) → StandAbove i log → o.position ≤ i → has_opid log o ≡ false
none_below i [] o at low = refl
none_below i (e ∷ log) o at low =
    let place : e.opid.position ≡ suc (i + 0) = at zero e refl in
    let other : (e.opid.position == o.position) ≡ false = grind (arith, nat_tests) in
    rw (other_place e o other) (none_below (suc i) log o (stand_behind i e log at) (omega arith))

seen_at : (i k : ℕ) (log : List Entry) (o : Opid) → StandAbove i log → o.position ≡ suc (i + k)
    → option_map_or (λ (e : Entry). same_opid e.opid o) (slice_get log k) false ≡ has_opid log o
seen_at i k [] o at is = refl
seen_at i zero (e ∷ log) o at is =
    let none : has_opid log o ≡ false = none_below (suc i) log o (stand_behind i e log at) (omega arith) in
    go (same_opid e.opid o) none
  where
    go : (b : Bool) → has_opid log o ≡ false → b ≡ (b || has_opid log o)
    go true none = refl
    go false none = sym none
seen_at i (suc k) (e ∷ log) o at is =
    let place : e.opid.position ≡ suc (i + 0) = at zero e refl in
    let other : (e.opid.position == o.position) ≡ false = grind (arith, nat_tests) in
    rw (other_place e o other) (seen_at (suc i) k log o (stand_behind i e log at) (is ∙ omega arith))

none_first : (log : List Entry) (o : Opid) → IsLog log → (p : ℕ) → o.position ≡ p
    → option_map_or (λ (e : Entry). same_opid e.opid o) (entry_at log p) false ≡ has_opid log o
none_first log o is zero at = sym (none_below 0 log o (λ k e here. is.placed (suc k) e here ∙ omega arith) (omega arith))
none_first log o is (suc k) at = seen_at 0 k log o (λ k e here. is.placed (suc k) e here ∙ omega arith) (at ∙ omega arith)

pub seen : (log : List Entry) (o : Opid) (e : Entry) → IsLog log → entry_at log o.position ≡ Some e → same_opid e.opid o ≡ has_opid log o
seen log o e is here = ap (λ (x : Option Entry). option_map_or (λ (e : Entry). same_opid e.opid o) x false) (sym here) ∙ none_first log o is o.position refl

pub unseen : (log : List Entry) (o : Opid) → IsLog log → entry_at log o.position ≡ None → false ≡ has_opid log o
unseen log o is here = ap (λ (x : Option Entry). option_map_or (λ (e : Entry). same_opid e.opid o) x false) (sym here) ∙ none_first log o is o.position refl

-- ---- what is left
same_is : (a b : Opid) → same_opid a b ≡ true → (log : List Entry) → has_opid log a ≡ has_opid log b
same_is a b is log =
    let term : a.term ≡ b.term = grind (arith, nat_tests, is) in
    let position : a.position ≡ b.position = grind (arith, nat_tests, is) in
    ap₂ (λ (t p : ℕ). has_opid log (record { term = t; position = p })) term position

same_self : (o : Opid) → same_opid o o ≡ true
same_self o = grind (arith, nat_tests)

not_stray : (log : List Entry) (o : Opid) (pairs : List Pair) → has_opid log o ≡ true → list_any (same_opid o) (strays_in log pairs) ≡ false
not_stray log o [] has = refl
not_stray log o (p ∷ pairs) has = go (has_opid log p.opid) refl (same_opid o p.opid) refl (not_stray log o pairs has)
  where
    go : (a : Bool) → has_opid log p.opid ≡ a → (b : Bool) → same_opid o p.opid ≡ b → list_any (same_opid o) (strays_in log pairs) ≡ false
        → list_any (same_opid o) (strays_in log (p ∷ pairs)) ≡ false
    go true x b y rest = rw x rest
    go false x false y rest = rw (x, y) rest
    go false x true y rest = absurd (let z : true ≡ false = sym has ∙ (same_is o p.opid y log ∙ x) in cc)

is_kept : (log : List Entry) (pairs : List Pair) (p : Pair) → Contains pairs p → not (list_any (same_opid p.opid) (strays_in log pairs)) ≡ has_opid log p.opid
is_kept log pairs p c = go (has_opid log p.opid) refl
  where
    go : (b : Bool) → has_opid log p.opid ≡ b → not (list_any (same_opid p.opid) (strays_in log pairs)) ≡ b
    go true has = ap not (not_stray log p.opid pairs has)
    go false has =
        let test : Pair → Bool = λ q. not (has_opid log q.opid) in
        let among = map_keeps (λ (q : Pair). q.opid) (filter test pairs) p (filter_keeps test pairs p c (ap not has)) in
        ap not (any_true (same_opid p.opid) (strays_in log pairs) p.opid among (same_self p.opid))

same_filter : (f g : Pair → Bool) (pairs : List Pair) → ((p : Pair) → Contains pairs p → f p ≡ g p) → filter f pairs ≡ filter g pairs
same_filter f g [] each = refl
same_filter f g (p ∷ pairs) each = go (g p) refl (each p (zero, omega arith, refl)) (same_filter f g pairs (λ q c. each q (in_cons p pairs q c)))
  where
    go : (b : Bool) → g p ≡ b → f p ≡ g p → filter f pairs ≡ filter g pairs → filter f (p ∷ pairs) ≡ filter g (p ∷ pairs)
    go true is same rest = let here = same ∙ is in rw (here, is) (ap (λ (qs : List Pair). p ∷ qs) rest)
    go false is same rest = let here = same ∙ is in rw (here, is) rest

pub without_strays : (log : List Entry) (pairs : List Pair)
    → filter (λ (p : Pair). not (list_any (same_opid p.opid) (strays_in log pairs))) pairs ≡ filter (λ (p : Pair). has_opid log p.opid) pairs
without_strays log pairs =
    same_filter (λ (p : Pair). not (list_any (same_opid p.opid) (strays_in log pairs))) (λ (p : Pair). has_opid log p.opid) pairs (is_kept log pairs)
