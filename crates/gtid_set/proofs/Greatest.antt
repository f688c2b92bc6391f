-- the greatest number of a canonical set is that of the list that it was made of
use Rattle.std.proofs.Common.{◌≡◌, ℕ, ◌+◌, ◌≤◌, ◌==◌, ◌||◌, Bool, true, false, nat_lt, max, if◌then◌else◌, List, [], ◌∷◌, map, fold, Some, None, refl, sym, ap, ◌∙◌, arith}
use Rattle.std.specs.List.{list_any}
use Rattle.std.proofs.lemmas.Bool.Decides.{nat_tests}
use Rattle.ring_types.specs.declared.limits.TheConstants.{LAST_GTID}
use Rattle.ring_types.specs.declared.values.Gtid.{Gtid}
use Rattle.ring_types.specs.declared.entries.Entry.{Entry}
use Rattle.ring_types.specs.declared.gtid_sets.Interval.{Interval}
use Rattle.ring_types.specs.Gtids.{gtids, gtids_in, with_number, ascending, joined, intervals_of, numbers_of, server_set, set_of, next_number}
use Rattle.gtid_set.specs.Next.{tops, greatest_in, next_in}

-- ---- the greatest of a list, from the front
abbrev greatest : ℕ → List ℕ → ℕ
greatest top numbers = fold (λ (m : ℕ) (n : ℕ). max m n) top numbers

greatest-front : (a : ℕ) (xs : List ℕ) → greatest a xs ≡ max a (greatest 0 xs)
greatest-front a [] = omega arith
greatest-front a (x ∷ xs) =
    let one = greatest-front (max a x) xs in
    let other = greatest-front (max 0 x) xs in
    omega arith

greatest-with : (n a : ℕ) (xs : List ℕ) → greatest a (with_number n xs) ≡ max n (greatest a xs)
greatest-with n a [] = omega arith
greatest-with n a (x ∷ xs) = go (nat_lt n x) refl (n == x) refl (greatest-with n (max a x) xs)
  where
    go : (b : Bool) → nat_lt n x ≡ b → (e : Bool) → (n == x) ≡ e → greatest (max a x) (with_number n xs) ≡ max n (greatest (max a x) xs)
        → greatest a (if b then n ∷ (x ∷ xs) else (if e then x ∷ xs else x ∷ with_number n xs)) ≡ max n (greatest a (x ∷ xs))
    go true h e k rest =
        let one = greatest-front (max (max a n) x) xs in
        let other = greatest-front (max a x) xs in
        omega arith
    go false h true k rest =
        let other = greatest-front (max a x) xs in
        let same : n ≡ x = grind (arith, nat_tests) in
        omega arith
    go false h false k rest = rest

greatest-ascending : (acc numbers : List ℕ) → greatest 0 (fold (λ (xs : List ℕ) (n : ℕ). with_number n xs) acc numbers) ≡ greatest (greatest 0 acc) numbers
greatest-ascending acc [] = refl
greatest-ascending acc (n ∷ numbers) =
    let one = greatest-with n 0 acc in
    let turned : greatest 0 (with_number n acc) ≡ max (greatest 0 acc) n = omega arith in
    greatest-ascending (with_number n acc) numbers ∙ ap (λ (m : ℕ). greatest m numbers) turned

-- ---- intervals
abbrev AreFull : List Interval → Type 0
AreFull [] = Unit {0}
AreFull (i ∷ is) = (i.first ≤ i.last) × AreFull is

joined-full : (n : ℕ) (is : List Interval) → AreFull is → AreFull (joined n is)
joined-full n [] f = (omega arith, tt)
joined-full n (i ∷ rest) f = go (i.first == n + 1) refl
  where
    go : (b : Bool) → (i.first == n + 1) ≡ b → AreFull (if b then record { first = n; last = i.last } ∷ rest else record { first = n; last = n } ∷ (i ∷ rest))
    go true h =
        let low = f.0 in
        let at : i.first ≡ n + 1 = grind (arith, nat_tests) in
        (omega arith, f.1)
    go false h = (omega arith, f)

tops-front : (a : ℕ) (is : List Interval) → tops a is ≡ max a (tops 0 is)
tops-front a [] = omega arith
tops-front a (i ∷ is) =
    let one = tops-front (max a i.last) is in
    let other = tops-front (max 0 i.last) is in
    omega arith

tops-joined : (n a : ℕ) (is : List Interval) → AreFull is → tops a (joined n is) ≡ max n (tops a is)
tops-joined n a [] f = omega arith
tops-joined n a (i ∷ rest) f = go (i.first == n + 1) refl
  where
    go : (b : Bool) → (i.first == n + 1) ≡ b → tops a (if b then record { first = n; last = i.last } ∷ rest else record { first = n; last = n } ∷ (i ∷ rest)) ≡ max n (tops a (i ∷ rest))
    go true h =
        let low = f.0 in
        let at : i.first ≡ n + 1 = grind (arith, nat_tests) in
        let one = tops-front (max a i.last) rest in
        omega arith
    go false h =
        let one = tops-front (max (max a n) i.last) rest in
        let other = tops-front (max a i.last) rest in
        omega arith

intervals-full : (numbers : List ℕ) → AreFull (intervals_of numbers)
intervals-full [] = tt
intervals-full (n ∷ numbers) = joined-full n (intervals_of numbers) (intervals-full numbers)

tops-intervals : (numbers : List ℕ) → tops 0 (intervals_of numbers) ≡ greatest 0 numbers
tops-intervals [] = refl
tops-intervals (n ∷ numbers) =
    let rest = tops-intervals numbers in
    let one = tops-joined n 0 (intervals_of numbers) (intervals-full numbers) in
    let other = greatest-front (max 0 n) numbers in
    omega arith

-- ---- the set of a server
top_of : (gs : List Gtid) (server : ℕ) → tops 0 (server_set gs server).intervals ≡ greatest 0 (numbers_of server gs)
top_of gs server = tops-intervals (ascending (numbers_of server gs)) ∙ greatest-ascending [] (numbers_of server gs)

abbrev is_in : ℕ → List ℕ → Bool
is_in server servers = list_any (λ (s : ℕ). s == server) servers

greatest-map : (gs : List Gtid) (server top : ℕ) (servers : List ℕ)
    → greatest_in server top (map (server_set gs) servers) ≡ max top (if is_in server servers then greatest 0 (numbers_of server gs) else 0)
greatest-map gs server top [] = omega arith
greatest-map gs server top (s ∷ servers) = go (s == server) refl
    (greatest-map gs server (max top (greatest 0 (numbers_of server gs))) servers) (greatest-map gs server (max top 0) servers) (is_in server servers)
  where
    go : (b : Bool) → (s == server) ≡ b
        → greatest_in server (max top (greatest 0 (numbers_of server gs))) (map (server_set gs) servers) ≡ max (max top (greatest 0 (numbers_of server gs))) (if is_in server servers then greatest 0 (numbers_of server gs) else 0)
        → greatest_in server (max top 0) (map (server_set gs) servers) ≡ max (max top 0) (if is_in server servers then greatest 0 (numbers_of server gs) else 0)
        → Bool
        → greatest_in server (max top (if b then tops 0 (server_set gs s).intervals else 0)) (map (server_set gs) servers) ≡ max top (if b || is_in server servers then greatest 0 (numbers_of server gs) else 0)
    go true h one other c =
        let same : s ≡ server = grind (arith, nat_tests) in
        let top_is : tops 0 (server_set gs s).intervals ≡ greatest 0 (numbers_of server gs) = top_of gs s ∙ ap (λ (n : ℕ). greatest 0 (numbers_of n gs)) same in
        ap (λ (m : ℕ). greatest_in server (max top m) (map (server_set gs) servers)) top_is ∙ (one ∙ by (is_in server servers))
      where
        by : (c : Bool) → max (max top (greatest 0 (numbers_of server gs))) (if c then greatest 0 (numbers_of server gs) else 0) ≡ max top (greatest 0 (numbers_of server gs))
        by true = omega arith
        by false = omega arith
    go false h one other c = other ∙ ap (λ (m : ℕ). max m (if is_in server servers then greatest 0 (numbers_of server gs) else 0)) (let z : max top 0 ≡ top = omega arith in z)

-- ---- a server without numbers
or_swap : (a b c : Bool) → (a || (b || c)) ≡ (b || (a || c))
or_swap true true c = refl
or_swap true false c = refl
or_swap false b c = refl

or_twice : (b c : Bool) → (b || c) ≡ (b || (b || c))
or_twice true c = refl
or_twice false c = refl

in-with : (server n : ℕ) (xs : List ℕ) → is_in server (with_number n xs) ≡ ((n == server) || is_in server xs)
in-with server n [] = refl
in-with server n (x ∷ xs) = go (nat_lt n x) (n == x) refl (in-with server n xs)
  where
    go : (b e : Bool) → (n == x) ≡ e → is_in server (with_number n xs) ≡ ((n == server) || is_in server xs)
        → is_in server (if b then n ∷ (x ∷ xs) else (if e then x ∷ xs else x ∷ with_number n xs)) ≡ ((n == server) || ((x == server) || is_in server xs))
    go true e k rest = refl
    go false true k rest =
        let same : x ≡ n = grind (arith, nat_tests) in
        ap (λ (m : ℕ). (m == server) || is_in server xs) same ∙ (or_twice (n == server) (is_in server xs) ∙ ap (λ (m : ℕ). (n == server) || ((m == server) || is_in server xs)) (sym same))
    go false false k rest = ap (λ (b : Bool). (x == server) || b) rest ∙ or_swap (x == server) (n == server) (is_in server xs)

in-ascending : (server : ℕ) (acc numbers : List ℕ) → is_in server (fold (λ (xs : List ℕ) (n : ℕ). with_number n xs) acc numbers) ≡ (is_in server numbers || is_in server acc)
in-ascending server acc [] = refl
in-ascending server acc (n ∷ numbers) =
    in-ascending server (with_number n acc) numbers
    ∙ (ap (λ (b : Bool). is_in server numbers || b) (in-with server n acc)
    ∙ (or_swap (is_in server numbers) (n == server) (is_in server acc) ∙ or_assoc (n == server) (is_in server numbers) (is_in server acc)))
  where
    or_assoc : (a b c : Bool) → (a || (b || c)) ≡ ((a || b) || c)
    or_assoc true b c = refl
    or_assoc false b c = refl

or_false : (b : Bool) → (b || false) ≡ b
or_false true = refl
or_false false = refl

numbers-none : (server : ℕ) (gs : List Gtid) → is_in server (map (λ (g : Gtid). g.server) gs) ≡ false → numbers_of server gs ≡ []
numbers-none server [] h = refl
numbers-none server (g ∷ gs) h = go (g.server == server) refl h (numbers-none server gs)
  where
    go : (b : Bool) → (g.server == server) ≡ b → (b || is_in server (map (λ (g : Gtid). g.server) gs)) ≡ false → (is_in server (map (λ (g : Gtid). g.server) gs) ≡ false → numbers_of server gs ≡ []) → numbers_of server (g ∷ gs) ≡ []
    go true k h rest = absurd cc
    go false k h rest = rw k (rest h)

served : (server : ℕ) (gs : List Gtid) (b : Bool) → is_in server (map (λ (g : Gtid). g.server) gs) ≡ b → (if b then greatest 0 (numbers_of server gs) else 0) ≡ greatest 0 (numbers_of server gs)
served server gs true h = refl
served server gs false h = sym (ap (greatest 0) (numbers-none server gs h))

greatest-set : (server : ℕ) (gs : List Gtid) → greatest_in server 0 (set_of gs) ≡ greatest 0 (numbers_of server gs)
greatest-set server gs =
    let servers = map (λ (g : Gtid). g.server) gs in
    let G = greatest 0 (numbers_of server gs) in
    let has : is_in server (ascending servers) ≡ is_in server servers = in-ascending server [] servers ∙ or_false (is_in server servers) in
    greatest-map gs server 0 (ascending servers) ∙ (ap (λ (b : Bool). max 0 (if b then G else 0)) has ∙ (ap (λ (n : ℕ). max 0 n) (served server gs (is_in server servers) refl) ∙ (let z : max 0 G ≡ G = omega arith in z)))

pub next_is_next : (server : ℕ) (log : List Entry) → next_in server (gtids log) ≡ next_number server log
unfolding gtids
next_is_next server log = ap (λ (n : ℕ). if nat_lt n (LAST_GTID) then Some (n + 1) else None) (greatest-set server (gtids_in log))
