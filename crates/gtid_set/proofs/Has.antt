-- The canonical set has a number exactly where the list does: sorting and merging lose and add none.
use Rattle.std.proofs.Common.{◌≡◌, ℕ, ◌≤◌, Bool, true, false, cond, List, [], ◌∷◌, map, filter, fold, refl, ap, ap₂, ◌∙◌, arith}
use Rattle.std.specs.Prelude.{◌==◌, ◌&&◌, ◌||◌}
use Rattle.std.specs.List.{list_any, AllByRecursion}
use Rattle.std.proofs.lemmas.Bool.Decides.{nat_tests}
use Rattle.std.proofs.lemmas.Bool.{eqb-true}
use Rattle.ring_types.specs.Gtids.{has, interval_has, with_number, ascending, joined, intervals_of, numbers_of, server_set}
use Rattle.ring_types.specs.declared.values.Gtid.{Gtid}
use Rattle.ring_types.specs.declared.gtid_sets.Interval.{Interval}
use Rattle.gtid_set.specs.Laws.{is_among, HasExactlyThem}

-- a number stands in a list
abbrev pub among : ℕ → List ℕ → Bool
among n xs = list_any (λ (x : ℕ). x == n) xs

with_number-among : (m n : ℕ) (xs : List ℕ) → among n (with_number m xs) ≡ ((m == n) || among n xs)
with_number-among m n [] = refl
with_number-among m n (x ∷ xs) = let h = with_number-among m n xs in grind (arith, nat_tests)

or-assoc : (a b c : Bool) → ((a || b) || c) ≡ (a || (b || c))
or-assoc true b c = refl
or-assoc false b c = refl

or-comm : (a b : Bool) → (a || b) ≡ (b || a)
or-comm true true = refl
or-comm true false = refl
or-comm false true = refl
or-comm false false = refl

fold-among : (n : ℕ) (acc xs : List ℕ) → among n (fold (λ (ys : List ℕ) (m : ℕ). with_number m ys) acc xs) ≡ (among n acc || among n xs)
fold-among n acc [] = or-comm false (among n acc)
fold-among n acc (x ∷ xs) =
    fold-among n (with_number x acc) xs ∙ ap (λ (b : Bool). b || among n xs) (with_number-among x n acc ∙ or-comm (x == n) (among n acc)) ∙ or-assoc (among n acc) (x == n) (among n xs)

ascending-among : (n : ℕ) (xs : List ℕ) → among n (ascending xs) ≡ among n xs
ascending-among n xs = fold-among n [] xs

-- ---- merging

abbrev AreThere : List Interval → Type 0
AreThere is = AllByRecursion (λ (i : Interval). i.first ≤ i.last) is

joined-there : (m : ℕ) (is : List Interval) → AreThere is → AreThere (joined m is)
joined-there m [] h = (omega arith, tt)
joined-there m (i ∷ is) h = grind (arith, nat_tests)

intervals-there : (xs : List ℕ) → AreThere (intervals_of xs)
intervals-there [] = tt
intervals-there (x ∷ xs) = joined-there x (intervals_of xs) (intervals-there xs)

joined-has : (m n : ℕ) (is : List Interval) → AreThere is → list_any (interval_has n) (joined m is) ≡ ((m == n) || list_any (interval_has n) is)
joined-has m n [] h = grind (arith, nat_tests)
joined-has m n (i ∷ is) h = let first : i.first ≤ i.last = h.0 in grind (arith, nat_tests)

intervals-has : (n : ℕ) (xs : List ℕ) → list_any (interval_has n) (intervals_of xs) ≡ among n xs
intervals-has n [] = refl
intervals-has n (x ∷ xs) = joined-has x n (intervals_of xs) (intervals-there xs) ∙ ap (λ (b : Bool). (x == n) || b) (intervals-has n xs)

-- ---- servers

one_server : (gtids : List Gtid) (server n : ℕ) → list_any (interval_has n) (server_set gtids server).intervals ≡ among n (numbers_of server gtids)
one_server gtids server n = intervals-has n (ascending (numbers_of server gtids)) ∙ ascending-among n (numbers_of server gtids)

kept-among : (b : Bool) (x n : ℕ) (g : Gtid) (rest : List Gtid) → among n (map (λ (h : Gtid). h.number) (cond b (g ∷ rest) rest)) ≡ ((b && g.number == n) || among n (map (λ (h : Gtid). h.number) rest))
kept-among true x n g rest = refl
kept-among false x n g rest = refl

numbers-among : (gtids : List Gtid) (server n : ℕ) → among n (numbers_of server gtids) ≡ is_among server n gtids
numbers-among [] server n = refl
numbers-among (g ∷ gtids) server n =
    kept-among (g.server == server) 0 n g (filter (λ (h : Gtid). h.server == server) gtids)
    ∙ ap (λ (b : Bool). ((g.server == server) && (g.number == n)) || b) (numbers-among gtids server n)

spread : (p q a : Bool) → ((p && a) || (q && a)) ≡ ((p || q) && a)
spread true true true = refl
spread true true false = refl
spread true false true = refl
spread true false false = refl
spread false q a = refl

same_server : (gtids : List Gtid) (t server n : ℕ) (p : Bool) → (t == server) ≡ p → (p && list_any (interval_has n) (server_set gtids t).intervals) ≡ (p && is_among server n gtids)
same_server gtids t server n true e =
    let same : t ≡ server = eqb-true t server e in
    ap (λ (k : ℕ). list_any (interval_has n) (server_set gtids k).intervals) same ∙ one_server gtids server n ∙ numbers-among gtids server n
same_server gtids t server n false e = refl

servers-has : (gtids : List Gtid) (servers : List ℕ) (server n : ℕ) → has (map (server_set gtids) servers) server n ≡ (among server servers && is_among server n gtids)
servers-has gtids [] server n = refl
servers-has gtids (t ∷ servers) server n =
    ap₂ (λ (x y : Bool). x || y) (same_server gtids t server n (t == server) refl) (servers-has gtids servers server n)
    ∙ spread (t == server) (among server servers) (is_among server n gtids)

absorbed : (p q a b : Bool) → (a && b) ≡ b → ((p || a) && ((p && q) || b)) ≡ ((p && q) || b)
absorbed true q a b h = refl
absorbed false q a b h = h

server-there : (gtids : List Gtid) (server n : ℕ) → (among server (map (λ (g : Gtid). g.server) gtids) && is_among server n gtids) ≡ is_among server n gtids
server-there [] server n = refl
server-there (g ∷ gtids) server n = absorbed (g.server == server) (g.number == n) (among server (map (λ (h : Gtid). h.server) gtids)) (is_among server n gtids) (server-there gtids server n)

pub has_exactly_them : HasExactlyThem
has_exactly_them gtids server n =
    servers-has gtids (ascending (map (λ (g : Gtid). g.server) gtids)) server n
    ∙ ap (λ (b : Bool). b && is_among server n gtids) (ascending-among server (map (λ (g : Gtid). g.server) gtids))
    ∙ server-there gtids server n
