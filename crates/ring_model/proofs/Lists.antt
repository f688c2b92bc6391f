-- Membership of lists: what a filter keeps and what a test of a list finds, by recursion on the list.
use Rattle.std.proofs.Common.{◌≡◌, ℕ, zero, suc, ◌==◌, ◌⊎◌, inl, inr, Bool, true, false, List, [], ◌∷◌, ◌++◌, length, map, refl, ap, sym, ◌∙◌, arith, Some}
use Rattle.std.proofs.lemmas.Bool.Decides.{nat_tests}
use Rattle.std.specs.Prelude.{slice_get}
use Rattle.std.specs.List.{Contains, filter, list_any, list_all}
use Rattle.ring_model.specs.Quorums.{is_listed}

pub none_contained : {X : Type 0} (x : X) → Contains [] x → ⊥
none_contained x c = omega (arith, c.1)

pub cons_cases : {X : Type 0} (y : X) (ys : List X) (x : X) → Contains (y ∷ ys) x → (y ≡ x) ⊎ Contains ys x
cons_cases y ys x (zero, lt, is) = inl is
cons_cases y ys x (suc k, lt, is) = inr (k, omega arith, is)

pub in_cons : {X : Type 0} (y : X) (ys : List X) (x : X) → Contains ys x → Contains (y ∷ ys) x
in_cons y ys x c = (suc c.0, omega (arith, c.1), c.2)

pub filter_keeps : {X : Type 0} (p : X → Bool) (xs : List X) (x : X) → Contains xs x → p x ≡ true → Contains (filter p xs) x
filter_keeps p [] x c t = absurd (omega (arith, c.1))
filter_keeps p (y ∷ ys) x c t = elim (cons_cases y ys x c) [
  | inl here ↦ keeps_here p y ys x here t (p y) refl
  | inr there ↦ keeps_there p y ys x (filter_keeps p ys x there t) (p y) refl
]
  where
    keeps_here : {X : Type 0} (p : X → Bool) (y : X) (ys : List X) (x : X) → y ≡ x → p x ≡ true → (b : Bool) → p y ≡ b → Contains (filter p (y ∷ ys)) x
    keeps_here p y ys x here t true is = rw is (zero, omega arith, here)
    keeps_here p y ys x here t false is = absurd (let z : true ≡ false = sym t ∙ (ap p (sym here) ∙ is) in cc)

    keeps_there : {X : Type 0} (p : X → Bool) (y : X) (ys : List X) (x : X) → Contains (filter p ys) x → (b : Bool) → p y ≡ b → Contains (filter p (y ∷ ys)) x
    keeps_there p y ys x c true is = rw is (in_cons y (filter p ys) x c)
    keeps_there p y ys x c false is = rw is c

pub filter_of : {X : Type 0} (p : X → Bool) (xs : List X) (x : X) → Contains (filter p xs) x → Contains xs x
filter_of p [] x c = c
filter_of p (y ∷ ys) x c = go p y ys x (filter_of p ys x) (p y) refl c
  where
    go : {X : Type 0} (p : X → Bool) (y : X) (ys : List X) (x : X) → (Contains (filter p ys) x → Contains ys x) → (b : Bool) → p y ≡ b
        → Contains (filter p (y ∷ ys)) x → Contains (y ∷ ys) x
    go p y ys x ih true is c =
        let c' = rw is at c in elim (cons_cases y (filter p ys) x c') [ inl here ↦ (zero, omega arith, here) | inr there ↦ in_cons y ys x (ih there) ]
    go p y ys x ih false is c = let c' = rw is at c in in_cons y ys x (ih c')

pub filter_true : {X : Type 0} (p : X → Bool) (xs : List X) (x : X) → Contains (filter p xs) x → p x ≡ true
filter_true p [] x c = absurd (omega (arith, c.1))
filter_true p (y ∷ ys) x c = go p y ys x (filter_true p ys x) (p y) refl c
  where
    go : {X : Type 0} (p : X → Bool) (y : X) (ys : List X) (x : X) → (Contains (filter p ys) x → p x ≡ true) → (b : Bool) → p y ≡ b
        → Contains (filter p (y ∷ ys)) x → p x ≡ true
    go p y ys x ih true is c = let c' = rw is at c in elim (cons_cases y (filter p ys) x c') [ inl here ↦ ap p (sym here) ∙ is | inr there ↦ ih there ]
    go p y ys x ih false is c = let c' = rw is at c in ih c'

pub any_true : {X : Type 0} (p : X → Bool) (xs : List X) (x : X) → Contains xs x → p x ≡ true → list_any p xs ≡ true
any_true p [] x c t = absurd (omega (arith, c.1))
any_true p (y ∷ ys) x c t = go p y ys x t (p y) refl (cons_cases y ys x c) (λ d. any_true p ys x d t)
  where
    go : {X : Type 0} (p : X → Bool) (y : X) (ys : List X) (x : X) → p x ≡ true → (b : Bool) → p y ≡ b → (y ≡ x) ⊎ Contains ys x
        → (Contains ys x → list_any p ys ≡ true) → list_any p (y ∷ ys) ≡ true
    go p y ys x t true is c ih = rw is refl
    go p y ys x t false is (inl here) ih = absurd (let z : true ≡ false = sym t ∙ (ap p (sym here) ∙ is) in cc)
    go p y ys x t false is (inr there) ih = rw is (ih there)

pub any_of : {X : Type 0} (p : X → Bool) (xs : List X) → list_any p xs ≡ true → (x : X) × Contains xs x × (p x ≡ true)
any_of p [] t = absurd (let z : false ≡ true = t in cc)
any_of p (y ∷ ys) t = go p y ys t (p y) refl (any_of p ys)
  where
    go : {X : Type 0} (p : X → Bool) (y : X) (ys : List X) → list_any p (y ∷ ys) ≡ true → (b : Bool) → p y ≡ b
        → (list_any p ys ≡ true → (x : X) × Contains ys x × (p x ≡ true)) → (x : X) × Contains (y ∷ ys) x × (p x ≡ true)
    go p y ys t true is ih = (y, (zero, omega arith, refl), is)
    go p y ys t false is ih = let u = rw is at t in let x = ih u in (x.0, in_cons y ys x.0 x.1, x.2)

pub all_of : {X : Type 0} (p : X → Bool) (xs : List X) (x : X) → list_all p xs ≡ true → Contains xs x → p x ≡ true
all_of p [] x t c = absurd (omega (arith, c.1))
all_of p (y ∷ ys) x t c = go p y ys x t (cons_cases y ys x c) (all_of p ys x) (p y) refl
  where
    go : {X : Type 0} (p : X → Bool) (y : X) (ys : List X) (x : X) → list_all p (y ∷ ys) ≡ true → (y ≡ x) ⊎ Contains ys x
        → (list_all p ys ≡ true → Contains ys x → p x ≡ true) → (b : Bool) → p y ≡ b → p x ≡ true
    go p y ys x t (inl here) ih true is = ap p (sym here) ∙ is
    go p y ys x t (inr there) ih true is = ih (let u = rw is at t in u) there
    go p y ys x t c ih false is = absurd (let u = rw is at t in let z : false ≡ true = u in cc)

pub map_keeps : {X Y : Type 0} (f : X → Y) (xs : List X) (x : X) → Contains xs x → Contains (map f xs) (f x)
map_keeps f [] x c = absurd (omega (arith, c.1))
map_keeps f (y ∷ ys) x c =
    elim (cons_cases y ys x c) [ inl here ↦ (zero, omega arith, ap f here) | inr there ↦ in_cons (f y) (map f ys) (f x) (map_keeps f ys x there) ]

pub map_of : {X Y : Type 0} (f : X → Y) (xs : List X) (z : Y) → Contains (map f xs) z → (x : X) × Contains xs x × (f x ≡ z)
map_of f [] z c = absurd (omega (arith, c.1))
map_of f (y ∷ ys) z c = elim (cons_cases (f y) (map f ys) z c) [
  | inl here ↦ (y, (zero, omega arith, refl), here)
  | inr there ↦ let w = map_of f ys z there in (w.0, in_cons y ys w.0 w.1, w.2)
]

pub listed_contains : (xs : List ℕ) (x : ℕ) → is_listed xs x ≡ true → Contains xs x
listed_contains xs x t = let y = any_of (λ (w : ℕ). w == x) xs t in let z : y.0 ≡ x = grind (arith, nat_tests, y.2) in rw (← z) y.1

pub contains_listed : (xs : List ℕ) (x : ℕ) → Contains xs x → is_listed xs x ≡ true
contains_listed xs x c = any_true (λ (w : ℕ). w == x) xs x c (grind (arith, nat_tests))

-- ---- places
placed_first : {X : Type 0} (y : X) (x : X) → Some y ≡ Some x → y ≡ x
placed_first y x is = cc

pub placed_contains : {X : Type 0} (xs : List X) (k : ℕ) (x : X) → slice_get xs k ≡ Some x → Contains xs x
placed_contains [] k x is = absurd cc
placed_contains (y ∷ ys) zero x is = (zero, omega arith, placed_first y x is)
placed_contains (y ∷ ys) (suc k) x is = in_cons y ys x (placed_contains ys k x is)

next_place : {X : Type 0} (y : X) (ys : List X) (z x : X) (k : ℕ) → (slice_get ys k ≡ Some x) ⊎ ((k ≡ length ys) × (z ≡ x))
    → (slice_get (y ∷ ys) (suc k) ≡ Some x) ⊎ ((suc k ≡ length (y ∷ ys)) × (z ≡ x))
next_place y ys z x k (inl old) = inl old
next_place y ys z x k (inr new) = inr (ap suc new.0, new.1)

-- a place of a list with one more item is one of the list's, or the last
pub place_cases : {X : Type 0} (xs : List X) (z : X) (k : ℕ) (x : X) → slice_get (xs ++ z ∷ []) k ≡ Some x
    → (slice_get xs k ≡ Some x) ⊎ ((k ≡ length xs) × (z ≡ x))
place_cases [] z zero x is = inr (refl, placed_first z x is)
place_cases [] z (suc k) x is = absurd cc
place_cases (y ∷ ys) z zero x is = inl is
place_cases (y ∷ ys) z (suc k) x is = next_place y ys z x k (place_cases ys z k x is)
