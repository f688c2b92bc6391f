-- Places of a list: the one item that passes a test, and what a change of that item makes of the list.
use Rattle.std.proofs.Common.{◌≡◌, ℕ, zero, suc, ◌==◌, ◌||◌, Bool, true, false, List, [], ◌∷◌, map, Option, Some, None, refl, ap, sym, ◌∙◌, arith, option_map, position}
use Rattle.std.specs.Prelude.{slice_get, slice_set}
use Rattle.std.specs.List.{list_any}
use Rattle.std.proofs.lemmas.Bool.Decides.{nat_tests}
use Rattle.ring_types.specs.declared.members.Member.{Member}
use Rattle.ring_types.specs.Names.{has_twice}

-- the test passes at this place alone
abbrev pub IsOnly : {X : Type 0} → (X → Bool) → List X → ℕ → Type 0
IsOnly p [] k = ⊥
IsOnly p (x ∷ xs) zero = (p x ≡ true) × (list_any p xs ≡ false)
IsOnly p (x ∷ xs) (suc k) = (p x ≡ false) × IsOnly p xs k

-- ---- where the item is
position-first : {X : Type 0} (p : X → Bool) (x : X) (xs : List X) → p x ≡ true → position p (x ∷ xs) ≡ Some 0
position-first p x xs t = grind (arith, nat_tests)

position-later : {X : Type 0} (p : X → Bool) (x : X) (xs : List X) → p x ≡ false → position p (x ∷ xs) ≡ option_map suc (position p xs)
position-later p x xs f = grind (arith, nat_tests)

none_of_two : (a b : Bool) → (a || b) ≡ false → (a ≡ false) × (b ≡ false)
none_of_two true b f = absurd (let z : true ≡ false = f in cc)
none_of_two false b f = (refl, f)

any_map : {X : Type 0} (f : X → ℕ) (n : ℕ) (xs : List X) → list_any (λ y. y == n) (map f xs) ≡ list_any (λ x. f x == n) xs
any_map f n [] = refl
any_map f n (x ∷ xs) = ap (λ b. (f x == n) || b) (any_map f n xs)

later_place : {X : Type 0} (p : X → Bool) (xs : List X) (k : ℕ) (o : Option ℕ) → position p xs ≡ o → option_map suc o ≡ Some k → (j : ℕ) × (position p xs ≡ Some j) × (k ≡ suc j)
later_place p xs k None is e = absurd cc
later_place p xs k (Some j) is e = (j, is, cc)

-- the number of a member stands once, so its place is its alone
pub only_place : (id : ℕ) (ms : List Member) (k : ℕ) → position (λ (m : Member). m.id == id) ms ≡ Some k → has_twice (map (λ (m : Member). m.id) ms) ≡ false → IsOnly (λ (m : Member). m.id == id) ms k
only_place id [] k at once = absurd cc
only_place id (m ∷ ms) k at once = go id m ms k at (none_of_two _ _ once) (only_place id ms) (m.id == id) refl
  where
    go : (id : ℕ) (m : Member) (ms : List Member) (k : ℕ) → position (λ (x : Member). x.id == id) (m ∷ ms) ≡ Some k
        → (list_any (λ y. y == m.id) (map (λ (x : Member). x.id) ms) ≡ false) × (has_twice (map (λ (x : Member). x.id) ms) ≡ false)
        → ((j : ℕ) → position (λ (x : Member). x.id == id) ms ≡ Some j → has_twice (map (λ (x : Member). x.id) ms) ≡ false → IsOnly (λ (x : Member). x.id == id) ms j)
        → (b : Bool) → (m.id == id) ≡ b → IsOnly (λ (x : Member). x.id == id) (m ∷ ms) k
    go id m ms k at once ih true t =
        let e : m.id ≡ id = grind (arith, nat_tests) in
        let z : k ≡ 0 = let f = position-first (λ (x : Member). x.id == id) m ms t in cc in
        let none : list_any (λ (x : Member). x.id == id) ms ≡ false = rw (← e) (sym (any_map (λ (x : Member). x.id) m.id ms) ∙ once.0) in
        rw z (t, none)
    go id m ms k at once ih false f =
        let j = later_place (λ (x : Member). x.id == id) ms k _ refl (sym (position-later (λ (x : Member). x.id == id) m ms f) ∙ at) in
        rw j.2 (f, ih j.0 j.1 once.1)

pub none_found : {X : Type 0} (p : X → Bool) (xs : List X) → position p xs ≡ None → list_any p xs ≡ false
none_found p [] at = refl
none_found p (x ∷ xs) at = go p x xs at (none_found p xs) (p x) refl
  where
    rest : {X : Type 0} (p : X → Bool) (xs : List X) (o : Option ℕ) → position p xs ≡ o → option_map suc o ≡ None → position p xs ≡ None
    rest p xs None is e = is
    rest p xs (Some j) is e = absurd cc

    go : {X : Type 0} (p : X → Bool) (x : X) (xs : List X) → position p (x ∷ xs) ≡ None → (position p xs ≡ None → list_any p xs ≡ false) → (b : Bool) → p x ≡ b → list_any p (x ∷ xs) ≡ false
    go p x xs at ih true t = absurd (let f = position-first p x xs t in let z : Some 0 ≡ None = sym f ∙ at in cc)
    go p x xs at ih false f = rw f (ih (rest p xs _ refl (sym (position-later p x xs f) ∙ at)))

-- ---- what is found there, and what a change makes of the list
pub only_found : {X : Type 0} (p : X → Bool) (xs : List X) (k : ℕ) → IsOnly p xs k → (x : X) × (slice_get xs k ≡ Some x) × (p x ≡ true)
only_found p [] k h = absurd h
only_found p (x ∷ xs) zero h = (x, refl, h.0)
only_found p (x ∷ xs) (suc k) h = only_found p xs k h.1

pub only_any : {X : Type 0} (p : X → Bool) (xs : List X) (k : ℕ) → IsOnly p xs k → list_any p xs ≡ true
only_any p [] k h = absurd h
only_any p (x ∷ xs) zero h = rw h.0 refl
only_any p (x ∷ xs) (suc k) h = rw h.0 (only_any p xs k h.1)

-- two functions that agree where the test does not pass
pub map_apart : {X Y : Type 0} (p : X → Bool) (f g : X → Y) (xs : List X) → ((x : X) → p x ≡ false → g x ≡ f x) → list_any p xs ≡ false → map f xs ≡ map g xs
map_apart p f g [] apart none = refl
map_apart p f g (x ∷ xs) apart none =
    let n = none_of_two _ _ none in
    let here = apart x n.0 in
    let rest = map_apart p f g xs apart n.1 in
    cc

-- a change at the place is a change of the function at the item
pub map_set_only : {X Y : Type 0} (p : X → Bool) (f g : X → Y) (y : Y) (xs : List X) (k : ℕ) → ((x : X) → p x ≡ true → g x ≡ y) → ((x : X) → p x ≡ false → g x ≡ f x) → IsOnly p xs k → slice_set (map f xs) k y ≡ map g xs
map_set_only p f g y [] k here apart h = absurd h
map_set_only p f g y (x ∷ xs) zero here apart h =
    let a = here x h.0 in
    let rest = map_apart p f g xs apart h.1 in
    cc
map_set_only p f g y (x ∷ xs) (suc k) here apart h =
    let a = apart x h.0 in
    let rest = map_set_only p f g y xs k here apart h.1 in
    cc
