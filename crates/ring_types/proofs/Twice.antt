-- What a list says of its first item and the rest.
use Rattle.std.proofs.Common.{◌≡◌, ℕ, ◌-◌, ◌≤◌, ◌==◌, Bool, ◌||◌, List, [], ◌∷◌, length, map, take, drop, bytes_eq, slice_index_or, refl, ap, arith}
use Rattle.std.specs.List.{list_any}
use Rattle.std.proofs.lemmas.Grind.{common_steps}
use Rattle.ring_types.specs.Names.{has_twice, has_text_twice}

pub any_map : {X Y : Type 0} (p : Y → Bool) (f : X → Y) (xs : List X) → list_any p (map f xs) ≡ list_any (λ x. p (f x)) xs
any_map p f [] = refl
any_map p f (x ∷ xs) = ap (λ b. p (f x) || b) (any_map p f xs)

abbrev rest : {X : Type 0} → List X → List X
rest xs = take (length xs - 1) (drop 1 xs)

rest-cons : {X : Type 0} (x : X) (xs : List X) → rest (x ∷ xs) ≡ xs
rest-cons x xs = grind (arith, common_steps)

pub twice_step : {X : Type 0} (f : X → ℕ) (xs : List X) (x : X) → x ≡ slice_index_or xs 0 x → 1 ≤ length xs → has_twice (map f xs) ≡ (list_any (λ y. y == f x) (map f (take (length xs - 1) (drop 1 xs))) || has_twice (map f (take (length xs - 1) (drop 1 xs))))
twice_step f [] x e l = absurd (omega arith)
twice_step f (y ∷ ys) x e l = rw (rest-cons y ys, e) refl

pub text_twice_step : {X : Type 0} (f : X → List ℕ) (xs : List X) (x : X) → x ≡ slice_index_or xs 0 x → 1 ≤ length xs → has_text_twice (map f xs) ≡ (list_any (λ y. bytes_eq y (f x)) (map f (take (length xs - 1) (drop 1 xs))) || has_text_twice (map f (take (length xs - 1) (drop 1 xs))))
text_twice_step f [] x e l = absurd (omega arith)
text_twice_step f (y ∷ ys) x e l = rw (rest-cons y ys, e) refl

pub region_twice_step : (xs : List (List ℕ)) (x : List ℕ) → x ≡ slice_index_or xs 0 x → 1 ≤ length xs → has_text_twice xs ≡ (list_any (λ y. bytes_eq y x) (take (length xs - 1) (drop 1 xs)) || has_text_twice (take (length xs - 1) (drop 1 xs)))
region_twice_step [] x e l = absurd (omega arith)
region_twice_step (y ∷ ys) x e l = rw (rest-cons y ys, e) refl
