-- A longer beginning of a list is a beginning of it and what follows, so a chosen sequence that only grows is the beginning of the log that it grows by.
use Rattle.std.proofs.Common.{◌≡◌, ℕ, zero, suc, ◌+◌, ◌-◌, ◌<◌, ◌≤◌, true, List, [], ◌∷◌, ◌++◌, length, take, drop, refl, ap, subst, sym, ◌∙◌, arith}
use Rattle.std.specs.Prelude.{nat_lt}
use Rattle.std.proofs.lemmas.Bool.Decides.{nat_tests}
use Rattle.std.proofs.lemmas.List.{take-take}
use Rattle.ring_types.specs.declared.entries.Entry.{Entry}
use Rattle.ring_model.specs.Nodes.{Node}
use Rattle.ring_model.specs.Worlds.{grown, reach}

front_more : {X : Type 0} (n k m : ℕ) (xs : List X) → n + k ≡ m → take n xs ++ take k (drop n xs) ≡ take m xs
front_more zero k m xs is = let e : k ≡ m = omega arith in rw e refl
front_more (suc n) k zero xs is = absurd (omega arith)
front_more (suc n) zero (suc m) [] is = refl
front_more (suc n) (suc k) (suc m) [] is = refl
front_more (suc n) k (suc m) (x ∷ xs) is = ap (λ zs. x ∷ zs) (front_more n k m xs (omega arith))

longer_front : {X : Type 0} (xs ys : List X) (count : ℕ) → take (length xs) ys ≡ xs → length xs ≤ count
    → xs ++ take (count - length xs) (drop (length xs) ys) ≡ take count ys
longer_front xs ys count front longer =
    ap (λ zs. zs ++ take (count - length xs) (drop (length xs) ys)) (sym front) ∙ front_more (length xs) (count - length xs) count ys (omega arith)

grown_longer : (chosen : List Entry) (n : Node) → take (length chosen) (grown chosen n) ≡ chosen → length chosen < reach n
    → chosen ++ take (reach n - length chosen) (drop (length chosen) n.durable.log) ≡ grown chosen n
grown_longer chosen n begins longer =
    let t : nat_lt (length chosen) (reach n) ≡ true = grind (arith, nat_tests, longer) in
    let b = rw t at begins in
    let front : take (length chosen) n.durable.log ≡ chosen = sym (take-take (length chosen) (reach n) n.durable.log (omega arith)) ∙ b in
    rw t (longer_front chosen n.durable.log (reach n) front (omega arith))

-- the entries behind those that are chosen, up to how far the node went, make the chosen sequence what it becomes
pub grown_by : (chosen new more rest : List Entry) (n : Node) (known far : ℕ) → take (length chosen) (grown chosen n) ≡ chosen
    → known ≡ length chosen → far ≡ reach n → known < far
    → rest ≡ drop known n.durable.log → more ≡ take (far - known) rest → new ≡ chosen ++ more → new ≡ grown chosen n
grown_by chosen new more rest n known far begins is_known is_far longer is_rest is_more is_new =
    let same : take (far - known) (drop known n.durable.log) ≡ take (reach n - length chosen) (drop (length chosen) n.durable.log) =
    rw (is_known, is_far) refl in
    is_new
    ∙ (ap (λ (xs : List Entry). chosen ++ xs) (is_more ∙ (ap (λ (xs : List Entry). take (far - known) xs) is_rest ∙ same))
    ∙ grown_longer chosen n begins (subst (λ (k : ℕ). k < reach n) is_known (subst (λ (f : ℕ). known < f) is_far longer)))
