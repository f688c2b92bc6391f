-- Reading digits from the left: the number so far never falls.
use Rattle.std.proofs.Common.{◌≡◌, ℕ, ◌+◌, ◌-◌, ◌*◌, ◌<◌, ◌≤◌, List, [], ◌∷◌, length, get_or, drop, arith}
use Rattle.std.proofs.lemmas.List.{at_drop_more, at_drop_all}
use Rattle.schedule_text.specs.Numbers.{number_after}

pub number_grows : (n : ℕ) (ds : List ℕ) → n ≤ number_after n ds
number_grows n [] = omega arith
number_grows n (d ∷ ds) = omega (arith, number_grows (n * 10 + (d - 48)) ds)

pub number_more : (n : ℕ) (ds : List ℕ) (i : ℕ) → i < length ds → number_after n (drop i ds) ≡ number_after (n * 10 + (get_or ds i 0 - 48)) (drop (i + 1) ds)
number_more n ds i lt = at_drop_more (number_after n) ds i 0 lt

pub number_all : (n : ℕ) (ds : List ℕ) (i : ℕ) → length ds ≤ i → number_after n (drop i ds) ≡ n
number_all n ds i le = at_drop_all (number_after n) ds i le
