-- of votes whose terms rise, those above a floor are the last ones
use Rattle.std.proofs.Common.{◌≡◌, ℕ, zero, suc, ◌-◌, ◌<◌, ◌≤◌, Bool, true, false, nat_lt, if◌then◌else◌, List, [], ◌∷◌, ◌++◌, length, take, drop, refl, sym, ap, ◌∙◌, arith}
use Rattle.std.specs.List.{All, AllByRecursion}
use Rattle.std.proofs.lemmas.Bool.Decides.{nat_tests}
use Rattle.ring_types.specs.declared.entries.Vote.{Vote}
use Rattle.ring_model.specs.Actions.{votes_above}
use Rattle.vote_history.specs.Rising.{AreRising}

weaker : (P Q : Vote → Type 0) (votes : List Vote) → ((v : Vote) → P v → Q v) → AllByRecursion P votes → AllByRecursion Q votes
weaker P Q [] f h = tt
weaker P Q (v ∷ votes) f h = (f v h.0, weaker P Q votes f h.1)

all-above : (floor : ℕ) (votes : List Vote) → AllByRecursion (λ (w : Vote). floor < w.term) votes → votes_above floor votes ≡ votes
all-above floor [] h = refl
all-above floor (v ∷ votes) h =
    let low = h.0 in
    let over : nat_lt floor v.term ≡ true = grind (arith, nat_tests) in
    rw over (ap (λ (vs : List Vote). v ∷ vs) (all-above floor votes h.1))

few : (floor : ℕ) (votes : List Vote) → length (votes_above floor votes) ≤ length votes
few floor [] = omega arith
few floor (v ∷ votes) = go (nat_lt floor v.term) (few floor votes)
  where
    go : (b : Bool) → length (votes_above floor votes) ≤ length votes
        → length (if b then v ∷ votes_above floor votes else votes_above floor votes) ≤ suc (length votes)
    go true h = omega arith
    go false h = omega arith

last-ones : (floor : ℕ) (votes : List Vote) → AreRising votes → drop (length votes - length (votes_above floor votes)) votes ≡ votes_above floor votes
last-ones floor [] h = refl
last-ones floor (v ∷ votes) h = go (nat_lt floor v.term) refl (last-ones floor votes h.1)
  where
    go : (b : Bool) → nat_lt floor v.term ≡ b → drop (length votes - length (votes_above floor votes)) votes ≡ votes_above floor votes
        → drop (suc (length votes) - length (if b then v ∷ votes_above floor votes else votes_above floor votes)) (v ∷ votes)
        ≡ (if b then v ∷ votes_above floor votes else votes_above floor votes)
    go true is more =
        let over : floor < v.term = grind (arith, nat_tests) in
        let all = all-above floor votes (weaker (λ (w : Vote). v.term < w.term) (λ (w : Vote). floor < w.term) votes
        (λ w up. (let z : floor < w.term = omega arith in z)) h.0) in
        let size : length (votes_above floor votes) ≡ length votes = ap length all in
        let none : suc (length votes) - suc (length (votes_above floor votes)) ≡ 0 = omega arith in
        ap (λ (k : ℕ). drop k (v ∷ votes)) none ∙ ap (λ (vs : List Vote). v ∷ vs) (sym all)
    go false is more =
        let small = few floor votes in
        let one : suc (length votes) - length (votes_above floor votes) ≡ suc (length votes - length (votes_above floor votes)) = omega arith in
        ap (λ (k : ℕ). drop k (v ∷ votes)) one ∙ more

take-front : (xs ys : List Vote) (n : ℕ) → n ≡ length xs → take n (xs ++ ys) ≡ xs
take-front [] ys n h = ap (λ (k : ℕ). take k ys) h
take-front (x ∷ xs) ys zero h = absurd (omega arith)
take-front (x ∷ xs) ys (suc n) h = ap (λ (zs : List Vote). x ∷ zs) (take-front xs ys n (omega arith))

pub drops : (floor : ℕ) (votes : List Vote) (kept gone : ℕ) → AreRising votes → kept ≡ length (votes_above floor votes) → gone ≡ length votes - kept
    → take kept (drop gone votes ++ take gone votes) ≡ votes_above floor votes
drops floor votes kept gone rising k g =
    let at : gone ≡ length votes - length (votes_above floor votes) = omega arith in
    let ones : drop gone votes ≡ votes_above floor votes = ap (λ (n : ℕ). drop n votes) at ∙ last-ones floor votes rising in
    let size : kept ≡ length (drop gone votes) = k ∙ ap length (sym ones) in
    take-front (drop gone votes) (take gone votes) kept size ∙ ones

-- ---- terms rise still
pub rising-above : (floor : ℕ) (votes : List Vote) → AreRising votes → AreRising (votes_above floor votes)
rising-above floor [] h = tt
rising-above floor (v ∷ votes) h = go (nat_lt floor v.term) (rising-above floor votes h.1) (filtered votes h.0)
  where
    filtered : (vs : List Vote) → AllByRecursion (λ (w : Vote). v.term < w.term) vs → AllByRecursion (λ (w : Vote). v.term < w.term) (votes_above floor vs)
    filtered [] h = tt
    filtered (x ∷ vs) h = by (nat_lt floor x.term) (filtered vs h.1)
      where
        by : (b : Bool) → AllByRecursion (λ (w : Vote). v.term < w.term) (votes_above floor vs)
            → AllByRecursion (λ (w : Vote). v.term < w.term) (if b then x ∷ votes_above floor vs else votes_above floor vs)
        by true more = (h.0, more)
        by false more = more

    go : (b : Bool) → AreRising (votes_above floor votes) → AllByRecursion (λ (w : Vote). v.term < w.term) (votes_above floor votes)
        → AreRising (if b then v ∷ votes_above floor votes else votes_above floor votes)
    go true more all = (all, more)
    go false more all = more

all-more : (P : Vote → Type 0) (votes : List Vote) (w : Vote) → AllByRecursion P votes → P w → AllByRecursion P (votes ++ w ∷ [])
all-more P [] w h one = (one, tt)
all-more P (v ∷ votes) w h one = (h.0, all-more P votes w h.1 one)

pub rising-more : (votes : List Vote) (w : Vote) → AreRising votes → All (λ (v : Vote). v.term < w.term) votes → AreRising (votes ++ w ∷ [])
rising-more [] w h below = (tt, tt)
rising-more (v ∷ votes) w h below =
    (all-more (λ (x : Vote). v.term < x.term) votes w h.0 (below 0 v (omega arith)), rising-more votes w h.1 (λ k d inside. below (suc k) d (omega arith)))

pub rising-if : (pushed : Bool) (votes : List Vote) (w : Vote) → AreRising votes → All (λ (v : Vote). v.term < w.term) votes
    → AreRising (if pushed then votes ++ w ∷ [] else votes)
rising-if true votes w h below = rising-more votes w h below
rising-if false votes w h below = h
