-- A loop that looks for the end of the first piece: what it passed, put before the first piece of the rest, is the whole.
use Rattle.std.proofs.Common.{◌≡◌, ℕ, ◌+◌, ◌<◌, ◌≤◌, ◌==◌, Bool, true, false, cond, not, ◌&&◌, List, [], ◌∷◌, ◌++◌, length, get_or, take, drop, refl, sym, ap, ◌∙◌, append_assoc, arith, Option, Some, None}
use Rattle.std.specs.List.{onto_first, slice_split}
use Rattle.std.proofs.lemmas.Bool.Decides.{nat_tests}
use Rattle.std.proofs.lemmas.List.{append-nil, take_all, at_drop_more, at_drop_all, take_more}
use Rattle.schedule_text.specs.Cutting.{still_quoted, pieces, pieces_after, first_of}

-- the pieces, with a front put before the first
abbrev pub behind : List ℕ → List (List ℕ) → List (List ℕ)
behind front [] = front ∷ []
behind front (p ∷ ps) = (front ++ p) ∷ ps

behind-onto : (front : List ℕ) (b : ℕ) (ps : List (List ℕ)) → behind front (onto_first b ps) ≡ behind (front ++ b ∷ []) ps
behind-onto front b [] = refl
behind-onto front b (p ∷ ps) = ap (λ (x : List ℕ). x ∷ ps) (sym (append_assoc front (b ∷ []) p))

behind-chosen : (t : Bool) (b : ℕ) (x y : List (List ℕ)) → behind [] (cond t ([] ∷ x) (onto_first b y)) ≡ cond t ([] ∷ x) (onto_first b y)
behind-chosen true b x y = refl
behind-chosen false b x [] = refl
behind-chosen false b x (p ∷ ps) = refl

pub behind-pieces : (at : ℕ) (q : Bool) (bs : List ℕ) → behind [] (pieces at q bs) ≡ pieces at q bs
behind-pieces at q [] = refl
behind-pieces at q (b ∷ bs) = behind-chosen (b == at && not q) b (pieces at false bs) (pieces at (still_quoted q b) bs)

pub cut_end : (at : ℕ) (q : Bool) (bs : List ℕ) (i : ℕ) → length bs ≤ i → behind (take i bs) (pieces at q (drop i bs)) ≡ take i bs ∷ pieces_after at (drop i bs)
cut_end at q bs i le =
    at_drop_all (λ (rest : List ℕ). behind (take i bs) (pieces at q rest)) bs i le
    ∙ ap (λ (x : List ℕ). x ∷ []) (append-nil (take i bs))
    ∙ sym (at_drop_all (λ (rest : List ℕ). take i bs ∷ pieces_after at rest) bs i le)

pub cut_here : (at : ℕ) (q : Bool) (bs : List ℕ) (i : ℕ) → i < length bs → get_or bs i 0 ≡ at → q ≡ false → behind (take i bs) (pieces at q (drop i bs)) ≡ take i bs ∷ pieces_after at (drop i bs)
cut_here at q bs i lt is out =
    let h : (get_or bs i 0 == at && not q) ≡ true = grind (arith, nat_tests) in
    at_drop_more (λ (rest : List ℕ). behind (take i bs) (pieces at q rest)) bs i 0 lt
    ∙ rw h (ap (λ (x : List ℕ). x ∷ pieces at false (drop (i + 1) bs)) (append-nil (take i bs)))
    ∙ sym (at_drop_more (λ (rest : List ℕ). take i bs ∷ pieces_after at rest) bs i 0 lt)

-- ---- lines
abbrev pub is_line_feed : ℕ → Bool
is_line_feed b = b == 10

pub behind-lines : (bs : List ℕ) → behind [] (slice_split is_line_feed bs) ≡ slice_split is_line_feed bs
behind-lines [] = refl
behind-lines (b ∷ bs) = behind-chosen (b == 10) b (slice_split is_line_feed bs) (slice_split is_line_feed bs)

pub line_here : (bs : List ℕ) (i : ℕ) → i < length bs → get_or bs i 0 ≡ 10 → behind (take i bs) (slice_split is_line_feed (drop i bs)) ≡ take i bs ∷ slice_split is_line_feed (drop (i + 1) bs)
line_here bs i lt is =
    at_drop_more (λ (rest : List ℕ). behind (take i bs) (slice_split is_line_feed rest)) bs i 0 lt
    ∙ rw is (ap (λ (x : List ℕ). x ∷ slice_split is_line_feed (drop (i + 1) bs)) (append-nil (take i bs)))

pub line_more : (bs : List ℕ) (i : ℕ) → i < length bs → (get_or bs i 0 == 10) ≡ false
    → behind (take i bs) (slice_split is_line_feed (drop i bs)) ≡ behind (take (i + 1) bs) (slice_split is_line_feed (drop (i + 1) bs))
line_more bs i lt h =
    at_drop_more (λ (rest : List ℕ). behind (take i bs) (slice_split is_line_feed rest)) bs i 0 lt
    ∙ rw h (behind-onto (take i bs) (get_or bs i 0) (slice_split is_line_feed (drop (i + 1) bs)))
    ∙ ap (λ (front : List ℕ). behind front (slice_split is_line_feed (drop (i + 1) bs))) (sym (take_more bs i 0 lt))

pub line_end : (bs : List ℕ) (i : ℕ) → i ≡ length bs → behind (take i bs) (slice_split is_line_feed (drop i bs)) ≡ bs ∷ []
line_end bs i is =
    at_drop_all (λ (rest : List ℕ). behind (take i bs) (slice_split is_line_feed rest)) bs i (omega arith)
    ∙ ap (λ (x : List ℕ). x ∷ []) (append-nil (take i bs) ∙ take_all i bs (omega arith))

-- ---- the first of several
abbrev joined : {A : Type 0} → Option (A × List A) → List A
joined None = []
joined (Some p) = p.0 ∷ p.1

pub first-Some : {A : Type 0} (xs : List A) (x : A) (rest : List A) → first_of xs ≡ Some (x, rest) → xs ≡ x ∷ rest
first-Some [] x rest e = absurd cc
first-Some (y ∷ ys) x rest e = ap joined e

pub first-None : {A : Type 0} (xs : List A) → first_of xs ≡ None → xs ≡ []
first-None [] e = refl
first-None (y ∷ ys) e = absurd cc
