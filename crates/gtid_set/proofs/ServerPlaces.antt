-- The servers before the count stay as they are; what happens behind is told by the next server alone.
use Rattle.std.proofs.Common.{◌≡◌, ℕ, zero, suc, ◌+◌, ◌<◌, ◌≤◌, Bool, true, false, cond, ◌==◌, List, [], ◌∷◌, ◌++◌, length, get_or, set, take, drop, nat_lt, refl, sym, ap, ap₂, subst, ◌∙◌, add-one, arith}
use Rattle.std.specs.List.{insert, remove}
use Rattle.std.proofs.lemmas.Bool.Decides.{nat_tests}
use Rattle.std.proofs.lemmas.List.{drop_more, at_drop_more, get_or-set_same, set_split, take-append-drop, take-set, drop-set-lt}
use Rattle.ring_types.specs.declared.gtid_sets.Interval.{Interval}
use Rattle.ring_types.specs.declared.gtid_sets.ServerSet.{ServerSet}
use Rattle.gtid_set.specs.Canonical.{AreMerged, AreCanonicalFrom, IsCanonical}
use Rattle.gtid_set.specs.Ranges.{with_range, without}
use Rattle.gtid_set.specs.Servers.{servers_below, begins_with, lone, range_here, range_in, ranges_in, left, number_here, number_out}

pub below_within : (server : ℕ) (xs : List ServerSet) → servers_below server xs ≤ length xs
below_within server [] = omega arith
below_within server (s ∷ xs) = below_by (servers_below server xs) (length xs) (nat_lt s.server server) (below_within server xs)
  where
    below_by : (e n : ℕ) (b : Bool) → e ≤ n → cond b (suc e) 0 ≤ suc n
    below_by e n true le = omega arith
    below_by e n false le = omega arith

canonical_at : (low k : ℕ) (d : ServerSet) (xs : List ServerSet) → AreCanonicalFrom low xs → k < length xs → AreMerged 0 (get_or xs k d).intervals
canonical_at low k d [] h lt = absurd (omega arith)
canonical_at low zero d (s ∷ xs) h lt = h.3
canonical_at low (suc k) d (s ∷ xs) h lt = canonical_at (s.server + 1) k d xs h.4 (omega arith)

server_place : (k : ℕ) (x : ServerSet) (xs : List ServerSet) → k < length xs → x ≡ get_or xs k x → drop k xs ≡ x ∷ drop (k + 1) xs
server_place k x xs lt e = drop_more xs k x lt ∙ ap (λ (y : ServerSet). y ∷ drop (k + 1) xs) (sym e)

begins-server : (server k : ℕ) (x : ServerSet) (xs : List ServerSet) → k < length xs → x ≡ get_or xs k x → begins_with server (drop k xs) ≡ (x.server == server)
begins-server server k x xs lt e = ap (begins_with server) (server_place k x xs lt e)

-- ---- a range put in
in_by : (server : ℕ) (i : Interval) (s : ServerSet) (xs : List ServerSet) (t : Bool) → range_in server i xs ≡ take (servers_below server xs) xs ++ range_here server i (drop (servers_below server xs) xs)
    → cond t (s ∷ range_in server i xs) (range_here server i (s ∷ xs)) ≡ take (cond t (suc (servers_below server xs)) 0) (s ∷ xs) ++ range_here server i (drop (cond t (suc (servers_below server xs)) 0) (s ∷ xs))
in_by server i s xs true more = ap (λ (ys : List ServerSet). s ∷ ys) more
in_by server i s xs false more = refl

in_split : (server : ℕ) (i : Interval) (xs : List ServerSet) → range_in server i xs ≡ take (servers_below server xs) xs ++ range_here server i (drop (servers_below server xs) xs)
in_split server i [] = refl
in_split server i (s ∷ xs) = in_by server i s xs (nat_lt s.server server) (in_split server i xs)

in_at : (server k : ℕ) (i : Interval) (xs : List ServerSet) → k ≡ servers_below server xs → take k xs ++ range_here server i (drop k xs) ≡ range_in server i xs
in_at server k i xs e = ap (λ (j : ℕ). take j xs ++ range_here server i (drop j xs)) e ∙ sym (in_split server i xs)

here_alone : (server : ℕ) (i : Interval) (xs : List ServerSet) → begins_with server xs ≡ false → range_here server i xs ≡ lone server i ∷ xs
here_alone server i [] h = refl
here_alone server i (s ∷ xs) h = rw h refl

here_joined : (server : ℕ) (i : Interval) (s : ServerSet) (xs : List ServerSet) → (s.server == server) ≡ true
    → range_here server i (s ∷ xs) ≡ record { server = s.server; intervals = with_range i.first i.last s.intervals } ∷ xs
here_joined server i s xs h = rw h refl

pub put_new : (server k : ℕ) (i : Interval) (xs : List ServerSet) → k ≡ servers_below server xs → begins_with server (drop k xs) ≡ false → insert xs k (lone server i) ≡ range_in server i xs
put_new server k i xs e h = ap (λ (ys : List ServerSet). take k xs ++ ys) (sym (here_alone server i (drop k xs) h)) ∙ in_at server k i xs e

set_here : (k : ℕ) (y : ServerSet) (xs ys : List ServerSet) → k < length xs → y ∷ drop (k + 1) xs ≡ ys → set xs k y ≡ take k xs ++ ys
set_here k y xs ys lt e =
    set_split xs k y lt ∙ ap (λ (j : ℕ). take k xs ++ (y ∷ drop j xs)) (sym (add-one k)) ∙ ap (λ (zs : List ServerSet). take k xs ++ zs) e

pub put_known : (server k : ℕ) (i : Interval) (x : ServerSet) (xs : List ServerSet) → k ≡ servers_below server xs → k < length xs → x ≡ get_or xs k x → begins_with server (drop k xs) ≡ true
    → set xs k (record { server = x.server; intervals = with_range i.first i.last x.intervals }) ≡ range_in server i xs
put_known server k i x xs e lt read h =
    let t : (x.server == server) ≡ true = sym (begins-server server k x xs lt read) ∙ h in
    set_here k (record { server = x.server; intervals = with_range i.first i.last x.intervals }) xs (range_here server i (drop k xs)) lt
    (sym (here_joined server i x (drop (k + 1) xs) t) ∙ sym (ap (range_here server i) (server_place k x xs lt read)))
    ∙ in_at server k i xs e

-- ---- a number taken out
out_by : (server n : ℕ) (s : ServerSet) (xs : List ServerSet) (t : Bool) → number_out server n xs ≡ take (servers_below server xs) xs ++ number_here server n (drop (servers_below server xs) xs)
    → cond t (s ∷ number_out server n xs) (number_here server n (s ∷ xs)) ≡ take (cond t (suc (servers_below server xs)) 0) (s ∷ xs) ++ number_here server n (drop (cond t (suc (servers_below server xs)) 0) (s ∷ xs))
out_by server n s xs true more = ap (λ (ys : List ServerSet). s ∷ ys) more
out_by server n s xs false more = refl

out_split : (server n : ℕ) (xs : List ServerSet) → number_out server n xs ≡ take (servers_below server xs) xs ++ number_here server n (drop (servers_below server xs) xs)
out_split server n [] = refl
out_split server n (s ∷ xs) = out_by server n s xs (nat_lt s.server server) (out_split server n xs)

out_at : (server n k : ℕ) (xs : List ServerSet) → k ≡ servers_below server xs → take k xs ++ number_here server n (drop k xs) ≡ number_out server n xs
out_at server n k xs e = ap (λ (j : ℕ). take j xs ++ number_here server n (drop j xs)) e ∙ sym (out_split server n xs)

here_none : (server n : ℕ) (xs : List ServerSet) → begins_with server xs ≡ false → number_here server n xs ≡ xs
here_none server n [] h = refl
here_none server n (s ∷ xs) h = rw h refl

here_left : (server n : ℕ) (s : ServerSet) (xs : List ServerSet) → (s.server == server) ≡ true → number_here server n (s ∷ xs) ≡ left s.server (without n s.intervals) ++ xs
here_left server n s xs h = rw h refl

pub take_none : (server n k : ℕ) (xs : List ServerSet) → k ≡ servers_below server xs → begins_with server (drop k xs) ≡ false → xs ≡ number_out server n xs
take_none server n k xs e h = sym (take-append-drop k xs) ∙ ap (λ (ys : List ServerSet). take k xs ++ ys) (sym (here_none server n (drop k xs) h)) ∙ out_at server n k xs e

left_some : (server : ℕ) (is : List Interval) → 0 < length is → left server is ≡ record { server = server; intervals = is } ∷ []
left_some server [] lt = absurd (omega arith)
left_some server (i ∷ is) lt = refl

pub take_part : (server n k : ℕ) (x : ServerSet) (xs : List ServerSet) → k ≡ servers_below server xs → k < length xs → x ≡ get_or xs k x → begins_with server (drop k xs) ≡ true
    → 0 < length (without n x.intervals) → set xs k (record { server = x.server; intervals = without n x.intervals }) ≡ number_out server n xs
take_part server n k x xs e lt read h some =
    let t : (x.server == server) ≡ true = sym (begins-server server k x xs lt read) ∙ h in
    set_here k (record { server = x.server; intervals = without n x.intervals }) xs (number_here server n (drop k xs)) lt
    (ap (λ (l : List ServerSet). l ++ drop (k + 1) xs) (sym (left_some x.server (without n x.intervals) some))
    ∙ sym (here_left server n x (drop (k + 1) xs) t) ∙ sym (ap (number_here server n) (server_place k x xs lt read)))
    ∙ out_at server n k xs e

pub take_whole : (server n k : ℕ) (x y : ServerSet) (xs : List ServerSet) → k ≡ servers_below server xs → k < length xs → x ≡ get_or xs k x → begins_with server (drop k xs) ≡ true
    → without n x.intervals ≡ [] → remove (set xs k y) k ≡ number_out server n xs
take_whole server n k x y xs e lt read h none =
    let t : (x.server == server) ≡ true = sym (begins-server server k x xs lt read) ∙ h in
    ap₂ (λ (a b : List ServerSet). a ++ b) (take-set xs k y) (drop-set-lt (suc k) xs k y (omega arith) ∙ ap (λ (j : ℕ). drop j xs) (sym (add-one k)))
    ∙ ap (λ (ys : List ServerSet). take k xs ++ ys)
    (ap (λ (l : List Interval). left x.server l ++ drop (k + 1) xs) (sym none) ∙ sym (here_left server n x (drop (k + 1) xs) t) ∙ sym (ap (number_here server n) (server_place k x xs lt read)))
    ∙ out_at server n k xs e

-- ---- what the code reads
pub canonical_read : (k : ℕ) (x : ServerSet) (xs : List ServerSet) → IsCanonical xs → k < length xs → x ≡ get_or xs k x → AreMerged 0 x.intervals
canonical_read k x xs h lt e = let m = canonical_at 0 k x xs h lt in subst (λ (y : ServerSet). AreMerged 0 y.intervals) (sym e) m

pub none_left : (k : ℕ) (x y : ServerSet) (xs : List ServerSet) (ys : List Interval) → k < length xs → x ≡ get_or (set xs k y) k x → ys ≡ x.intervals → (length ys == 0) ≡ true → y.intervals ≡ []
none_left k x y xs ys lt read is none =
    let same : ys ≡ y.intervals = is ∙ ap (λ (s : ServerSet). s.intervals) (read ∙ get_or-set_same xs k y x lt) in
    let zero_long : length ys ≡ 0 = grind (arith, nat_tests, none) in
    sym same ∙ empty_by ys zero_long
  where
    empty_by : (zs : List Interval) → length zs ≡ 0 → zs ≡ []
    empty_by [] e = refl
    empty_by (z ∷ zs) e = absurd (omega arith)

pub some_left : (k : ℕ) (x y : ServerSet) (xs : List ServerSet) (ys : List Interval) → k < length xs → x ≡ get_or (set xs k y) k x → ys ≡ x.intervals → (length ys == 0) ≡ false → 0 < length y.intervals
some_left k x y xs ys lt read is some =
    let same : ys ≡ y.intervals = is ∙ ap (λ (s : ServerSet). s.intervals) (read ∙ get_or-set_same xs k y x lt) in
    let long : 0 < length ys = grind (arith, nat_tests, some) in
    subst (λ (zs : List Interval). 0 < length zs) same long
