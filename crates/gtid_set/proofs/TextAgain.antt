-- What a canonical set's text is read as is the set: no piece has the mark at which it is cut, and a number's digits and a uuid's tell it.
use Rattle.std.proofs.Common.{◌≡◌, ℕ, zero, suc, ◌+◌, ◌-◌, ◌*◌, ◌/◌, ◌%◌, ◌^◌, ◌<◌, ◌≤◌, Bool, true, false, cond, ◌==◌, nat_lt, List, [], ◌∷◌, ◌++◌, length, get_or, map, min, Option, Some, None, refl, sym, ap, ap₂, subst, ◌∙◌, append_assoc, ◌⊎◌, inl, inr, arith}
use Rattle.std.specs.Prelude.{codes, decimal}
use Rattle.std.specs.List.{flat_map, onto_first, AllByRecursion}
use Rattle.std.specs.Option.{unwrap_or, option_map}
use Rattle.std.specs.Int.{to_be_bytes, from_be_bytes, w128}
use Rattle.std.proofs.lemmas.List.{append-nil}
use Rattle.std.proofs.lemmas.Fmt.{decimal_by_steps}
use Rattle.std.proofs.lemmas.Bool.Decides.{nat_tests}
use Rattle.uuid.specs.Text.{by_index, hex_digit, nibble, digit_place, is_hyphen_place, hyphen, lower}
use Rattle.uuid.proofs.RoundTrips.{parses_hyphenated}
use Rattle.uuid.proofs.OrderLemmas.{from_be_bytes-to_be_bytes_16}
use Rattle.ring_types.specs.declared.gtid_sets.Interval.{Interval}
use Rattle.ring_types.specs.declared.gtid_sets.ServerSet.{ServerSet}
use Rattle.gtid_set.specs.Canonical.{AreMerged, AreCanonicalFrom, IsCanonical, IsSpelled}
use Rattle.gtid_set.specs.Texts.{uuid_text, range_text, interval_text, server_text, after_comma, set_text}
use Rattle.gtid_set.specs.Pieces.{pieces, number_after, of_ends, interval_in, uuid_in, of_parts, server_in, set_in}

-- ---- pieces
-- a text without a mark
abbrev IsFree : ℕ → List ℕ → Type 0
IsFree mark xs = AllByRecursion (λ (b : ℕ). (b == mark) ≡ false) xs

free-append : (mark : ℕ) (xs ys : List ℕ) → IsFree mark xs → IsFree mark ys → IsFree mark (xs ++ ys)
free-append mark [] ys f g = g
free-append mark (x ∷ xs) ys f g = (f.0, free-append mark xs ys f.1 g)

one_piece : (mark : ℕ) (xs : List ℕ) → IsFree mark xs → pieces mark xs ≡ xs ∷ []
one_piece mark [] f = refl
one_piece mark (x ∷ xs) f = rw f.0 (ap (onto_first x) (one_piece mark xs f.1))

first_piece : (mark : ℕ) (xs ys : List ℕ) → IsFree mark xs → pieces mark (xs ++ mark ∷ ys) ≡ xs ∷ pieces mark ys
first_piece mark [] ys f = let e : (mark == mark) ≡ true = grind (arith, nat_tests) in rw e refl
first_piece mark (x ∷ xs) ys f = rw f.0 (ap (onto_first x) (first_piece mark xs ys f.1))

all_pieces : {X : Type 0} (mark : ℕ) (body : X → List ℕ) (first : List ℕ) (xs : List X) → IsFree mark first → AllByRecursion (λ (x : X). IsFree mark (body x)) xs
    → pieces mark (first ++ flat_map (λ (x : X). mark ∷ body x) xs) ≡ first ∷ map body xs
all_pieces mark body first [] f g = ap (pieces mark) (append-nil first) ∙ one_piece mark first f
all_pieces mark body first (x ∷ xs) f g = first_piece mark first (body x ++ flat_map (λ y. mark ∷ body y) xs) f ∙ ap (λ (l : List (List ℕ)). first ∷ l) (all_pieces mark body (body x) xs g.0 g.1)

-- ---- numbers
abbrev AreDigits : List ℕ → Type 0
AreDigits ds = AllByRecursion (λ (d : ℕ). (48 ≤ d) × (d ≤ 57)) ds

digits-append : (xs ys : List ℕ) → AreDigits xs → AreDigits ys → AreDigits (xs ++ ys)
digits-append [] ys f g = g
digits-append (x ∷ xs) ys f g = (f.0, digits-append xs ys f.1 g)

digits-free : (mark : ℕ) (xs : List ℕ) → (mark < 48) ⊎ (57 < mark) → AreDigits xs → IsFree mark xs
digits-free mark [] m d = tt
digits-free mark (x ∷ xs) m d = (let a = d.0.0 in let b = d.0.1 in grind (arith, nat_tests), digits-free mark xs m d.1)

after-append : (n : ℕ) (xs ys : List ℕ) → number_after n (xs ++ ys) ≡ number_after (number_after n xs) ys
after-append n [] ys = refl
after-append n (x ∷ xs) ys = after-append (min (min (n * 10) (2 ^ 64 - 1) + (x - 48)) (2 ^ 64 - 1)) xs ys

record IsRead (n : ℕ) (ds : List ℕ) : Type 0 where
  digits : AreDigits ds
  value : n < 2 ^ 64 → number_after 0 ds ≡ n

read_one : (n : ℕ) → n < 10 → IsRead n ((48 + n) ∷ [])
read_one n small = record { digits = ((omega arith, omega arith), tt); value = λ fits. omega arith }

read_more : (n : ℕ) (ds : List ℕ) → 10 ≤ n → IsRead (n / 10) ds → IsRead n (ds ++ ((48 + n % 10) ∷ []))
read_more n ds big r = record {
  digits = digits-append ds ((48 + n % 10) ∷ []) r.digits ((omega arith, omega arith), tt);
  value = λ fits.
      let before : number_after 0 ds ≡ n / 10 = r.value (omega arith) in
      let last : min (min (n / 10 * 10) (2 ^ 64 - 1) + (48 + n % 10 - 48)) (2 ^ 64 - 1) ≡ n = omega arith in
      after-append 0 ds ((48 + n % 10) ∷ []) ∙ ap (λ (m : ℕ). min (min (m * 10) (2 ^ 64 - 1) + (48 + n % 10 - 48)) (2 ^ 64 - 1)) before ∙ last;
}

read_decimal : (n : ℕ) → n < 2 ^ 64 → IsRead n (decimal n)
read_decimal n fits = decimal_by_steps IsRead read_one read_more n fits

interval_by : (i : Interval) (t : Bool) → (i.first == i.last) ≡ t → i.first < 2 ^ 64 → i.last < 2 ^ 64
    → interval_in (cond t (decimal i.first) (decimal i.first ++ codes "-" ++ decimal i.last)) ≡ i
interval_by i true e f l =
    let a = read_decimal i.first f in
    let same : i.first ≡ i.last = grind (arith, nat_tests, e) in
    ap of_ends (one_piece 45 (decimal i.first) (digits-free 45 (decimal i.first) (inl (omega arith)) a.digits))
    ∙ ap₂ (λ (x y : ℕ). record { first = x; last = y }) (a.value f) (a.value f ∙ same)
interval_by i false e f l =
    let a = read_decimal i.first f in
    let b = read_decimal i.last l in
    ap interval_in (append_assoc (decimal i.first) (codes "-") (decimal i.last))
    ∙ ap of_ends (first_piece 45 (decimal i.first) (decimal i.last) (digits-free 45 (decimal i.first) (inl (omega arith)) a.digits)
    ∙ ap (λ (l : List (List ℕ)). decimal i.first ∷ l) (one_piece 45 (decimal i.last) (digits-free 45 (decimal i.last) (inl (omega arith)) b.digits)))
    ∙ ap₂ (λ (x y : ℕ). record { first = x; last = y }) (a.value f) (b.value l)

range_again : (i : Interval) → i.first < 2 ^ 64 → i.last < 2 ^ 64 → interval_in (range_text i) ≡ i
range_again i f l = interval_by i (i.first == i.last) refl f l

range_free : (mark : ℕ) (i : Interval) → (mark < 45) ⊎ (57 < mark) → i.first < 2 ^ 64 → i.last < 2 ^ 64 → IsFree mark (range_text i)
range_free mark i m f l = go (i.first == i.last)
  where
    outside : (mark < 48) ⊎ (57 < mark)
    outside = elim m [ inl a ↦ inl (omega arith) | inr b ↦ inr b ]

    go : (t : Bool) → IsFree mark (cond t (decimal i.first) (decimal i.first ++ codes "-" ++ decimal i.last))
    go true = digits-free mark (decimal i.first) outside (read_decimal i.first f).digits
    go false =
        free-append mark (decimal i.first ++ codes "-") (decimal i.last)
        (free-append mark (decimal i.first) (codes "-") (digits-free mark (decimal i.first) outside (read_decimal i.first f).digits) (grind (arith, nat_tests), tt))
        (digits-free mark (decimal i.last) outside (read_decimal i.last l).digits)

-- ---- uuids
free-index : (mark n : ℕ) (f : ℕ → ℕ) → ((k : ℕ) → (f k == mark) ≡ false) → IsFree mark (by_index n f)
unfolding by_index
free-index mark zero f h = tt
free-index mark (suc n) f h = free-append mark (by_index n f) (f n ∷ []) (free-index mark n f h) (h n, tt)

digit_free : (mark d : ℕ) (h t : Bool) → nat_lt d 10 ≡ t → (mark ≡ 44) ⊎ (mark ≡ 58) → (cond h hyphen (cond t (48 + d) (lower + d - 10)) == mark) ≡ false
digit_free mark d true t k m = elim m [ inl e ↦ grind (arith, nat_tests, e) | inr e ↦ grind (arith, nat_tests, e) ]
digit_free mark d false true k m = elim m [ inl e ↦ grind (arith, nat_tests, e, k) | inr e ↦ grind (arith, nat_tests, e, k) ]
digit_free mark d false false k m = elim m [ inl e ↦ grind (arith, nat_tests, e, k) | inr e ↦ grind (arith, nat_tests, e, k) ]

uuid_free : (mark server : ℕ) → (mark ≡ 44) ⊎ (mark ≡ 58) → IsFree mark (uuid_text server)
unfolding uuid_text
uuid_free mark server m =
    let xs = to_be_bytes w128 server in
    free-index mark 36 (λ k. cond (is_hyphen_place k) hyphen (hex_digit lower (nibble xs (digit_place k))))
    (λ k. digit_free mark (nibble xs (digit_place k)) (is_hyphen_place k) (nat_lt (nibble xs (digit_place k)) 10) refl m)

small_at : (xs : List ℕ) → AllByRecursion (λ (b : ℕ). b < 256) xs → (i d : ℕ) → i < length xs → get_or xs i d < 256
small_at [] s i d lt = absurd (omega arith)
small_at (x ∷ xs) s zero d lt = s.0
small_at (x ∷ xs) s (suc i) d lt = small_at xs s.1 i d (omega arith)

bytes_small : (n : ℕ) → AllByRecursion (λ (b : ℕ). b < 256) (to_be_bytes w128 n)
bytes_small n = (omega arith, (omega arith, (omega arith, (omega arith, (omega arith, (omega arith, (omega arith, (omega arith, (omega arith, (omega arith, (omega arith, (omega arith, (omega arith, (omega arith, (omega arith, (omega arith, tt))))))))))))))))

uuid_again : (server : ℕ) → server < 2 ^ 128 → uuid_in (uuid_text server) ≡ server
unfolding uuid_in uuid_text
uuid_again server fits =
    let xs = to_be_bytes w128 server in
    ap (λ (o : Option (List ℕ)). unwrap_or (option_map (from_be_bytes w128) o) 0) (sym (parses_hyphenated lower xs (inl refl) refl (small_at xs (bytes_small server))))
    ∙ from_be_bytes-to_be_bytes_16 server fits

-- ---- servers
ranges_again : (low : ℕ) (is : List Interval) → AreMerged low is → map interval_in (map range_text is) ≡ is
ranges_again low [] h = refl
ranges_again low (i ∷ is) h =
    ap₂ (λ (x : Interval) (xs : List Interval). x ∷ xs) (range_again i (omega (arith, h.1, h.2)) (omega (arith, h.2))) (ranges_again (i.last + 1) is h.3)

ranges_free : (mark low : ℕ) (is : List Interval) → (mark < 45) ⊎ (57 < mark) → AreMerged low is → AllByRecursion (λ (i : Interval). IsFree mark (range_text i)) is
ranges_free mark low [] m h = tt
ranges_free mark low (i ∷ is) m h = (range_free mark i m (omega (arith, h.1, h.2)) (omega (arith, h.2)), ranges_free mark (i.last + 1) is m h.3)

server_again : (low : ℕ) (s : ServerSet) (set : List ServerSet) → AreCanonicalFrom low (s ∷ set) → server_in (server_text s) ≡ s
server_again low s set h =
    ap of_parts (all_pieces 58 range_text (uuid_text s.server) s.intervals (uuid_free 58 s.server (inr refl)) (ranges_free 58 0 s.intervals (inr (omega arith)) h.3))
    ∙ ap₂ (λ (x : ℕ) (is : List Interval). record { server = x; intervals = is }) (uuid_again s.server h.1) (ranges_again 0 s.intervals h.3)

intervals_free : (low : ℕ) (is : List Interval) → AreMerged low is → IsFree 44 (flat_map interval_text is)
intervals_free low [] h = tt
intervals_free low (i ∷ is) h =
    free-append 44 (interval_text i) (flat_map interval_text is)
    (grind (arith, nat_tests), range_free 44 i (inl (omega arith)) (omega (arith, h.1, h.2)) (omega (arith, h.2)))
    (intervals_free (i.last + 1) is h.3)

servers_free : (low : ℕ) (set : List ServerSet) → AreCanonicalFrom low set → AllByRecursion (λ (s : ServerSet). IsFree 44 (server_text s)) set
servers_free low [] h = tt
servers_free low (s ∷ set) h =
    (free-append 44 (uuid_text s.server) (flat_map interval_text s.intervals) (uuid_free 44 s.server (inl refl)) (intervals_free 0 s.intervals h.3), servers_free (s.server + 1) set h.4)

servers_again : (low : ℕ) (set : List ServerSet) → AreCanonicalFrom low set → map server_in (map server_text set) ≡ set
servers_again low [] h = refl
servers_again low (s ∷ set) h = ap₂ (λ (x : ServerSet) (xs : List ServerSet). x ∷ xs) (server_again low s set h) (servers_again (s.server + 1) set h.4)

-- a text that is not empty is read piece by piece
read_pieces : (bytes : List ℕ) → 0 < length bytes → set_in bytes ≡ map server_in (pieces 44 bytes)
read_pieces [] lt = absurd (omega arith)
read_pieces (b ∷ bs) lt = refl

uuid_long : (server : ℕ) (rest : List ℕ) → 0 < length (uuid_text server ++ rest)
unfolding uuid_text by_index
uuid_long server rest = omega arith

text_again : (set : List ServerSet) → IsCanonical set → set_in (set_text set) ≡ set
text_again [] h = refl
text_again (s ∷ set) h =
    let free = servers_free 0 (s ∷ set) h in
    read_pieces (set_text (s ∷ set)) (some_text s set)
    ∙ ap (map server_in) (all_pieces 44 server_text (server_text s) set free.0 free.1)
    ∙ servers_again 0 (s ∷ set) h
  where
    some_text : (t : ServerSet) (ts : List ServerSet) → 0 < length (set_text (t ∷ ts))
    some_text t ts =
        let intervals = flat_map interval_text t.intervals in
        subst (λ (l : List ℕ). 0 < length l) (sym (append_assoc (uuid_text t.server) intervals (flat_map after_comma ts))) (uuid_long t.server (intervals ++ flat_map after_comma ts))

-- ---- a loop that looks for a mark: what it passed, put before the first piece of the rest, is the whole
abbrev pub behind : List ℕ → List (List ℕ) → List (List ℕ)
behind front [] = front ∷ []
behind front (p ∷ ps) = (front ++ p) ∷ ps

behind-chosen : (t : Bool) (b : ℕ) (x y : List (List ℕ)) → behind [] (cond t ([] ∷ x) (onto_first b y)) ≡ cond t ([] ∷ x) (onto_first b y)
behind-chosen true b x y = refl
behind-chosen false b x [] = refl
behind-chosen false b x (p ∷ ps) = refl

pub behind-pieces : (mark : ℕ) (bs : List ℕ) → behind [] (pieces mark bs) ≡ pieces mark bs
behind-pieces mark [] = refl
behind-pieces mark (b ∷ bs) = behind-chosen (b == mark) b (pieces mark bs) (pieces mark bs)

-- how much is left to be cut
abbrev pub left_of : Option (List ℕ) → ℕ
left_of None = 0
left_of (Some bytes) = length bytes + 1

-- ---- the set that a text spells
pub not_canonical : (text : List ℕ) (servers : List ServerSet) → servers ≡ set_in text → (IsCanonical servers → ⊥) → IsSpelled set_text text None
not_canonical text servers read none set h e = none (subst IsCanonical (sym (read ∙ ap set_in (sym e) ∙ text_again set h)) h)

pub not_again : (text again : List ℕ) (servers : List ServerSet) → servers ≡ set_in text → again ≡ set_text servers → (again ≡ text → ⊥) → IsSpelled set_text text None
not_again text again servers read written other set h e = other (written ∙ ap set_text (read ∙ ap set_in (sym e) ∙ text_again set h) ∙ e)
