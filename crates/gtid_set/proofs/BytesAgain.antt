-- What a canonical set's bytes are read as is the set: each part is read where it was written, whatever follows.
use Rattle.std.proofs.Common.{◌≡◌, ℕ, zero, suc, ◌+◌, ◌-◌, ◌^◌, ◌<◌, ◌≤◌, Bool, true, false, ◌&&◌, List, [], ◌∷◌, ◌++◌, length, nat_lt, nat_le, Option, Some, None, refl, sym, ap, subst, ◌∙◌, append_assoc, arith}
use Rattle.std.specs.List.{flat_map}
use Rattle.std.proofs.lemmas.List.{append-nil, length-append}
use Rattle.std.proofs.lemmas.Bool.Decides.{nat_tests}
use Rattle.ring_types.specs.declared.gtid_sets.Interval.{Interval}
use Rattle.ring_types.specs.declared.gtid_sets.ServerSet.{ServerSet}
use Rattle.gtid_set.specs.Canonical.{AreMerged, AreCanonicalFrom, IsCanonical, IsSpelled}
use Rattle.gtid_set.specs.Bytes.{number_bytes, uuid_bytes, interval_bytes, server_bytes, set_bytes}
use Rattle.gtid_set.specs.Reading.{and_then, interval_at, intervals_at, server_at, servers_at, set_at, are_merged, is_whole, are_canonical}
use Rattle.gtid_set.proofs.Numbers.{number_again, uuid_again}

interval_again : (i : Interval) (rest : List ℕ) → i.first < 2 ^ 63 → i.last < 2 ^ 63 → interval_at (interval_bytes i ++ rest) ≡ Some (i, rest)
interval_again i rest f l =
    ap interval_at (append_assoc (number_bytes i.first) (number_bytes (i.last + 1)) rest)
    ∙ rw (number_again i.first (number_bytes (i.last + 1) ++ rest) (omega arith)) (rw (number_again (i.last + 1) rest (omega arith))
    (let back : i.last + 1 - 1 ≡ i.last = omega arith in ap (λ (m : ℕ). Some (record { first = i.first; last = m }, rest)) back))

intervals_again : (low : ℕ) (found is : List Interval) (rest : List ℕ) → AreMerged low is → intervals_at found (length is) (flat_map interval_bytes is ++ rest) ≡ Some (found ++ is, rest)
intervals_again low found [] rest h = ap (λ (l : List Interval). Some (l, rest)) (sym (append-nil found))
intervals_again low found (i ∷ is) rest h =
    let top : i.last < 2 ^ 63 = omega (arith, h.2) in
    let first : i.first < 2 ^ 63 = omega (arith, h.1, h.2) in
    ap (λ (bytes : List ℕ). intervals_at found (length (i ∷ is)) bytes) (append_assoc (interval_bytes i) (flat_map interval_bytes is) rest)
    ∙ ap (λ (r : Option (Interval × List ℕ)). and_then r (λ (j : Interval) (more : List ℕ). intervals_at (found ++ j ∷ []) (length is) more)) (interval_again i (flat_map interval_bytes is ++ rest) first top)
    ∙ intervals_again (i.last + 1) (found ++ i ∷ []) is rest h.3
    ∙ ap (λ (l : List Interval). Some (l, rest)) (append_assoc found (i ∷ []) is)

-- merged intervals are fewer than the numbers that there are
few_intervals : (low : ℕ) (is : List Interval) → AreMerged low is → low < 2 ^ 63 → length is + low < 2 ^ 63
few_intervals low [] h lt = omega arith
few_intervals low (i ∷ is) h lt =
    let a : low < i.first = h.0 in
    let b : i.first ≤ i.last = h.1 in
    let more = few_intervals (i.last + 1) is h.3 (omega (arith, h.2)) in
    omega arith

server_again : (low : ℕ) (s : ServerSet) (set : List ServerSet) (rest : List ℕ) → AreCanonicalFrom low (s ∷ set) → server_at (server_bytes s ++ rest) ≡ Some (s, rest)
server_again low s set rest h =
    let count : length s.intervals < 2 ^ 64 = omega (arith, few_intervals 0 s.intervals h.3 (omega arith)) in
    let intervals = flat_map interval_bytes s.intervals in
    let counted = number_bytes (length s.intervals) in
    ap server_at (append_assoc (uuid_bytes s.server) (counted ++ intervals) rest ∙ ap (λ (l : List ℕ). uuid_bytes s.server ++ l) (append_assoc counted intervals rest))
    ∙ rw (uuid_again s.server (counted ++ (intervals ++ rest)) h.1) (rw (number_again (length s.intervals) (intervals ++ rest) count)
    (rw (intervals_again 0 [] s.intervals rest h.3) refl))

servers_again : (low : ℕ) (found set : List ServerSet) (rest : List ℕ) → AreCanonicalFrom low set → servers_at found (length set) (flat_map server_bytes set ++ rest) ≡ Some (found ++ set, rest)
servers_again low found [] rest h = ap (λ (l : List ServerSet). Some (l, rest)) (sym (append-nil found))
servers_again low found (s ∷ set) rest h =
    ap (λ (bytes : List ℕ). servers_at found (length (s ∷ set)) bytes) (append_assoc (server_bytes s) (flat_map server_bytes set) rest)
    ∙ ap (λ (r : Option (ServerSet × List ℕ)). and_then r (λ (t : ServerSet) (more : List ℕ). servers_at (found ++ t ∷ []) (length set) more)) (server_again low s set (flat_map server_bytes set ++ rest) h)
    ∙ servers_again (s.server + 1) (found ++ s ∷ []) set rest h.4
    ∙ ap (λ (l : List ServerSet). Some (l, rest)) (append_assoc found (s ∷ []) set)

set_again : (set : List ServerSet) → IsCanonical set → length set < 2 ^ 64 → set_at (set_bytes set) ≡ Some (set, [])
set_again set h count =
    rw (number_again (length set) (flat_map server_bytes set) count)
    (ap (λ (bytes : List ℕ). servers_at [] (length set) bytes) (sym (append-nil (flat_map server_bytes set))) ∙ servers_again 0 [] set [] h)

-- ---- the test
both_true : (a b : Bool) → (a && b) ≡ true → (a ≡ true) × (b ≡ true)
both_true true b h = (refl, h)
both_true false b h = absurd cc

merged_told : (below : ℕ) (is : List Interval) → are_merged below is ≡ true → AreMerged below is
merged_told below [] h = tt
merged_told below (i ∷ is) h =
    let (own, more) = both_true (nat_lt below i.first && (nat_le i.first i.last && nat_le i.last _)) (are_merged (i.last + 1) is) h in
    (grind (arith, nat_tests, own), grind (arith, nat_tests, own), grind (arith, nat_tests, own), merged_told (i.last + 1) is more)

merged_true : (below : ℕ) (is : List Interval) → AreMerged below is → are_merged below is ≡ true
merged_true below [] h = refl
merged_true below (i ∷ is) h = let a = h.0 in let b = h.1 in let c = h.2 in let more = merged_true (i.last + 1) is h.3 in grind (arith, nat_tests, more)

pub canonical_told : (low : ℕ) (set : List ServerSet) → are_canonical low set ≡ true → AreCanonicalFrom low set
canonical_told low [] h = tt
canonical_told low (s ∷ set) h =
    let (own, more) = both_true (is_whole low s) (are_canonical (s.server + 1) set) h in
    let (place, inner) = both_true (nat_le low s.server && nat_lt s.server (2 ^ 128)) (nat_lt 0 (length s.intervals) && are_merged 0 s.intervals) own in
    let (some, merged) = both_true (nat_lt 0 (length s.intervals)) (are_merged 0 s.intervals) inner in
    (grind (arith, nat_tests, place), grind (arith, nat_tests, place), grind (arith, nat_tests, some), merged_told 0 s.intervals merged, canonical_told (s.server + 1) set more)

pub canonical_true : (low : ℕ) (set : List ServerSet) → AreCanonicalFrom low set → are_canonical low set ≡ true
canonical_true low [] h = refl
canonical_true low (s ∷ set) h =
    let a = h.0 in let b = h.1 in let c = h.2 in
    let merged = merged_true 0 s.intervals h.3 in
    let more = canonical_true (s.server + 1) set h.4 in
    grind (arith, nat_tests, merged, more)

-- ---- a loop that reads
intervals_next : (found : List Interval) (left : ℕ) (bytes : List ℕ) → 0 < left
    → intervals_at found left bytes ≡ and_then (interval_at bytes) (λ (i : Interval) (rest : List ℕ). intervals_at (found ++ i ∷ []) (left - 1) rest)
intervals_next found zero bytes lt = absurd (omega arith)
intervals_next found (suc n) bytes lt =
    let same : n ≡ suc n - 1 = omega arith in
    ap (λ (m : ℕ). and_then (interval_at bytes) (λ (i : Interval) (rest : List ℕ). intervals_at (found ++ i ∷ []) m rest)) same

servers_next : (found : List ServerSet) (left : ℕ) (bytes : List ℕ) → 0 < left
    → servers_at found left bytes ≡ and_then (server_at bytes) (λ (s : ServerSet) (rest : List ℕ). servers_at (found ++ s ∷ []) (left - 1) rest)
servers_next found zero bytes lt = absurd (omega arith)
servers_next found (suc n) bytes lt =
    let same : n ≡ suc n - 1 = omega arith in
    ap (λ (m : ℕ). and_then (server_at bytes) (λ (s : ServerSet) (rest : List ℕ). servers_at (found ++ s ∷ []) m rest)) same

-- ---- the set that some bytes spell
-- each server has bytes of its own, so that a set whose bytes fit memory has few servers
uuid_long : (server : ℕ) → length (uuid_bytes server) ≡ 16
unfolding uuid_bytes
uuid_long server = refl

few_servers : (set : List ServerSet) → length set ≤ length (flat_map server_bytes set)
few_servers [] = omega arith
few_servers (s ∷ set) =
    let own = number_bytes (length s.intervals) ++ flat_map interval_bytes s.intervals in
    omega (arith, length-append (server_bytes s) (flat_map server_bytes set), length-append (uuid_bytes s.server) own, uuid_long s.server, few_servers set)

read_is : (set : List ServerSet) (bytes : List ℕ) → length bytes < 2 ^ 64 → IsCanonical set → set_bytes set ≡ bytes → set_at bytes ≡ Some (set, [])
read_is set bytes fits h e =
    let all : length (set_bytes set) < 2 ^ 64 = subst (λ (l : List ℕ). length l < 2 ^ 64) (sym e) fits in
    let count : length set < 2 ^ 64 = omega (arith, few_servers set, length-append (number_bytes (length set)) (flat_map server_bytes set), all) in
    ap set_at (sym e) ∙ set_again set h count

pub nothing_read : (bytes : List ℕ) → length bytes < 2 ^ 64 → None ≡ set_at bytes → IsSpelled set_bytes bytes None
nothing_read bytes fits none set h e = let is = none ∙ read_is set bytes fits h e in absurd cc

read_servers : (p q : List ServerSet × List ℕ) → Some p ≡ Some q → p.0 ≡ q.0
read_servers p q e = let same : p ≡ q = cc in ap (λ (r : List ServerSet × List ℕ). r.0) same

pub not_canonical : (bytes : List ℕ) (p : List ServerSet × List ℕ) → length bytes < 2 ^ 64 → Some p ≡ set_at bytes → (IsCanonical p.0 → ⊥) → IsSpelled set_bytes bytes None
not_canonical bytes p fits read none set h e =
    let same = read_servers p (set, []) (read ∙ read_is set bytes fits h e) in
    none (subst IsCanonical (sym same) h)

pub not_again : (bytes again : List ℕ) (p : List ServerSet × List ℕ) → length bytes < 2 ^ 64 → Some p ≡ set_at bytes → again ≡ set_bytes p.0 → (again ≡ bytes → ⊥) → IsSpelled set_bytes bytes None
not_again bytes again p fits read written other set h e =
    let same = read_servers p (set, []) (read ∙ read_is set bytes fits h e) in
    other (written ∙ ap set_bytes same ∙ e)

pub intervals_read : (found new : List Interval) (left : ℕ) (bytes : List ℕ) (p : Interval × List ℕ) → 0 < left → Some p ≡ interval_at bytes → new ≡ found ++ p.0 ∷ []
    → intervals_at new (left - 1) p.1 ≡ intervals_at found left bytes
intervals_read found new left bytes p lt read e =
    ap (λ (l : List Interval). intervals_at l (left - 1) p.1) e
    ∙ ap (λ (r : Option (Interval × List ℕ)). and_then r (λ (i : Interval) (rest : List ℕ). intervals_at (found ++ i ∷ []) (left - 1) rest)) read
    ∙ sym (intervals_next found left bytes lt)

pub servers_read : (found new : List ServerSet) (left : ℕ) (bytes : List ℕ) (p : ServerSet × List ℕ) → 0 < left → Some p ≡ server_at bytes → new ≡ found ++ p.0 ∷ []
    → servers_at new (left - 1) p.1 ≡ servers_at found left bytes
servers_read found new left bytes p lt read e =
    ap (λ (l : List ServerSet). servers_at l (left - 1) p.1) e
    ∙ ap (λ (r : Option (ServerSet × List ℕ)). and_then r (λ (s : ServerSet) (rest : List ℕ). servers_at (found ++ s ∷ []) (left - 1) rest)) read
    ∙ sym (servers_next found left bytes lt)
