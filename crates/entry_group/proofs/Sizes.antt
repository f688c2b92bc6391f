-- The fields of a set have fixed widths, so its bytes are counted by its servers and intervals; and a sum that is told may be counted on as it was told.
use Rattle.std.proofs.Common.{◌≡◌, ℕ, suc, ◌+◌, ◌-◌, ◌*◌, ◌^◌, ◌<◌, ◌≤◌, min, List, [], ◌∷◌, ◌++◌, Bool, true, false, length, get_or, map, take, drop, refl, sym, ap, ◌∙◌, arith, add-one, length-append, append_assoc}
use Rattle.std.specs.List.{flat_map}
use Rattle.std.proofs.Math.Seq.{take-suc, drop-cons}
use Rattle.std.proofs.lemmas.List.{take_all, drop_all}
use Rattle.std.proofs.lemmas.List.Concat.{flat_map-cons}
use Rattle.event_frame.specs.declared.frames.TheConstants.{MOST_BODY_BYTES}
use Rattle.gtid_set.specs.Bytes.{number_bytes, uuid_bytes, interval_bytes, server_bytes, set_bytes}
use Rattle.ring_types.specs.Logs.{is_rotate}
use Rattle.ring_types.specs.Sizes.{group_bytes}
use Rattle.ring_types.specs.declared.entries.Entry.{Entry}
use Rattle.ring_types.specs.declared.entries.Payload.{Payload}
use Rattle.ring_types.specs.declared.entries.Payload.TheVariants as payload
use Rattle.ring_types.specs.declared.gtid_sets.Interval.{Interval}
use Rattle.ring_types.specs.declared.gtid_sets.ServerSet.{ServerSet}
use Rattle.ring_types.specs.declared.schemas.Schema.{Schema}
use Rattle.std.specs.Prelude.{nat_le}
use Rattle.std.proofs.lemmas.Bool.Decides.{nat_tests}
use Rattle.entry_group.specs.Files.{head_size, set_in_head, sized, sizes_from, told_size}

-- ---- sets

number_size : (n : ℕ) → length (number_bytes n) ≡ 8
unfolding number_bytes
number_size n = refl

uuid_size : (n : ℕ) → length (uuid_bytes n) ≡ 16
unfolding uuid_bytes
uuid_size n = refl

interval_size : (i : Interval) → length (interval_bytes i) ≡ 16
interval_size i = omega (arith, length-append (number_bytes i.first) (number_bytes (i.last + 1)), number_size i.first, number_size (i.last + 1))

intervals_size : (is : List Interval) → length (flat_map interval_bytes is) ≡ 16 * length is
intervals_size [] = refl
intervals_size (i ∷ is) =
    rw flat_map-cons (omega (arith, length-append (interval_bytes i) (flat_map interval_bytes is), interval_size i, intervals_size is))

pub server_size : (s : ServerSet) → length (server_bytes s) ≡ 24 + 16 * length s.intervals
server_size s =
    let inner : List ℕ = number_bytes (length s.intervals) ++ flat_map interval_bytes s.intervals in
    omega (arith, length-append (uuid_bytes s.server) inner, length-append (number_bytes (length s.intervals)) (flat_map interval_bytes s.intervals), uuid_size s.server, number_size (length s.intervals), intervals_size s.intervals)

pub set_size : (set : List ServerSet) → length (set_bytes set) ≡ 8 + length (flat_map server_bytes set)
set_size set = omega (arith, length-append (number_bytes (length set)) (flat_map server_bytes set), number_size (length set))

-- once all servers are counted
pub whole_set : (set : List ServerSet) (i size : ℕ) → size ≡ min (8 + length (flat_map server_bytes (take i set))) (2 ^ 64 - 1) → length set ≤ i → size ≡ min (length (set_bytes set)) (2 ^ 64 - 1)
whole_set set i size is le =
    let t : take i set ≡ set = take_all i set le in
    is ∙ ap (λ (xs : List ServerSet). min (8 + length (flat_map server_bytes xs)) (2 ^ 64 - 1)) t ∙ ap (λ (n : ℕ). min n (2 ^ 64 - 1)) (sym (set_size set))

pub small_head : (set : List ServerSet) (n : ℕ) → n ≡ min (length (set_bytes set)) (2 ^ 64 - 1) → n ≤ MOST_BODY_BYTES → 149 + n ≡ 149 + length (set_in_head set)
small_head set n is le =
    let l : length (set_bytes set) ≡ n = omega arith in
    let t : nat_le (length (set_bytes set)) (MOST_BODY_BYTES) ≡ true = grind (arith, nat_tests, l, le) in
    rw t (omega (arith, l))

pub large_head : (set : List ServerSet) (n : ℕ) → n ≡ min (length (set_bytes set)) (2 ^ 64 - 1) → MOST_BODY_BYTES < n → 157 ≡ 149 + length (set_in_head set)
large_head set n is gt =
    let t : nat_le (length (set_bytes set)) (MOST_BODY_BYTES) ≡ false = grind (arith, nat_tests, is, gt) in
    rw t (omega (arith, set_size []))

-- ---- sums that are told

pub told_sum : (a b : ℕ) → told_size (told_size a + told_size b) ≡ told_size (a + b)
told_sum a b = omega arith

told_more : (a b : ℕ) → told_size (told_size a + b) ≡ told_size (a + b)
told_more a b = omega arith

told_sized : (k : Payload) (g next n : ℕ) (rest : ℕ → List ℕ) → ((m : ℕ) → map told_size (rest (told_size m)) ≡ map told_size (rest m))
    → map told_size (sized k (told_size n + g) next rest) ≡ map told_size (sized k (n + g) next rest)
told_sized payload.NoOp g next n rest h = sym (h (told_size n + g)) ∙ ap (λ (m : ℕ). map told_size (rest m)) (told_more n g) ∙ h (n + g)
told_sized payload.Rotate g next n rest h = ap (λ (m : ℕ). m ∷ map told_size (rest next)) (told_more n g)
told_sized (payload.Txn t) g next n rest h = sym (h (told_size n + g)) ∙ ap (λ (m : ℕ). map told_size (rest m)) (told_more n g) ∙ h (n + g)

pub told_from : (schema : Schema) (log before : List Entry) (n : ℕ) → map told_size (sizes_from schema (told_size n) before log) ≡ map told_size (sizes_from schema n before log)
told_from schema [] before n = ap (λ (m : ℕ). m ∷ []) (let e : told_size (told_size n) ≡ told_size n = omega arith in e)
told_from schema (e ∷ log) before n =
    told_sized e.payload (group_bytes schema e.payload) (head_size before) n (λ m. sizes_from schema m (before ++ e ∷ []) log) (λ m. told_from schema log (before ++ e ∷ []) m)

-- ---- one more entry

told_right : (a b : ℕ) → told_size (a + told_size b) ≡ told_size (a + b)
told_right a b = omega arith

-- the sizes that are told from an entry on, by that entry and those behind it
from_entry : (schema : Schema) (log : List Entry) (i size : ℕ) (e : Entry) → i < length log → e ≡ get_or log i e
    → sizes_from schema size (take i log) (drop i log)
    ≡ sized e.payload (size + group_bytes schema e.payload) (head_size (take i log)) (λ n. sizes_from schema n (take (i + 1) log) (drop (i + 1) log))
from_entry schema log i size e lt is =
    let d : drop i log ≡ e ∷ drop (i + 1) log = rw add-one (drop-cons log i e lt ∙ ap (λ (x : Entry). x ∷ drop (suc i) log) (sym is)) in
    let t : take (i + 1) log ≡ take i log ++ e ∷ [] = rw add-one (take-suc log i e lt ∙ ap (λ (x : Entry). take i log ++ x ∷ []) (sym is)) in
    rw (d, t) refl

abbrev is_rotate_payload : Payload → Bool
is_rotate_payload k = elim k [ payload.NoOp ↦ false | payload.Rotate ↦ true | payload.Txn t ↦ false ]

over_true : (k : Payload) (g next size : ℕ) (rest : ℕ → List ℕ) (sizes : List ℕ) → is_rotate_payload k ≡ true
    → sizes ++ map told_size (sized k (size + g) next rest) ≡ (sizes ++ told_size (size + g) ∷ []) ++ map told_size (rest next)
over_true payload.NoOp g next size rest sizes is = absurd cc
over_true payload.Rotate g next size rest sizes is = sym (append_assoc sizes (told_size (size + g) ∷ []) (map told_size (rest next)))
over_true (payload.Txn t) g next size rest sizes is = absurd cc

over_false : (k : Payload) (g next size : ℕ) (rest : ℕ → List ℕ) (sizes : List ℕ) → is_rotate_payload k ≡ false → ((m : ℕ) → map told_size (rest (told_size m)) ≡ map told_size (rest m))
    → sizes ++ map told_size (sized k (size + g) next rest) ≡ sizes ++ map told_size (rest (told_size (size + g)))
over_false payload.NoOp g next size rest sizes is h = ap (λ (x : List ℕ). sizes ++ x) (sym (h (size + g)))
over_false payload.Rotate g next size rest sizes is h = absurd cc
over_false (payload.Txn t) g next size rest sizes is h = ap (λ (x : List ℕ). sizes ++ x) (sym (h (size + g)))

-- the size so far and the next group, as the code adds them
pub record Adds (schema : Schema) (log : List Entry) (i size : ℕ) (e : Entry) (group sum : ℕ) : Type 0 where
  pub within : i < length log
  pub is : e ≡ get_or log i e
  pub group_is : group ≡ min (group_bytes schema e.payload) (2 ^ 64 - 1)
  pub sum_is : sum ≡ min (size + group) (2 ^ 64 - 1)

sum_told : (schema : Schema) (log : List Entry) (i size : ℕ) (e : Entry) (group sum : ℕ) → Adds schema log i size e group sum → told_size (size + group_bytes schema e.payload) ≡ sum
sum_told schema log i size e group sum a =
    sym (told_right size (group_bytes schema e.payload)) ∙ ap (λ (n : ℕ). told_size (size + n)) (sym a.group_is) ∙ sym a.sum_is

pub over_rotate : (schema : Schema) (log : List Entry) (i size : ℕ) (e : Entry) (group sum next : ℕ) (sizes all : List ℕ) → Adds schema log i size e group sum → is_rotate e ≡ true → next ≡ head_size (take i log)
    → sizes ++ map told_size (sizes_from schema size (take i log) (drop i log)) ≡ all
    → (sizes ++ sum ∷ []) ++ map told_size (sizes_from schema next (take (i + 1) log) (drop (i + 1) log)) ≡ all
over_rotate schema log i size e group sum next sizes all a rotates head so_far =
    let rest : ℕ → List ℕ = λ n. sizes_from schema n (take (i + 1) log) (drop (i + 1) log) in
    let one = over_true e.payload (group_bytes schema e.payload) (head_size (take i log)) size rest sizes rotates in
    ap (λ (n : ℕ). (sizes ++ sum ∷ []) ++ map told_size (rest n)) head
    ∙ ap (λ (n : ℕ). (sizes ++ n ∷ []) ++ map told_size (rest (head_size (take i log)))) (sym (sum_told schema log i size e group sum a))
    ∙ sym one ∙ ap (λ (x : List ℕ). sizes ++ map told_size x) (sym (from_entry schema log i size e a.within a.is)) ∙ so_far

pub over_other : (schema : Schema) (log : List Entry) (i size : ℕ) (e : Entry) (group sum : ℕ) (sizes all : List ℕ) → Adds schema log i size e group sum → is_rotate e ≡ false
    → sizes ++ map told_size (sizes_from schema size (take i log) (drop i log)) ≡ all
    → sizes ++ map told_size (sizes_from schema sum (take (i + 1) log) (drop (i + 1) log)) ≡ all
over_other schema log i size e group sum sizes all a stays so_far =
    let rest : ℕ → List ℕ = λ n. sizes_from schema n (take (i + 1) log) (drop (i + 1) log) in
    let one = over_false e.payload (group_bytes schema e.payload) (head_size (take i log)) size rest sizes stays (λ m. told_from schema (drop (i + 1) log) (take (i + 1) log) m) in
    ap (λ (n : ℕ). sizes ++ map told_size (rest n)) (sym (sum_told schema log i size e group sum a))
    ∙ sym one ∙ ap (λ (x : List ℕ). sizes ++ map told_size x) (sym (from_entry schema log i size e a.within a.is)) ∙ so_far

pub at_end : (schema : Schema) (log : List Entry) (i size : ℕ) (sizes all : List ℕ) → length log ≤ i → sizes ++ map told_size (sizes_from schema size (take i log) (drop i log)) ≡ all → sizes ++ told_size size ∷ [] ≡ all
at_end schema log i size sizes all le so_far =
    ap (λ (x : List Entry). sizes ++ map told_size (sizes_from schema size (take i log) x)) (sym (drop_all i log le)) ∙ so_far
