-- What was read so far stands before what the rest gives.
use Rattle.std.proofs.Common.{◌≡◌, ℕ, ◌+◌, ◌<◌, List, [], ◌∷◌, ◌++◌, length, get_or, drop, Option, None, Some, option_map, Result, Ok, Err, refl, ap, sym, append_assoc}
use Rattle.toml.specs.Data.{Members, as_table}
use Rattle.toml.specs.View.{view, items_view}
use Rattle.toml.specs.declared.value.Value.{Value}
use Rattle.toml.proofs.Views.{items_view-drop}
use Rattle.ring_file.specs.Faults.{◌>>=◌}
use Rattle.ring_file.specs.Documents.{each_table}
use Rattle.ring_file.specs.declared.faults.RingError.{RingError}

abbrev pub before : {A : Type 0} → List A → Option (List A) → Option (List A)
before xs rest = option_map (λ ys. xs ++ ys) rest

abbrev pub after : {A : Type 0} → List A → Result (List A) RingError → Result (List A) RingError
after xs rest = rest >>= (λ ys. Ok (xs ++ ys))

one_more : {A : Type 0} (xs : List A) (x : A) (rest : Result (List A) RingError) → after xs (rest >>= (λ ys. Ok (x ∷ ys))) ≡ after (xs ++ x ∷ []) rest
one_more xs x (Ok ys) = ap Ok (sym (append_assoc xs (x ∷ []) ys))
one_more xs x (Err e) = refl

-- a table of the array was read
pub after-table : {A : Type 0} (reads : ℕ → Members → Result A RingError) (array : List Value) (i : ℕ) (value : Value) (members : Members) (xs : List A) (x : A)
    → i < length array → get_or array i value ≡ value → as_table (view value) ≡ Some members → reads (i + 1) members ≡ Ok x
    → after xs (each_table reads (i + 1) (items_view (drop i array))) ≡ after (xs ++ x ∷ []) (each_table reads (i + 1 + 1) (items_view (drop (i + 1) array)))
after-table reads array i value table xs x within at is read =
    rw (items_view-drop array i value within, at) (rw is (rw read (one_more xs x _)))

-- an item that is no table was passed
pub after-other : {A : Type 0} (reads : ℕ → Members → Result A RingError) (array : List Value) (i : ℕ) (value : Value) (xs : List A)
    → i < length array → get_or array i value ≡ value → as_table (view value) ≡ None
    → after xs (each_table reads (i + 1) (items_view (drop i array))) ≡ after xs (each_table reads (i + 1 + 1) (items_view (drop (i + 1) array)))
after-other reads array i value xs within at is = rw (items_view-drop array i value within, at) (rw is)
