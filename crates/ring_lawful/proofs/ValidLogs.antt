-- A transaction that the tables accept is accepted later too, if no other since writes a key that it names: rows of different keys are independent.
use Rattle.std.proofs.Common.{◌≡◌, ℕ, [], ◌∷◌, ◌++◌, ◌∙◌, if◌then◌else◌, Bool, List, None, ap, drop, false, length, refl, suc, sym, take, true, zero}
use Rattle.std.proofs.lemmas.List.{take-append-drop}
use Rattle.std.specs.Prelude.{is_none}
use Rattle.std.specs.List.{list_any}
use Rattle.ring_types.specs.declared.entries.Entry.{Entry}
use Rattle.ring_types.specs.declared.entries.Payload.{Payload}
use Rattle.ring_types.specs.declared.entries.Payload.TheVariants as payload
use Rattle.ring_types.specs.declared.schemas.Schema.{Schema}
use Rattle.ring_types.specs.declared.values.Change.{Change}
use Rattle.ring_types.specs.declared.values.Txn.{Txn}
use Rattle.ring_types.specs.Rows.{Tables, after_payload, all_changed, changed, check, empty_tables, is_valid, is_valid_from, payload_is_accepted, rows, rows_from}
use Rattle.ring_model.specs.Actions.{is_held, pairs_in}
use Rattle.ring_types.proofs.Booleans.{both_true}
use Rattle.ring_lawful.proofs.Locks.{changed_length, check_alike, keys_stay}

-- ---- how many tables there are
all_length : (schema : Schema) (T : Tables) (changes : List Change) → length (all_changed schema T changes) ≡ length T
all_length schema T [] = refl
all_length schema T (c ∷ changes) = all_length schema (changed schema T c) changes ∙ changed_length schema T c

rows_length : (schema : Schema) (T : Tables) (es : List Entry) → length (rows_from schema T es) ≡ length T
rows_length schema T [] = refl
rows_length schema T (e ∷ es) = rows_length schema (after_payload schema T e.payload) es ∙ go e.payload
  where
    txn : (t : Txn) (b : Bool) → length (if b then all_changed schema T t.changes else T) ≡ length T
    txn t true = all_length schema T t.changes
    txn t false = refl

    go : (p : Payload) → length (after_payload schema T p) ≡ length T
    go payload.NoOp = refl
    go payload.Rotate = refl
    go (payload.Txn t) = txn t (is_none (check schema T t.changes))

-- ---- lists of entries
rows_join : (schema : Schema) (T : Tables) (a b : List Entry) → rows_from schema T (a ++ b) ≡ rows_from schema (rows_from schema T a) b
rows_join schema T [] b = refl
rows_join schema T (e ∷ a) b = rows_join schema (after_payload schema T e.payload) a b

valid_push : (schema : Schema) (T : Tables) (l : List Entry) (e : Entry) → is_valid_from schema T l ≡ true
    → payload_is_accepted schema (rows_from schema T l) e.payload ≡ true → is_valid_from schema T (l ++ e ∷ []) ≡ true
valid_push schema T [] e x y = rw y refl
valid_push schema T (f ∷ l) e x y =
    let z = both_true (payload_is_accepted schema T f.payload) (is_valid_from schema (after_payload schema T f.payload) l) x in
    let here = z.0 in
    rw here (valid_push schema (after_payload schema T f.payload) l e z.1 y)

valid_cut : (schema : Schema) (T : Tables) (n : ℕ) (l : List Entry) → is_valid_from schema T l ≡ true → is_valid_from schema T (take n l) ≡ true
valid_cut schema T zero l x = refl
valid_cut schema T (suc n) [] x = refl
valid_cut schema T (suc n) (f ∷ l) x =
    let z = both_true (payload_is_accepted schema T f.payload) (is_valid_from schema (after_payload schema T f.payload) l) x in
    let here = z.0 in
    rw here (valid_cut schema (after_payload schema T f.payload) n l z.1)

-- changes that the rows of a beginning accept, and of which no later transaction writes a key, are accepted by the rows of the whole list
pub accepted_later : (schema : Schema) (l : List Entry) (a : ℕ) (changes : List Change) → check schema (rows schema (take a l)) changes ≡ None
    → list_any (is_held (pairs_in (drop a l))) changes ≡ false
    → check schema (rows schema l) changes ≡ None
unfolding rows
accepted_later schema l a changes is free =
    let T : Tables = rows_from schema (empty_tables schema) (take a l) in
    let all : rows_from schema (empty_tables schema) l ≡ rows_from schema T (drop a l) =
    ap (rows_from schema (empty_tables schema)) (sym (take-append-drop a l)) ∙ rows_join schema (empty_tables schema) (take a l) (drop a l) in
    ap (λ (S : Tables). check schema S changes) all
    ∙ (check_alike schema (rows_from schema T (drop a l)) T changes (rows_length schema T (drop a l)) (keys_stay schema T (drop a l) changes free) ∙ is)

-- ---- valid lists
pub none_valid : (schema : Schema) → is_valid schema [] ≡ true
unfolding is_valid
none_valid schema = refl

pub valid_take : (schema : Schema) (n : ℕ) (l : List Entry) → is_valid schema l ≡ true → is_valid schema (take n l) ≡ true
unfolding is_valid
valid_take schema n l x = valid_cut schema (empty_tables schema) n l x

pub valid_plain : (schema : Schema) (l : List Entry) (e : Entry) → pairs_in (e ∷ []) ≡ [] → is_valid schema l ≡ true → is_valid schema (l ++ e ∷ []) ≡ true
unfolding is_valid
valid_plain schema l e none x = valid_push schema (empty_tables schema) l e x (go e.payload refl)
  where
    go : (p : Payload) → e.payload ≡ p → payload_is_accepted schema (rows_from schema (empty_tables schema) l) e.payload ≡ true
    go payload.NoOp is = rw is refl
    go payload.Rotate is = rw is refl
    go (payload.Txn t) is = absurd (let u = rw is at none in cc)

pub valid_write : (schema : Schema) (l : List Entry) (a : ℕ) (e : Entry) (t : Txn) → e.payload ≡ payload.Txn t → is_valid schema l ≡ true
    → check schema (rows schema (take a l)) t.changes ≡ None
    → list_any (is_held (pairs_in (drop a l))) t.changes ≡ false → is_valid schema (l ++ e ∷ []) ≡ true
unfolding is_valid rows
valid_write schema l a e t is x ok free =
    valid_push schema (empty_tables schema) l e x
    (let y : check schema (rows_from schema (empty_tables schema) l) t.changes ≡ None = accepted_later schema l a t.changes ok free in rw is (rw y refl))
