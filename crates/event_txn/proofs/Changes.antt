-- The changes so far and those to come are all of them: what is read goes behind what was read, and a fault that comes now is the fault of all.
use Rattle.std.proofs.Common.{◌≡◌, ℕ, suc, ◌+◌, ◌-◌, ◌<◌, List, [], ◌∷◌, ◌++◌, Some, None, Result, Ok, Err, refl, sym, ap, ◌∙◌, append_assoc, arith}
use Rattle.event_frame.specs.Forms.{and_then, front_of}
use Rattle.ring_types.specs.declared.values.Change.{Change}
use Rattle.ring_types.specs.declared.schemas.Schema.{Schema}
use Rattle.event_txn.specs.declared.faults.TxnError.{TxnError}
use Rattle.event_txn.specs.declared.faults.TxnError.TheVariants as error
use Rattle.event_txn.specs.Reading.{FailsTxn}
use Rattle.event_txn.specs.Txns.{event_of, due_more, due_rows, changes_form}

abbrev pub Read : Type 0
Read = Result ((List Change × ℕ) × List ℕ) TxnError

-- these changes before those that are read
abbrev pub after : List Change → Read → Read
after front r = and_then r (λ x. Ok ((front ++ x.0.0, x.0.1), x.1))

abbrev pub all_of : ℕ → Schema → ℕ → ℕ → ℕ → ℕ → List ℕ → Read
all_of count schema position at place offset bytes = front_of (error.Order 0) (changes_form count schema position at place offset) bytes

abbrev behind : Change → Read → Read
behind c r = and_then r (λ q. Ok ((c ∷ q.0.0, q.0.1), q.1))

after-behind : (front : List Change) (c : Change) (r : Read) → after front (behind c r) ≡ after (front ++ c ∷ []) r
after-behind front c (Ok x) = ap (λ (cs : List Change). Ok ((cs, x.0.1), x.1)) (sym (append_assoc front (c ∷ []) x.0.0))
after-behind front c (Err e) = refl

-- a fault that comes now is the fault of all
fails_on : {Y : Type 0} (e : TxnError) (r : Result Y TxnError) (total : Read) → (r ≡ Err e → total ≡ Err e) → FailsTxn e r → FailsTxn e total
fails_on error.Memory r total f h = tt
fails_on (error.Order k) r total f h = f h
fails_on (error.Field k) r total f h = f h
fails_on (error.Table k) r total f h = f h
fails_on (error.Value k) r total f h = f h
fails_on (error.Frame k g) r total f h = f h

-- where a loop stands: the changes so far, how many were read, and what is left
pub record Stands (schema : Schema) (position at limit i : ℕ) (front : List Change) (place offset : ℕ) (bytes : List ℕ) (total : Read) : Type 0 where
  pub within : i < limit
  pub read : after front (all_of (limit - i) schema position at place offset bytes) ≡ total

one_more : (limit i : ℕ) → i < limit → limit - i ≡ suc (limit - (i + 1))
one_more limit i lt = omega arith

pub row_fails : (e : TxnError) (schema : Schema) (position at limit i : ℕ) (front : List Change) (place offset : ℕ) (bytes : List ℕ) (total : Read)
    → Stands schema position at limit i front place offset bytes total → FailsTxn e (event_of at offset (due_rows schema place) bytes) → FailsTxn e total
row_fails e schema position at limit i front place offset bytes total s h =
    fails_on e (event_of at offset (due_rows schema place) bytes) total (λ g. sym s.read ∙ (let one : after front (all_of (limit - i) schema position at place offset bytes) ≡ Err e = rw (one_more limit i s.within, g) refl in one)) h

pub next_fails : (e : TxnError) (schema : Schema) (position at limit i : ℕ) (front : List Change) (place offset : ℕ) (bytes : List ℕ) (total : Read) (c : Change) (next : ℕ) (rest : List ℕ)
    → Stands schema position at limit i front place offset bytes total → event_of at offset (due_rows schema place) bytes ≡ Ok ((c, next), rest)
    → FailsTxn e (event_of at next (due_more schema position) rest) → FailsTxn e total
next_fails e schema position at limit i front place offset bytes total c next rest s row h =
    fails_on e (event_of at next (due_more schema position) rest) total (λ g. sym s.read ∙ (let one : after front (all_of (limit - i) schema position at place offset bytes) ≡ Err e = rw (one_more limit i s.within, row, g) refl in one)) h

pub no_more : (schema : Schema) (position at limit i : ℕ) (front : List Change) (place offset : ℕ) (bytes : List ℕ) (total : Read) (c : Change) (next : ℕ) (rest : List ℕ) (end : ℕ) (left : List ℕ)
    → Stands schema position at limit i front place offset bytes total → event_of at offset (due_rows schema place) bytes ≡ Ok ((c, next), rest)
    → event_of at next (due_more schema position) rest ≡ Ok ((None, end), left) → total ≡ Ok ((front ++ c ∷ [], end), left)
no_more schema position at limit i front place offset bytes total c next rest end left s row last =
    let one : after front (all_of (limit - i) schema position at place offset bytes) ≡ Ok ((front ++ c ∷ [], end), left) = rw (one_more limit i s.within, row, last) refl in
    sym s.read ∙ one

pub goes_on : (schema : Schema) (position at limit i : ℕ) (front : List Change) (place offset : ℕ) (bytes : List ℕ) (total : Read) (c : Change) (next : ℕ) (rest : List ℕ) (table end : ℕ) (left : List ℕ)
    → Stands schema position at limit i front place offset bytes total → event_of at offset (due_rows schema place) bytes ≡ Ok ((c, next), rest)
    → event_of at next (due_more schema position) rest ≡ Ok ((Some table, end), left)
    → after (front ++ c ∷ []) (all_of (limit - (i + 1)) schema position at table end left) ≡ total
goes_on schema position at limit i front place offset bytes total c next rest table end left s row more =
    let one : after front (all_of (limit - i) schema position at place offset bytes) ≡ after front (behind c (all_of (limit - (i + 1)) schema position at table end left)) = rw (one_more limit i s.within, row, more) refl in
    sym (after-behind front c (all_of (limit - (i + 1)) schema position at table end left)) ∙ sym one ∙ s.read
