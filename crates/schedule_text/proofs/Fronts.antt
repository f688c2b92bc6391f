-- Reading values, and changes, one after the other: what was read, put before what is still read, is the whole.
use Rattle.std.proofs.Common.{◌≡◌, ℕ, true, false, List, [], ◌∷◌, ◌++◌, refl, sym, ap, append_assoc, Option, Some, None}
use Rattle.std.proofs.lemmas.List.{append-nil}
use Rattle.ring_types.specs.declared.values.Value.{Value}
use Rattle.ring_types.specs.declared.values.Change.{Change}
use Rattle.ring_types.specs.declared.entries.CutAt.{CutAt}
use Rattle.schedule_text.specs.Cutting.{Word, first_of}
use Rattle.schedule_text.specs.Values.{value_of}
use Rattle.schedule_text.specs.Changes.{begins_suffix, row_of, change_of, next_words, cut_of, changes_of}
use Rattle.schedule_text.specs.Reading.{◌>>=◌, ended}
use Rattle.schedule_text.proofs.Cuts.{first-Some, first-None}

abbrev pub with_values : List Value → Option (List Value × List Word) → Option (List Value × List Word)
with_values front None = None
with_values front (Some row) = Some (front ++ row.0, row.1)

with_values-step : (front : List Value) (v : Value) (row : Option (List Value × List Word)) → with_values front (row >>= λ r. Some (v ∷ r.0, r.1)) ≡ with_values (front ++ v ∷ []) row
with_values-step front v None = refl
with_values-step front v (Some r) = ap (λ (x : List Value). Some (x, r.1)) (sym (append_assoc front (v ∷ []) r.0))

pub row_step : (front : List Value) (ws : List Word) (w : Word) (rest : List Word) (v : Value) → first_of ws ≡ Some (w, rest) → begins_suffix w ≡ false → value_of w ≡ Some v
    → with_values front (row_of ws) ≡ with_values (front ++ v ∷ []) (row_of rest)
row_step front ws w rest v f s e = rw (first-Some ws w rest f, s, e) (with_values-step front v (row_of rest))

pub row_none : (front : List Value) (ws : List Word) (w : Word) (rest : List Word) → first_of ws ≡ Some (w, rest) → begins_suffix w ≡ false → value_of w ≡ None
    → with_values front (row_of ws) ≡ None
row_none front ws w rest f s e = rw (first-Some ws w rest f, s, e) refl

pub row_suffix : (front : List Value) (ws : List Word) (w : Word) (rest : List Word) → first_of ws ≡ Some (w, rest) → begins_suffix w ≡ true
    → with_values front (row_of ws) ≡ Some (front, ws)
row_suffix front ws w rest f s = rw (first-Some ws w rest f, s) (ap (λ (x : List Value). Some (x, w ∷ rest)) (append-nil front))

pub row_end : (front : List Value) (ws : List Word) → first_of ws ≡ None → with_values front (row_of ws) ≡ Some (front, ws)
row_end front ws f = rw (first-None ws f) (ap (λ (x : List Value). Some (x, [])) (append-nil front))

-- ---- changes
abbrev pub with_changes : List Change → Option (List Change × Option CutAt) → Option (List Change × Option CutAt)
with_changes front None = None
with_changes front (Some read) = Some (front ++ read.0, read.1)

with_changes-step : (front : List Change) (c : Change) (read : Option (List Change × Option CutAt)) → with_changes front (read >>= λ r. Some (c ∷ r.0, r.1)) ≡ with_changes (front ++ c ∷ []) read
with_changes-step front c None = refl
with_changes-step front c (Some r) = ap (λ (x : List Change). Some (x, r.1)) (sym (append_assoc front (c ∷ []) r.0))

pub changes_step : (front : List Change) (ws : List Word) (parts : List (List ℕ)) (part : List ℕ) (more : List (List ℕ)) (c : Change) (rest next : List Word)
    → first_of parts ≡ Some (part, more) → change_of ws ≡ Some (c, rest) → ended rest ≡ Some tt → next_words part ≡ Some next
    → with_changes front (changes_of ws parts) ≡ with_changes (front ++ c ∷ []) (changes_of next more)
changes_step front ws parts part more c rest next f e n s = rw (first-Some parts part more f, e, n, s) (with_changes-step front c (changes_of next more))

pub changes_bad : (front : List Change) (ws : List Word) (parts : List (List ℕ)) (part : List ℕ) (more : List (List ℕ))
    → first_of parts ≡ Some (part, more) → change_of ws ≡ None → with_changes front (changes_of ws parts) ≡ None
changes_bad front ws parts part more f e = rw (first-Some parts part more f, e) refl

pub changes_left : (front : List Change) (ws : List Word) (parts : List (List ℕ)) (part : List ℕ) (more : List (List ℕ)) (c : Change) (rest : List Word)
    → first_of parts ≡ Some (part, more) → change_of ws ≡ Some (c, rest) → ended rest ≡ None → with_changes front (changes_of ws parts) ≡ None
changes_left front ws parts part more c rest f e n = rw (first-Some parts part more f, e, n) refl

pub changes_joined : (front : List Change) (ws : List Word) (parts : List (List ℕ)) (part : List ℕ) (more : List (List ℕ)) (c : Change) (rest : List Word)
    → first_of parts ≡ Some (part, more) → change_of ws ≡ Some (c, rest) → ended rest ≡ Some tt → next_words part ≡ None → with_changes front (changes_of ws parts) ≡ None
changes_joined front ws parts part more c rest f e n s = rw (first-Some parts part more f, e, n, s) refl

pub changes_last : (front : List Change) (ws : List Word) (parts : List (List ℕ)) (c : Change) (rest : List Word) (suffix : Option CutAt)
    → first_of parts ≡ None → change_of ws ≡ Some (c, rest) → cut_of rest ≡ Some suffix → with_changes front (changes_of ws parts) ≡ Some (front ++ c ∷ [], suffix)
changes_last front ws parts c rest suffix f e n = rw (first-None parts f, e, n) refl

pub changes_last_bad : (front : List Change) (ws : List Word) (parts : List (List ℕ))
    → first_of parts ≡ None → change_of ws ≡ None → with_changes front (changes_of ws parts) ≡ None
changes_last_bad front ws parts f e = rw (first-None parts f, e) refl

pub changes_last_suffix : (front : List Change) (ws : List Word) (parts : List (List ℕ)) (c : Change) (rest : List Word)
    → first_of parts ≡ None → change_of ws ≡ Some (c, rest) → cut_of rest ≡ None → with_changes front (changes_of ws parts) ≡ None
changes_last_suffix front ws parts c rest f e n = rw (first-None parts f, e, n) refl
