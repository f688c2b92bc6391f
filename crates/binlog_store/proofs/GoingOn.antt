-- What one entry makes of files that are made one after the other, and of the place.
use Rattle.std.proofs.Common.{◌≡◌, ◌≢◌, ℕ, ◌+◌, List, [], ◌∷◌, ◌++◌, length, refl, sym, ap, ◌∙◌, append_assoc, append-nil}
use Rattle.ring_types.specs.declared.entries.Entry.{Entry}
use Rattle.ring_types.specs.declared.entries.Payload.{Payload}
use Rattle.ring_types.specs.declared.entries.Payload.TheVariants as payload
use Rattle.ring_types.specs.declared.entries.Place.{Place}
use Rattle.ring_types.specs.declared.schemas.Schema.{Schema}
use Rattle.entry_group.specs.Files.{files_from, head_after, onto, place_behind, placed}
use Rattle.entry_group.specs.Groups.{group}
use Rattle.binlog_store.specs.Added.{continued, reach}
use Rattle.binlog_store.specs.Held.{IsBehind}

-- the last of some files goes on
pub continued_last : (ended : List (List ℕ)) (current f : List ℕ) (more : List (List ℕ))
    → continued (ended ++ current ∷ []) (f ∷ more) ≡ ended ++ ((current ++ f) ∷ more)
continued_last [] current f more = refl
continued_last (x ∷ []) current f more = refl
continued_last (x ∷ (y ∷ ended)) current f more = ap (λ (z : List (List ℕ)). x ∷ z) (continued_last (y ∷ ended) current f more)

-- a group that ends no file
onto_one : (ended : List (List ℕ)) (current g : List ℕ) → ended ++ (current ++ g) ∷ [] ≡ continued (ended ++ current ∷ []) (onto g ([] ∷ []))
onto_one ended current g = ap (λ (t : List ℕ). ended ++ (current ++ t) ∷ []) (sym (append-nil g)) ∙ sym (continued_last ended current (g ++ []) [])

same_placed : (p : Payload) (before : List Entry) (ended : List (List ℕ)) (current g : List ℕ) → p ≢ payload.Rotate
    → ended ++ (current ++ g) ∷ [] ≡ continued (ended ++ current ∷ []) (placed p g before ([] ∷ []))
same_placed payload.NoOp before ended current g never = onto_one ended current g
same_placed payload.Rotate before ended current g never = absurd (never refl)
same_placed (payload.Txn t) before ended current g never = onto_one ended current g

pub same_file : (schema : Schema) (place : Place) (before : List Entry) (e : Entry) (ended : List (List ℕ)) (current new : List ℕ)
    → e.payload ≢ payload.Rotate
    → new ≡ current ++ group schema e place → ended ++ new ∷ [] ≡ continued (ended ++ current ∷ []) (files_from schema place before (e ∷ []))
same_file schema place before e ended current new never is =
    ap (λ (t : List ℕ). ended ++ t ∷ []) is ∙ same_placed e.payload before ended current (group schema e place) never

-- the group of a Rotate, and the head of the next file
rotate_placed : (before : List Entry) (ended : List (List ℕ)) (current g : List ℕ)
    → (ended ++ (current ++ g) ∷ []) ++ head_after before ∷ [] ≡ continued (ended ++ current ∷ []) (placed payload.Rotate g before ([] ∷ []))
rotate_placed before ended current g =
    append_assoc ended ((current ++ g) ∷ []) (head_after before ∷ [])
    ∙ (ap (λ (t : List ℕ). ended ++ (current ++ g) ∷ (t ∷ [])) (sym (append-nil (head_after before)))
    ∙ sym (continued_last ended current g ((head_after before ++ []) ∷ [])))

pub next_file : (schema : Schema) (place : Place) (before : List Entry) (e : Entry) (ended new : List (List ℕ)) (current middle head : List ℕ)
    → e.payload ≡ payload.Rotate
    → middle ≡ current ++ group schema e place → head ≡ head_after before → new ≡ (ended ++ middle ∷ []) ++ head ∷ []
    → new ≡ continued (ended ++ current ∷ []) (files_from schema place before (e ∷ []))
next_file schema place before e ended new current middle head ends is head_is made =
    made
    ∙ (ap (λ (t : List ℕ). (ended ++ t ∷ []) ++ head ∷ []) is
    ∙ (ap (λ (t : List ℕ). (ended ++ (current ++ group schema e place) ∷ []) ++ t ∷ []) head_is
    ∙ (rotate_placed before ended current (group schema e place)
    ∙ ap (λ (p : Payload). continued (ended ++ current ∷ []) (placed p (group schema e place) before ([] ∷ []))) (sym ends))))

pub rotate_place : (schema : Schema) (place : Place) (before : List Entry) (e : Entry) (at : ℕ) → e.payload ≡ payload.Rotate → at ≡ length (head_after before)
    → record { file = place.file + 1; at = at; sequence = 1 } ≡ place_behind schema before e place
rotate_place schema place before e at ends is = rw (ends, is) refl

-- where the next entry begins
same_reach : (p : Payload) (before : List Entry) (at : ℕ) (g : List ℕ) → p ≢ payload.Rotate → at + length g ≡ reach at (placed p g before ([] ∷ []))
same_reach payload.NoOp before at g never = ap (λ (l : List ℕ). at + length l) (sym (append-nil g))
same_reach payload.Rotate before at g never = absurd (never refl)
same_reach (payload.Txn t) before at g never = ap (λ (l : List ℕ). at + length l) (sym (append-nil g))

pub behind_group : (schema : Schema) (place behind : Place) (before : List Entry) (e : Entry) (size : ℕ) → e.payload ≢ payload.Rotate
    → size ≡ length (group schema e place)
    → behind ≡ place_behind schema before e place → behind.at ≡ place.at + size → IsBehind schema place before e behind
behind_group schema place behind before e size never is there at = record {
  place_is = there;
  at_is = at ∙ (ap (λ (n : ℕ). place.at + n) is ∙ same_reach e.payload before place.at (group schema e place) never);
}

pub behind_head : (schema : Schema) (place : Place) (before : List Entry) (e : Entry) (at : ℕ) → e.payload ≡ payload.Rotate → at ≡ length (head_after before)
    → IsBehind schema place before e (record { file = place.file + 1; at = at; sequence = 1 })
behind_head schema place before e at ends is = record {
  place_is = rotate_place schema place before e at ends is;
  at_is = is ∙ (ap length (sym (append-nil (head_after before)))
      ∙ ap (λ (p : Payload). reach place.at (placed p (group schema e place) before ([] ∷ []))) (sym ends));
}
