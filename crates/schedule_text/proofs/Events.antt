-- Reading lines one after the other: the events so far, put before those of the lines that are left, are the whole.
use Rattle.std.proofs.Common.{◌≡◌, ℕ, ◌+◌, ◌==◌, Bool, true, false, cond, List, [], ◌∷◌, ◌++◌, length, refl, sym, ap, ◌∙◌, append_assoc, Option, Some, None, Result, Ok, Err}
use Rattle.std.specs.List.{onto_first}
use Rattle.std.proofs.lemmas.List.{append-nil}
use Rattle.ring_model.specs.declared.worlds.Event.{Event}
use Rattle.schedule_text.specs.declared.faults.ScheduleError.{ScheduleError}
use Rattle.schedule_text.specs.declared.faults.ScheduleError.TheVariants as refusal
use Rattle.schedule_text.specs.Cutting.{lines}
use Rattle.schedule_text.specs.Lines.{Said, line_of}
use Rattle.schedule_text.specs.Schedules.{event, before, events_from, Adds, Refuses, Answers}

abbrev pub with_events : List Event → Result (List Event) ScheduleError → Result (List Event) ScheduleError
with_events front (Ok events) = Ok (front ++ events)
with_events front (Err e) = Err e

with_events-before : (front : List Event) (number : ℕ) (said : Said) (others : Result (List Event) ScheduleError)
    → with_events front (before number (Some (Some said)) others) ≡ with_events (front ++ event number said ∷ []) others
with_events-before front number said (Ok events) = ap (λ (x : List Event). Ok x) (sym (append_assoc front (event number said ∷ []) events))
with_events-before front number said (Err e) = refl

split-chosen : (t : Bool) (b : ℕ) (x y : List (List ℕ)) → (first : List ℕ) × (others : List (List ℕ)) × (cond t ([] ∷ x) (onto_first b y) ≡ first ∷ others)
split-chosen true b x y = ([], x, refl)
split-chosen false b x [] = (b ∷ [], [], refl)
split-chosen false b x (p ∷ ps) = (b ∷ p, ps, refl)

lines-cons : (bs : List ℕ) → (first : List ℕ) × (others : List (List ℕ)) × (lines bs ≡ first ∷ others)
lines-cons [] = ([], [], refl)
lines-cons (b ∷ bs) = split-chosen (b == 10) b (lines bs) (lines bs)

next_events : (number : ℕ) (bs text rest : List ℕ) → lines bs ≡ text ∷ lines rest → events_from number (lines bs) ≡ before number (line_of text) (events_from (number + 1) (lines rest))
next_events number bs text rest e = let (first, others, f) = lines-cons rest in rw (e, f) refl

adds-before : (number : ℕ) (said : Option (Option Said)) (old new : List Event) (others : Result (List Event) ScheduleError) → Adds number said old new
    → with_events old (before number said others) ≡ with_events new others
adds-before number None old new others h = absurd h
adds-before number (Some None) old new others h = rw h refl
adds-before number (Some (Some said)) old new others h = rw h (with_events-before old number said others)

-- a line that is read
pub events_more : (old new : List Event) (number : ℕ) (bs text rest : List ℕ) → lines bs ≡ text ∷ lines rest → Adds number (line_of text) old new
    → with_events old (events_from number (lines bs)) ≡ with_events new (events_from (number + 1) (lines rest))
events_more old new number bs text rest e h = rw (next_events number bs text rest e) (adds-before number (line_of text) old new (events_from (number + 1) (lines rest)) h)

-- a line without form
pub events_bad : (front : List Event) (number : ℕ) (bs text rest : List ℕ) → lines bs ≡ text ∷ lines rest → line_of text ≡ None
    → with_events front (events_from number (lines bs)) ≡ Err (refusal.BadLine number 2)
events_bad front number bs text rest e l = rw (next_events number bs text rest e, l) refl

-- no further line feed
pub events_end : (front : List Event) (number : ℕ) (bs : List ℕ) → lines bs ≡ bs ∷ [] → bs ≡ [] → with_events front (events_from number (lines bs)) ≡ Ok front
events_end front number bs e empty = rw (e, empty) (ap (λ (x : List Event). Ok x) (append-nil front))

pub events_cut : (front : List Event) (number : ℕ) (bs : List ℕ) → lines bs ≡ bs ∷ [] → (length bs == 0) ≡ false → with_events front (events_from number (lines bs)) ≡ Err (refusal.BadLine number 1)
events_cut front number bs e some = rw (e, some) refl

pub with_none : (read : Result (List Event) ScheduleError) → with_events [] read ≡ read
with_none (Ok events) = refl
with_none (Err e) = refl

-- a line that is refused: the schedule is refused for it
pub events_refused : (front : List Event) (number : ℕ) (bs text rest : List ℕ) (wanted : Result (List Event) ScheduleError) (e : ScheduleError) → lines bs ≡ text ∷ lines rest
    → Refuses number (line_of text) (Err e) → with_events front (events_from number (lines bs)) ≡ wanted → Answers wanted (Err e)
events_refused front number bs text rest wanted refusal.Memory split h so_far = tt
events_refused front number bs text rest wanted (refusal.BadLine line why) split h so_far =
    sym so_far ∙ events_bad front number bs text rest split h.0 ∙ ap (λ (x : ScheduleError). Err x) (sym h.1)
