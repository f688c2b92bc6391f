-- The events of a schedule, or its first bad line.
use Rattle.std.specs.Prelude.{◌≡◌, ℕ, ◌+◌, ◌==◌, List, [], ◌∷◌, ◌++◌, length, if◌then◌else◌, Option, Some, None, Result, Ok, Err}
use Rattle.ring_model.specs.declared.worlds.Event.{Event}
use Rattle.schedule_text.specs.declared.faults.ScheduleError.{ScheduleError}
use Rattle.schedule_text.specs.declared.faults.ScheduleError.TheVariants as refusal
use Rattle.schedule_text.specs.Cutting.{lines}
use Rattle.schedule_text.specs.Lines.{Said, line_of}

abbrev pub event : ℕ → Said → Event
event number said = record { line = number; what = said.0; cut = said.1 }

-- what a line adds before the events of the lines behind it
abbrev pub before : ℕ → Option (Option Said) → Result (List Event) ScheduleError → Result (List Event) ScheduleError
before number None others = Err (refusal.BadLine number 2)
before number (Some None) others = others
before number (Some (Some said)) (Ok events) = Ok (event number said ∷ events)
before number (Some (Some said)) (Err e) = Err e

-- the events of lines of which the first has this number; what stands behind the last line feed must be empty
abbrev pub events_from : ℕ → List (List ℕ) → Result (List Event) ScheduleError
events_from number [] = Ok []
events_from number (last ∷ []) = if length last == 0 then Ok [] else Err (refusal.BadLine number 1)
events_from number (text ∷ next ∷ more) = before number (line_of text) (events_from (number + 1) (next ∷ more))

-- the events of a schedule: its lines are counted from 1
unfoldable pub events_of : List ℕ → Result (List Event) ScheduleError
events_of bytes = events_from 1 (lines bytes)

-- what a line adds to the events so far
abbrev pub Adds : ℕ → Option (Option Said) → List Event → List Event → Type 0
Adds number None old new = ⊥
Adds number (Some None) old new = new ≡ old
Adds number (Some (Some said)) old new = new ≡ old ++ event number said ∷ []

-- a line is refused only where it has no form, or memory runs out
abbrev pub Refuses : ℕ → Option (Option Said) → Result (Unit {0}) ScheduleError → Type 0
Refuses number said (Ok done) = Unit {0}
Refuses number said (Err refusal.Memory) = Unit {0}
Refuses number said (Err e) = (said ≡ None) × (e ≡ refusal.BadLine number 2)

-- what a call answers for a text of which this is to be read: the same, or want of memory
abbrev pub Answers : Result (List Event) ScheduleError → Result (List Event) ScheduleError → Type 0
Answers wanted (Ok events) = wanted ≡ Ok events
Answers wanted (Err refusal.Memory) = Unit {0}
Answers wanted (Err e) = wanted ≡ Err e
