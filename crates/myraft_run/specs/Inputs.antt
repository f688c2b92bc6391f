-- What is to be run by the words and by what the shelf answered: a ring and the events of its schedule, or why the program stops before.
use Rattle.std.specs.Prelude.{◌≡◌, ℕ, Bool, List, if◌then◌else◌, is_some, Result, Ok, Err}
use Rattle.std.specs.List.{list_any}
use Rattle.edge_traits.specs.declared.shelves.FetchError.{FetchError}
use Rattle.edge_traits.specs.declared.shelves.FetchError.TheVariants as fetch
use Rattle.ring_types.specs.declared.limits.TheConstants.{RING_FILE_BYTES, SCHEDULE_BYTES}
use Rattle.ring_types.specs.Rings.{Layout}
use Rattle.ring_model.specs.declared.worlds.Event.{Event}
use Rattle.ring_file.specs.declared.faults.RingError.{RingError}
use Rattle.ring_file.specs.Documents.{ring_of}
use Rattle.schedule_text.specs.declared.faults.ScheduleError.{ScheduleError}
use Rattle.schedule_text.specs.declared.faults.ScheduleError.TheVariants as bad
use Rattle.schedule_text.specs.Schedules.{events_of}
use Rattle.myraft_run.specs.declared.inputs.Inputs.{Inputs}
use Rattle.myraft_run.specs.declared.stops.Stop.{Stop}
use Rattle.myraft_run.specs.declared.stops.Stop.TheVariants as stop
use Rattle.myraft_run.specs.declared.stops.File.{File}
use Rattle.myraft_run.specs.declared.stops.File.TheVariants as file
use Rattle.myraft_run.specs.Words.{names_of}

-- a file has at most so many bytes
abbrev pub ring_limit : ℕ
ring_limit = RING_FILE_BYTES

abbrev pub schedule_limit : ℕ
schedule_limit = SCHEDULE_BYTES

-- goes on where nothing stopped before
infixl 10 ◌>>=◌
abbrev pub ◌>>=◌ : {A B : Type 0} → Result A Stop → (A → Result B Stop) → Result B Stop
(Ok x) >>= f = f x
(Err e) >>= f = Err e

-- what the shelf answered to a fetch
abbrev pub got : File → Result (List ℕ) FetchError → Result (List ℕ) Stop
got f (Ok bytes) = Ok bytes
got f (Err fetch.Absent) = Err (stop.NoFile f)
got f (Err fetch.TooLarge) = Err (stop.TooLarge f)
got f (Err fetch.Failed) = Err (stop.ReadFault f)
got f (Err fetch.Memory) = Err stop.Memory

abbrev pub ring_or_fault : Result Layout RingError → Result Layout Stop
ring_or_fault (Ok ring) = Ok ring
ring_or_fault (Err e) = Err (stop.BadRing e)

abbrev pub events_or_line : Result (List Event) ScheduleError → Result (List Event) Stop
events_or_line (Ok events) = Ok events
events_or_line (Err (bad.BadLine line why)) = Err (stop.BadLine line)
events_or_line (Err bad.Memory) = Err stop.Memory

-- an event with a suffix is of a form that is not built
abbrev pub has_suffix : Event → Bool
has_suffix e = is_some e.cut

abbrev pub built_events : List Event → Result (List Event) Stop
built_events events = if list_any has_suffix events then Err stop.Unbuilt else Ok events

-- the schedule's part, read whole: what is to be run
abbrev pub inputs_on : Layout → List Event → Result Inputs Stop
inputs_on ring events = Ok (record { ring = ring; events = events })

-- the events of a schedule, of which none is of a form that is not built
abbrev pub events_in : List ℕ → Result (List Event) Stop
events_in bytes = events_or_line (events_of bytes) >>= built_events

abbrev pub inputs_with : Layout → List ℕ → Result Inputs Stop
inputs_with ring bytes = events_in bytes >>= inputs_on ring

-- from the names on: the ring fetched and read, then the schedule
abbrev pub inputs_from : Result (List ℕ) FetchError → Result (List ℕ) FetchError → Result Inputs Stop
inputs_from ring_answer schedule_answer = do
  ring_bytes ← got file.Ring ring_answer
  ring ← ring_or_fault (ring_of ring_bytes)
  got file.Schedule schedule_answer >>= inputs_with ring

-- the order of work before the run: the words, the ring, the schedule
abbrev pub inputs_of : List (List ℕ) → Result (List ℕ) FetchError → Result (List ℕ) FetchError → Result Inputs Stop
inputs_of words ring_answer schedule_answer = names_of words >>= λ names. inputs_from ring_answer schedule_answer

-- ---- what the parts give
-- what was returned is such as is wanted, unless memory ran out
abbrev pub GivesOne : {A : Type 0} → (Result A Stop → Type 0) → Result A Stop → Type 0
GivesOne Wanted (Ok x) = Wanted (Ok x)
GivesOne Wanted (Err stop.Memory) = Unit {0}
GivesOne Wanted (Err e) = Wanted (Err e)

-- what was returned is what is wanted, unless memory ran out
abbrev pub Gives : {A : Type 0} → Result A Stop → Result A Stop → Type 0
Gives wanted result = GivesOne (λ r. wanted ≡ r) result
