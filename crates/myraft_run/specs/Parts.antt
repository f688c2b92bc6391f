-- What the parts of the program give, each for the part of the work that it does: only private contracts cite these.
use Rattle.std.specs.Prelude.{◌≡◌, ℕ, true, false, List, ◌++◌, IfSome, Some, Result, Ok, Err}
use Rattle.edge_traits.specs.Counts.{Rose}
use Rattle.edge_traits.specs.Puts.{TakesFront}
use Rattle.edge_traits.specs.declared.shelves.FetchError.{FetchError}
use Rattle.ring_types.specs.Rings.{Layout}
use Rattle.ring_model.specs.Worlds.{WorldState, Whole, world_step, shown}
use Rattle.ring_model.specs.Runs.{is_known}
use Rattle.ring_model.specs.declared.worlds.Event.{Event}
use Rattle.ring_model.specs.declared.worlds.World.{World}
use Rattle.myraft_run.specs.declared.inputs.Inputs.{Inputs}
use Rattle.myraft_run.specs.declared.words.Names.{Names}
use Rattle.myraft_run.specs.declared.stops.File.{File}
use Rattle.myraft_run.specs.declared.stops.File.TheVariants as file
use Rattle.myraft_run.specs.declared.stops.Stop.{Stop}
use Rattle.myraft_run.specs.declared.stops.Stop.TheVariants as stop
use Rattle.myraft_run.specs.Words.{names_of}
use Rattle.myraft_run.specs.Stops.{status_of}
use Rattle.myraft_run.specs.Inputs.{◌>>=◌, Gives, GivesOne, got, inputs_from, inputs_of, inputs_with, ring_limit, schedule_limit}
use Rattle.myraft_run.specs.Spans.{ShelfSpan, SinkSpan}
use Rattle.myraft_run.specs.Command.{Answered, ComesTo}

-- one fetch, and what follows from it
pub record Fetches (shelf : ShelfSpan) (name : List ℕ) (limit : ℕ) (f : File) (result : Result (List ℕ) Stop) : Type 0 where
  pub answer : Result (List ℕ) FetchError
  pub answered : Answered shelf name limit answer
  pub gives : result ≡ got f answer

-- by answers that the shelf may have given, this is to be run
pub record FindsInputs (words : List (List ℕ)) (shelf : ShelfSpan) (wanted : Result Inputs Stop) : Type 0 where
  pub ring_answer : Result (List ℕ) FetchError
  pub schedule_answer : Result (List ℕ) FetchError
  pub ring_answered : (names : Names) → names_of words ≡ Ok names → Answered shelf names.ring ring_limit ring_answer
  pub schedule_answered : (names : Names) → names_of words ≡ Ok names → Answered shelf names.schedule schedule_limit schedule_answer
  pub comes : inputs_of words ring_answer schedule_answer ≡ wanted

-- what was returned is what is to be run, unless memory ran out
abbrev pub Finds : List (List ℕ) → ShelfSpan → Result Inputs Stop → Type 0
Finds words shelf result = GivesOne (FindsInputs words shelf) result

-- the same from the ring on, and from the names on
pub record FindsFromRing (ring : Layout) (name : List ℕ) (shelf : ShelfSpan) (result : Result Inputs Stop) : Type 0 where
  pub answer : Result (List ℕ) FetchError
  pub answered : Answered shelf name schedule_limit answer
  pub gives : Gives (got file.Schedule answer >>= inputs_with ring) result

pub record FindsFromNames (names : Names) (shelf : ShelfSpan) (result : Result Inputs Stop) : Type 0 where
  pub ring_answer : Result (List ℕ) FetchError
  pub schedule_answer : Result (List ℕ) FetchError
  pub ring_answered : Answered shelf names.ring ring_limit ring_answer
  pub schedule_answered : Answered shelf names.schedule schedule_limit schedule_answer
  pub gives : Gives (inputs_from ring_answer schedule_answer) result

-- what was returned is what the order of work comes to, unless memory ran out
abbrev pub Works : List (List ℕ) → ShelfSpan → Result (List ℕ) Stop → Type 0
Works words shelf result = GivesOne (ComesTo words shelf) result

-- what came of writing a text
abbrev pub Wrote : List ℕ → SinkSpan → Result (Unit {0}) Stop → Type 0
Wrote text out (Ok done) = IfSome out.old (λ taken. out.new ≡ Some (taken ++ text))
Wrote text out (Err stop.WriteFault) = Rose out.before out.after × IfSome out.old (λ taken. TakesFront taken text out.new)
Wrote text out (Err stop.Memory) = IfSome out.old (λ taken. TakesFront taken text out.new)
Wrote text out (Err s) = ⊥

-- the status of what came of printing
abbrev pub print_status : Result (Unit {0}) Stop → ℕ
print_status (Ok done) = 0
print_status (Err s) = status_of s

-- ---- one event
-- what the answer says of an event on a world, and of the world after it
abbrev pub Takes : Layout → WorldState → Event → World → Result (Unit {0}) Stop → Type 0
Takes ring w e new (Ok done) = (is_known ring w e.what ≡ true) × (new ≡ shown ring (world_step ring w e Whole))
Takes ring w e new (Err (stop.BadLine line)) = (is_known ring w e.what ≡ false) × (line ≡ e.line)
Takes ring w e new (Err stop.Memory) = Unit {0}
Takes ring w e new (Err s) = ⊥
