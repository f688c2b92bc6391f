-- How a run of the program ends: what it printed, or why it stopped and what it wrote to the errors.
use Rattle.std.specs.Prelude.{◌≡◌, ℕ, ◌≤◌, nat_lt, ◌⊎◌, false, List, ◌++◌, length, if◌then◌else◌, IfSome, IfOk, Option, Some, None, Result, Ok, Err}
use Rattle.std.specs.List.{list_any}
use Rattle.edge_traits.specs.Counts.{Rose}
use Rattle.edge_traits.specs.Fetches.{FetchIs, FetchFails}
use Rattle.edge_traits.specs.Puts.{TakesFront, PutIs, PutFails}
use Rattle.edge_traits.specs.declared.shelves.FetchError.{FetchError}
use Rattle.edge_traits.specs.declared.shelves.FetchError.TheVariants as fetch
use Rattle.edge_traits.specs.declared.sinks.SinkFault.{SinkFault}
use Rattle.ring_types.specs.Rings.{IsRing, Layout}
use Rattle.ring_model.specs.Worlds.{shown}
use Rattle.ring_model.specs.Runs.{Move, world}
use Rattle.ring_model.specs.Safety.{AppliesChosen, Runs, Safe}
use Rattle.ring_model.specs.declared.nodes.Soft.{Soft}
use Rattle.ring_model.specs.declared.worlds.Event.{Event}
use Rattle.ring_lawful.specs.EachStep.{IsFitNode, IsFitPart}
use Rattle.ring_file.specs.Documents.{ring_of}
use Rattle.schedule_text.specs.Schedules.{events_of}
use Rattle.report_text.specs.Report.{report}
use Rattle.myraft_run.specs.declared.inputs.Inputs.{Inputs}
use Rattle.myraft_run.specs.declared.words.Names.{Names}
use Rattle.myraft_run.specs.declared.stops.Stop.{Stop}
use Rattle.myraft_run.specs.declared.stops.Stop.TheVariants as stop
use Rattle.myraft_run.specs.Words.{names_of}
use Rattle.myraft_run.specs.Stops.{status_of, line_of}
use Rattle.myraft_run.specs.Inputs.{◌>>=◌, has_suffix, inputs_from, inputs_of, ring_limit, schedule_limit}
use Rattle.myraft_run.specs.Replays.{Ends, IsRunOf}
use Rattle.myraft_run.specs.Spans.{Files, ShelfIsSteady, ShelfSpan, SinkIsSteady, SinkSpan}

-- ---- what the shelf answered
-- to the fetch of a name, at some moment of the run
pub record Answered (shelf : ShelfSpan) (name : List ℕ) (limit : ℕ) (answer : Result (List ℕ) FetchError) : Type 0 where
  pub told : IfSome shelf.files (λ f. FetchIs (f name) limit answer)
  pub within : IfOk answer (λ bytes. length bytes ≤ limit)
  pub failed : FetchFails shelf.before shelf.after answer

-- by answers that the shelf may have given, the order of work comes to this
pub record ComesTo (words : List (List ℕ)) (shelf : ShelfSpan) (wanted : Result (List ℕ) Stop) : Type 0 where
  pub ring_answer : Result (List ℕ) FetchError
  pub schedule_answer : Result (List ℕ) FetchError
  pub ring_answered : (names : Names) → names_of words ≡ Ok names → Answered shelf names.ring ring_limit ring_answer
  pub schedule_answered : (names : Names) → names_of words ≡ Ok names → Answered shelf names.schedule schedule_limit schedule_answer
  pub ends : Ends (inputs_of words ring_answer schedule_answer) wanted

-- ---- a world on the way
-- the run so far is safe, each engine's rows are those of a prefix of the chosen sequence, and each node is sound, and lawful while it runs
pub record Holds (ring : Layout) (run : List Move) : Type 0 where
  pub safe : Safe ring run
  pub rows : AppliesChosen ring (world ring run)
  pub sound : (id : ℕ) → IsFitPart ring id ((world ring run).nodes id).durable
  pub lawful : (id : ℕ) (s : Soft) → Runs (world ring run) id s → IsFitNode ring id ((world ring run).nodes id).durable s

-- ---- status 0: the two files are a ring and a schedule of it, the report of the world after all events is written, and every world on the way holds
pub record Printed (words : List (List ℕ)) (shelf : ShelfSpan) (out : SinkSpan) : Type 0 where
  pub names : Names
  pub named : names_of words ≡ Ok names
  pub ring_bytes : List ℕ
  pub ring_held : IfSome shelf.files (λ f. f names.ring ≡ Some ring_bytes)
  pub ring_within : length ring_bytes ≤ ring_limit
  pub schedule_bytes : List ℕ
  pub schedule_held : IfSome shelf.files (λ f. f names.schedule ≡ Some schedule_bytes)
  pub schedule_within : length schedule_bytes ≤ schedule_limit
  pub ring : Layout
  pub ring_read : ring_of ring_bytes ≡ Ok ring
  pub valid : IsRing ring
  pub events : List Event
  pub events_read : events_of schedule_bytes ≡ Ok events
  pub all_built : list_any has_suffix events ≡ false
  pub run : List Move
  pub runs : IsRunOf ring events run
  pub written : IfSome out.old (λ old. out.new ≡ Some (old ++ report ring (shown ring (world ring run))))
  pub holds : (before after : List Move) → run ≡ before ++ after → Holds ring before

-- ---- any other status: its cause, and its line
-- a front of the text was written
pub record WritesFront (words : List (List ℕ)) (shelf : ShelfSpan) (out : SinkSpan) : Type 0 where
  pub text : List ℕ
  pub comes : ComesTo words shelf (Ok text)
  pub front : IfSome out.old (λ old. TakesFront old text out.new)

-- a fault of the output comes only where its count rose; want of memory is free; every other stop is what the order of work comes to, and nothing was written
abbrev pub IsCause : List (List ℕ) → ShelfSpan → SinkSpan → Stop → Type 0
IsCause words shelf out stop.WriteFault = Rose out.before out.after × WritesFront words shelf out
IsCause words shelf out stop.Memory = (out.new ≡ out.old) ⊎ WritesFront words shelf out
IsCause words shelf out s = (out.new ≡ out.old) × ComesTo words shelf (Err s)

-- the line went to the errors: the whole of it, or a front where their count of faults rose or a put wanted memory
pub record Tells (line : List ℕ) (err : SinkSpan) : Type 0 where
  pub answer : Result (Unit {0}) SinkFault
  pub told : IfSome err.old (λ taken. PutIs taken line err.new answer)
  pub failed : PutFails err.before err.after answer

pub record Stopped (words : List (List ℕ)) (shelf : ShelfSpan) (out err : SinkSpan) (status : ℕ) : Type 0 where
  pub why : Stop
  pub status_is : status ≡ status_of why
  pub cause : IsCause words shelf out why
  pub line : Tells (line_of words why) err

-- ---- the exact status
-- what a shelf that tells its files answers where it neither fails nor wants memory
abbrev pub told_answer : Option (List ℕ) → ℕ → Result (List ℕ) FetchError
told_answer None limit = Err fetch.Absent
told_answer (Some bytes) limit = if nat_lt limit (length bytes) then Err fetch.TooLarge else Ok bytes

-- what is to be run by the files that are told
abbrev pub told_inputs : List (List ℕ) → (List ℕ → Option (List ℕ)) → Result Inputs Stop
told_inputs words f = names_of words >>= λ (names : Names). inputs_from (told_answer (f names.ring) ring_limit) (told_answer (f names.schedule) schedule_limit)

abbrev pub outcome_status : Result (List ℕ) Stop → ℕ
outcome_status (Ok text) = 0
outcome_status (Err s) = status_of s

-- the status is that of an outcome to which the order of work comes by the files that are told
pub record IsStatusOf (words : List (List ℕ)) (f : List ℕ → Option (List ℕ)) (status : ℕ) : Type 0 where
  pub wanted : Result (List ℕ) Stop
  pub ends : Ends (told_inputs words f) wanted
  pub status_is : status ≡ outcome_status wanted

-- where the shelf tells its files and nothing fails, that is the status, or memory ran out
abbrev pub IsExact : List (List ℕ) → ShelfSpan → SinkSpan → ℕ → Type 0
IsExact words shelf out status = IfSome shelf.files (λ f. ShelfIsSteady shelf → SinkIsSteady out → (status ≡ 13) ⊎ IsStatusOf words f status)

-- ---- completeness
-- the shelf tells that it holds these bytes under the name, within the limit
abbrev pub Held : Files → List ℕ → ℕ → List ℕ → Type 0
Held None name limit bytes = ⊥
Held (Some f) name limit bytes = (f name ≡ Some bytes) × (length bytes ≤ limit)

-- the words name two files that the shelf holds within their limits: a ring, and a schedule of it without a suffix, whose events name nodes and messages that are there
pub record IsReplayable (words : List (List ℕ)) (files : Files) : Type 0 where
  pub names : Names
  pub named : names_of words ≡ Ok names
  pub ring_bytes : List ℕ
  pub ring_held : Held files names.ring ring_limit ring_bytes
  pub schedule_bytes : List ℕ
  pub schedule_held : Held files names.schedule schedule_limit schedule_bytes
  pub ring : Layout
  pub ring_read : ring_of ring_bytes ≡ Ok ring
  pub events : List Event
  pub events_read : events_of schedule_bytes ≡ Ok events
  pub all_built : list_any has_suffix events ≡ false
  pub run : List Move
  pub runs : IsRunOf ring events run
