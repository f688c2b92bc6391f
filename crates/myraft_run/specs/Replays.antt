-- How the events of a ring end: in the report of the world after all of them, or at the first that is refused.
use Rattle.std.specs.Prelude.{◌≡◌, ℕ, false, List, ◌∷◌, ◌++◌, map, Result, Ok, Err}
use Rattle.std.specs.List.{Contains}
use Rattle.ring_types.specs.Rings.{IsRing, Layout}
use Rattle.ring_model.specs.Worlds.{Whole, shown}
use Rattle.ring_model.specs.Runs.{IsRun, Move, is_known, world}
use Rattle.ring_model.specs.declared.worlds.Event.{Event}
use Rattle.report_text.specs.Report.{report}
use Rattle.myraft_run.specs.declared.inputs.Inputs.{Inputs}
use Rattle.myraft_run.specs.declared.stops.Stop.{Stop}
use Rattle.myraft_run.specs.declared.stops.Stop.TheVariants as stop

-- a run of these events in which each went to its end
pub record IsRunOf (ring : Layout) (events : List Event) (run : List Move) : Type 0 where
  pub of_events : map (λ (m : Move). m.event) run ≡ events
  pub all_whole : (m : Move) → Contains run m → m.completion ≡ Whole
  pub is_run : IsRun ring run

-- the events before this one are a run, and this one, at this line, names a node or a message that is not there
pub record Refuses (ring : Layout) (events : List Event) (line : ℕ) : Type 0 where
  pub before : List Event
  pub refused : Event
  pub after : List Event
  pub split : events ≡ before ++ refused ∷ after
  pub run : List Move
  pub runs : IsRunOf ring before run
  pub unknown : is_known ring (world ring run) refused.what ≡ false
  pub at_line : line ≡ refused.line

-- how the events of a ring end: in the report of the world after a run of all of them, or at the first that is refused
abbrev pub Replays : Layout → List Event → Result (List ℕ) Stop → Type 0
Replays ring events (Ok text) = (run : List Move) × IsRunOf ring events run × (text ≡ report ring (shown ring (world ring run)))
Replays ring events (Err (stop.BadLine line)) = Refuses ring events line
Replays ring events (Err _) = ⊥

-- how the whole work ends
abbrev pub Ends : Result Inputs Stop → Result (List ℕ) Stop → Type 0
Ends (Ok inputs) wanted = IsRing inputs.ring × Replays inputs.ring inputs.events wanted
Ends (Err e) wanted = wanted ≡ Err e
