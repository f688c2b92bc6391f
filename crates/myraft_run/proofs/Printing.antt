-- A text that the order of work comes to is the report of the ring's run, on whose way every world holds.
use Rattle.std.proofs.Common.{◌≡◌, ℕ, false, List, ◌++◌, IfSome, Some, Result, Ok, Err, refl, subst}
use Rattle.std.specs.List.{list_any}
use Rattle.edge_traits.specs.declared.shelves.FetchError.{FetchError}
use Rattle.ring_types.specs.Rings.{IsRing, Layout}
use Rattle.ring_model.specs.Worlds.{shown}
use Rattle.ring_model.specs.Runs.{IsRun, Move, world}
use Rattle.ring_model.specs.Safety.{EveryRunAppliesChosen, EveryRunIsSafe}
use Rattle.ring_model.specs.declared.worlds.Event.{Event}
use Rattle.ring_lawful.specs.Lawful.{EveryNodeIsSound, EveryRunningNodeIsLawful}
use Rattle.ring_file.specs.Documents.{ring_of}
use Rattle.schedule_text.specs.Schedules.{events_of}
use Rattle.report_text.specs.Report.{report}
use Rattle.myraft_run.specs.declared.inputs.Inputs.{Inputs}
use Rattle.myraft_run.specs.declared.words.Names.{Names}
use Rattle.myraft_run.specs.declared.stops.Stop.{Stop}
use Rattle.myraft_run.specs.declared.stops.File.TheVariants as file
use Rattle.myraft_run.specs.Words.{names_of}
use Rattle.myraft_run.specs.Inputs.{◌>>=◌, built_events, events_or_line, got, has_suffix, inputs_from, inputs_of, inputs_on, inputs_with, ring_limit, ring_or_fault, schedule_limit}
use Rattle.myraft_run.specs.Replays.{Ends, Replays}
use Rattle.myraft_run.specs.Spans.{ShelfSpan, SinkSpan}
use Rattle.myraft_run.specs.Command.{ComesTo, Holds, Printed}
use Rattle.myraft_run.proofs.Binding.{bind-ok, built-ok, events-ok, got-ok, ring-ok}
use Rattle.myraft_run.proofs.Answering.{held-by, within_by}
use Rattle.myraft_run.proofs.Runs.{prefix-of}

-- the steps of an order of work that went through
pub record Steps (words : List (List ℕ)) (ring_answer schedule_answer : Result (List ℕ) FetchError) (inputs : Inputs) : Type 0 where
  pub names : Names
  pub named : names_of words ≡ Ok names
  pub ring_bytes : List ℕ
  pub ring_got : ring_answer ≡ Ok ring_bytes
  pub ring_read : ring_of ring_bytes ≡ Ok inputs.ring
  pub schedule_bytes : List ℕ
  pub schedule_got : schedule_answer ≡ Ok schedule_bytes
  pub events_read : events_of schedule_bytes ≡ Ok inputs.events
  pub all_built : list_any has_suffix inputs.events ≡ false

pub steps : (words : List (List ℕ)) (ra sa : Result (List ℕ) FetchError) (inputs : Inputs) → inputs_of words ra sa ≡ Ok inputs → Steps words ra sa inputs
steps words ra sa inputs h =
    let on_ring : Layout → Result Inputs Stop = λ ring. got file.Schedule sa >>= inputs_with ring in
    let on_bytes : List ℕ → Result Inputs Stop = λ bytes. ring_or_fault (ring_of bytes) >>= on_ring in
    let (names, n, a) = bind-ok (names_of words) (λ names. inputs_from ra sa) inputs h in
    let (ring_bytes, rb, b) = bind-ok (got file.Ring ra) on_bytes inputs a in
    let (ring, r, c) = bind-ok (ring_or_fault (ring_of ring_bytes)) on_ring inputs b in
    let (schedule_bytes, sb, d) = bind-ok (got file.Schedule sa) (inputs_with ring) inputs c in
    let (built, w, last) = bind-ok (events_or_line (events_of schedule_bytes) >>= built_events) (inputs_on ring) inputs d in
    let (events, e, s) = bind-ok (events_or_line (events_of schedule_bytes)) built_events built w in
    let (none, same) = built-ok events built s in
    let same_ring : ring ≡ inputs.ring = cc in
    let same_events : events ≡ inputs.events = cc in
    let P : Layout → Type 0 = λ l. ring_of ring_bytes ≡ Ok l in
    let Q : List Event → Type 0 = λ es. events_of schedule_bytes ≡ Ok es in
    let R : List Event → Type 0 = λ es. list_any has_suffix es ≡ false in
    record {
      names = names;
      named = n;
      ring_bytes = ring_bytes;
      ring_got = got-ok file.Ring ra ring_bytes rb;
      ring_read = subst P same_ring (ring-ok (ring_of ring_bytes) ring r);
      schedule_bytes = schedule_bytes;
      schedule_got = got-ok file.Schedule sa schedule_bytes sb;
      events_read = subst Q same_events (events-ok (events_of schedule_bytes) events e);
      all_built = subst R same_events none;
    }

-- an end in a text is one of inputs that were found
pub record Ended (found : Result Inputs Stop) (text : List ℕ) : Type 0 where
  pub inputs : Inputs
  pub found_is : found ≡ Ok inputs
  pub valid : IsRing inputs.ring
  pub replays : Replays inputs.ring inputs.events (Ok text)

ended : (found : Result Inputs Stop) (text : List ℕ) → Ends found (Ok text) → Ended found text
ended (Ok inputs) text e = record { inputs = inputs; found_is = refl; valid = e.0; replays = e.1 }
ended (Err s) text e = absurd cc

written-as : (out : SinkSpan) (text other : List ℕ) → text ≡ other → IfSome out.old (λ taken. out.new ≡ Some (taken ++ text)) → IfSome out.old (λ taken. out.new ≡ Some (taken ++ other))
written-as out text other e h =
    let P : List ℕ → Type 0 = λ t. IfSome out.old (λ taken. out.new ≡ Some (taken ++ t)) in
    subst P e h

-- the laws of runs, of which the contract speaks
pub record Laws : Type 0 where
  pub safe : EveryRunIsSafe
  pub rows : EveryRunAppliesChosen
  pub sound : EveryNodeIsSound
  pub lawful : EveryRunningNodeIsLawful

world-holds : Laws → (ring : Layout) (run : List Move) → IsRing ring → IsRun ring run → Holds ring run
world-holds laws ring run valid is = record { safe = laws.safe ring run valid is; rows = laws.rows ring run valid is; sound = laws.sound ring run is; lawful = laws.lawful ring run is }

pub printed : (words : List (List ℕ)) (shelf : ShelfSpan) (text : List ℕ) (out : SinkSpan) → Laws → ComesTo words shelf (Ok text) → IfSome out.old (λ taken. out.new ≡ Some (taken ++ text)) → Printed words shelf out
printed words shelf text out laws w wrote =
    let e = ended (inputs_of words w.ring_answer w.schedule_answer) text w.ends in
    let s = steps words w.ring_answer w.schedule_answer e.inputs e.found_is in
    let run = e.replays.0 in
    let runs = e.replays.1 in
    record {
      names = s.names;
      named = s.named;
      ring_bytes = s.ring_bytes;
      ring_held = held-by shelf s.names.ring ring_limit w.ring_answer s.ring_bytes s.ring_got (w.ring_answered s.names s.named);
      ring_within = within_by shelf s.names.ring ring_limit w.ring_answer s.ring_bytes s.ring_got (w.ring_answered s.names s.named);
      schedule_bytes = s.schedule_bytes;
      schedule_held = held-by shelf s.names.schedule schedule_limit w.schedule_answer s.schedule_bytes s.schedule_got (w.schedule_answered s.names s.named);
      schedule_within = within_by shelf s.names.schedule schedule_limit w.schedule_answer s.schedule_bytes s.schedule_got (w.schedule_answered s.names s.named);
      ring = e.inputs.ring;
      ring_read = s.ring_read;
      valid = e.valid;
      events = e.inputs.events;
      events_read = s.events_read;
      all_built = s.all_built;
      run = run;
      runs = runs;
      written = written-as out text (report e.inputs.ring (shown e.inputs.ring (world e.inputs.ring run))) e.replays.2 wrote;
      holds = λ before after split. world-holds laws e.inputs.ring before e.valid (prefix-of e.inputs.ring run before after split runs.is_run);
    }
