-- Why the program stops before it writes, and what came of writing: the order of work before the output never names a fault of the output.
use Rattle.std.proofs.Common.{◌≡◌, ℕ, inl, inr, Bool, true, false, List, [], ◌∷◌, IfErr, IfOk, if◌then◌else◌, Result, Ok, Err, refl, ap, not, ◌||◌}
use Rattle.std.specs.Prelude.{bytes_eq, codes}
use Rattle.std.specs.List.{list_any}
use Rattle.edge_traits.specs.declared.shelves.FetchError.{FetchError}
use Rattle.edge_traits.specs.declared.shelves.FetchError.TheVariants as fetch
use Rattle.ring_types.specs.Rings.{Layout}
use Rattle.ring_model.specs.declared.worlds.Event.{Event}
use Rattle.ring_file.specs.declared.faults.RingError.{RingError}
use Rattle.ring_file.specs.Documents.{ring_of}
use Rattle.schedule_text.specs.declared.faults.ScheduleError.{ScheduleError}
use Rattle.schedule_text.specs.declared.faults.ScheduleError.TheVariants as bad
use Rattle.schedule_text.specs.Schedules.{events_of}
use Rattle.myraft_run.specs.declared.inputs.Inputs.{Inputs}
use Rattle.myraft_run.specs.declared.words.Names.{Names}
use Rattle.myraft_run.specs.declared.stops.Stop.{Stop}
use Rattle.myraft_run.specs.declared.stops.Stop.TheVariants as stop
use Rattle.myraft_run.specs.declared.stops.File.{File}
use Rattle.myraft_run.specs.declared.stops.File.TheVariants as file
use Rattle.myraft_run.specs.Stops.{status_of}
use Rattle.myraft_run.specs.Words.{is_dashed, names_of}
use Rattle.myraft_run.specs.Inputs.{◌>>=◌, built_events, events_in, events_or_line, got, has_suffix, inputs_from, inputs_of, inputs_on, inputs_with, ring_or_fault}
use Rattle.myraft_run.specs.Replays.{Ends}
use Rattle.myraft_run.specs.Spans.{ShelfSpan, SinkSpan}
use Rattle.myraft_run.specs.Command.{IsCause, IsExact, Printed}
use Rattle.myraft_run.specs.Parts.{Works, Wrote, print_status}
use Rattle.myraft_run.proofs.Exact.{exact, excused, without-memory}
use Rattle.myraft_run.proofs.Printing.{Laws, printed}

-- ---- no fault of the output before it is touched
abbrev NoFault : {A : Type 0} → Result A Stop → Type 0
NoFault r = r ≡ Err stop.WriteFault → ⊥

bind-none : {A B : Type 0} (r : Result A Stop) (f : A → Result B Stop) → NoFault r → ((x : A) → NoFault (f x)) → NoFault (r >>= f)
bind-none (Ok x) f here next is = next x is
bind-none (Err e) f here next is = let same : e ≡ stop.WriteFault = cc in here (ap Err same)

named-none : (b : Bool) (names : Names) → NoFault (if b then Err stop.Unbuilt else Ok names)
named-none true names is = absurd cc
named-none false names is = absurd cc

names-none : (words : List (List ℕ)) → NoFault (names_of words)
names-none [] is = absurd cc
names-none (a ∷ []) is = absurd cc
names-none (a ∷ b ∷ []) is = absurd cc
names-none (verb ∷ ring ∷ schedule ∷ []) is = named-none (not (bytes_eq verb (codes "replay")) || is_dashed ring || is_dashed schedule) (record { ring = ring; schedule = schedule }) is
names-none (a ∷ b ∷ c ∷ d ∷ more) is = absurd cc

got-none : (f : File) (a : Result (List ℕ) FetchError) → NoFault (got f a)
got-none f (Ok bytes) is = absurd cc
got-none f (Err fetch.Absent) is = absurd cc
got-none f (Err fetch.TooLarge) is = absurd cc
got-none f (Err fetch.Failed) is = absurd cc
got-none f (Err fetch.Memory) is = absurd cc

ring-none : (r : Result Layout RingError) → NoFault (ring_or_fault r)
ring-none (Ok ring) is = absurd cc
ring-none (Err e) is = absurd cc

line-none : (r : Result (List Event) ScheduleError) → NoFault (events_or_line r)
line-none (Ok events) is = absurd cc
line-none (Err (bad.BadLine line why)) is = absurd cc
line-none (Err bad.Memory) is = absurd cc

built-none : (events : List Event) → NoFault (built_events events)
built-none events = go (list_any has_suffix events)
  where
    go : (b : Bool) → NoFault (if b then Err stop.Unbuilt else Ok events)
    go true is = absurd cc
    go false is = absurd cc

with-none : (ring : Layout) (bytes : List ℕ) → NoFault (inputs_with ring bytes)
with-none ring bytes = bind-none (events_in bytes) (inputs_on ring) (bind-none (events_or_line (events_of bytes)) built_events (line-none (events_of bytes)) built-none) (λ events is. absurd cc)

from-none : (ra sa : Result (List ℕ) FetchError) → NoFault (inputs_from ra sa)
from-none ra sa =
    let on_ring : Layout → Result Inputs Stop = λ ring. got file.Schedule sa >>= inputs_with ring in
    let on_bytes : List ℕ → Result Inputs Stop = λ bytes. ring_or_fault (ring_of bytes) >>= on_ring in
    bind-none (got file.Ring ra) on_bytes (got-none file.Ring ra)
    (λ bytes. bind-none (ring_or_fault (ring_of bytes)) on_ring (ring-none (ring_of bytes)) (λ ring. bind-none (got file.Schedule sa) (inputs_with ring) (got-none file.Schedule sa) (with-none ring)))

inputs-none : (words : List (List ℕ)) (ra sa : Result (List ℕ) FetchError) → NoFault (inputs_of words ra sa)
inputs-none words ra sa = bind-none (names_of words) (λ (names : Names). inputs_from ra sa) (names-none words) (λ names. from-none ra sa)

ends-none : (found : Result Inputs Stop) → NoFault found → Ends found (Err stop.WriteFault) → ⊥
ends-none (Ok inputs) none e = e.1
ends-none (Err s) none e = let same : s ≡ stop.WriteFault = cc in none (ap Err same)

-- ---- the program stops before it writes
pub stop-cause : (words : List (List ℕ)) (shelf : ShelfSpan) (out : SinkSpan) (s : Stop) → out.new ≡ out.old → Works words shelf (Err s) → IsCause words shelf out s
stop-cause words shelf out stop.WriteFault same w = absurd (ends-none (inputs_of words w.ring_answer w.schedule_answer) (inputs-none words w.ring_answer w.schedule_answer) w.ends)
stop-cause words shelf out stop.Memory same w = inl same
stop-cause words shelf out stop.Unbuilt same w = (same, w)
stop-cause words shelf out (stop.NoFile f) same w = (same, w)
stop-cause words shelf out (stop.TooLarge f) same w = (same, w)
stop-cause words shelf out (stop.ReadFault f) same w = (same, w)
stop-cause words shelf out (stop.BadRing e) same w = (same, w)
stop-cause words shelf out (stop.BadLine n) same w = (same, w)

-- ---- what came of writing the text
pub write-printed : (words : List (List ℕ)) (shelf : ShelfSpan) (out : SinkSpan) (text : List ℕ) (r : Result (Unit {0}) Stop) → Laws → Works words shelf (Ok text) → Wrote text out r → IfOk r (λ done. Printed words shelf out)
write-printed words shelf out text (Ok done) laws w wrote = printed words shelf text out laws w wrote
write-printed words shelf out text (Err s) laws w wrote = tt

pub write-cause : (words : List (List ℕ)) (shelf : ShelfSpan) (out : SinkSpan) (text : List ℕ) (r : Result (Unit {0}) Stop) → Works words shelf (Ok text) → Wrote text out r → IfErr r (λ s. IsCause words shelf out s)
write-cause words shelf out text (Ok done) w wrote = tt
write-cause words shelf out text (Err stop.WriteFault) w wrote = (wrote.0, record { text = text; comes = w; front = wrote.1 })
write-cause words shelf out text (Err stop.Memory) w wrote = inr (record { text = text; comes = w; front = wrote })
write-cause words shelf out text (Err stop.Unbuilt) w wrote = absurd wrote
write-cause words shelf out text (Err (stop.NoFile f)) w wrote = absurd wrote
write-cause words shelf out text (Err (stop.TooLarge f)) w wrote = absurd wrote
write-cause words shelf out text (Err (stop.ReadFault f)) w wrote = absurd wrote
write-cause words shelf out text (Err (stop.BadRing e)) w wrote = absurd wrote
write-cause words shelf out text (Err (stop.BadLine n)) w wrote = absurd wrote

pub write-exact : (words : List (List ℕ)) (shelf : ShelfSpan) (out : SinkSpan) (text : List ℕ) (r : Result (Unit {0}) Stop) → Works words shelf (Ok text) → Wrote text out r → IsExact words shelf out (print_status r)
write-exact words shelf out text (Ok done) w wrote = exact words shelf out (Ok text) 0 refl w
write-exact words shelf out text (Err stop.WriteFault) w wrote = excused words shelf out 8 (λ steady. steady wrote.0)
write-exact words shelf out text (Err stop.Memory) w wrote = without-memory words shelf out 13 refl
write-exact words shelf out text (Err stop.Unbuilt) w wrote = absurd wrote
write-exact words shelf out text (Err (stop.NoFile f)) w wrote = absurd wrote
write-exact words shelf out text (Err (stop.TooLarge f)) w wrote = absurd wrote
write-exact words shelf out text (Err (stop.ReadFault f)) w wrote = absurd wrote
write-exact words shelf out text (Err (stop.BadRing e)) w wrote = absurd wrote
write-exact words shelf out text (Err (stop.BadLine n)) w wrote = absurd wrote

-- ---- the status of a stop
pub stop-status : (s : Stop) → status_of s ≡ 0 → ⊥
stop-status stop.Unbuilt is = absurd cc
stop-status (stop.NoFile f) is = absurd cc
stop-status (stop.TooLarge f) is = absurd cc
stop-status (stop.ReadFault f) is = absurd cc
stop-status (stop.BadRing e) is = absurd cc
stop-status (stop.BadLine n) is = absurd cc
stop-status stop.WriteFault is = absurd cc
stop-status stop.Memory is = absurd cc
