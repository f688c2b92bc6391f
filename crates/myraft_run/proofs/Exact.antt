-- Where the shelf tells its files and nothing fails, its answers are what the files are; so the status is the one that the order of work gives on them, or memory ran out.
use Rattle.std.proofs.Common.{◌≡◌, ℕ, ◌⊎◌, inl, inr, false, List, IfSome, Option, Some, None, Result, Ok, Err, refl, sym, ap, ap₂, subst, ◌∙◌}
use Rattle.std.specs.List.{list_any}
use Rattle.edge_traits.specs.declared.shelves.FetchError.{FetchError}
use Rattle.edge_traits.specs.declared.shelves.FetchError.TheVariants as fetch
use Rattle.ring_types.specs.Rings.{Layout}
use Rattle.ring_model.specs.declared.worlds.Event.{Event}
use Rattle.ring_file.specs.declared.faults.RingError.{RingError}
use Rattle.ring_file.specs.Documents.{ring_of}
use Rattle.schedule_text.specs.declared.faults.ScheduleError.{ScheduleError}
use Rattle.schedule_text.specs.Schedules.{events_of}
use Rattle.myraft_run.specs.declared.inputs.Inputs.{Inputs}
use Rattle.myraft_run.specs.declared.words.Names.{Names}
use Rattle.myraft_run.specs.declared.stops.Stop.{Stop}
use Rattle.myraft_run.specs.declared.stops.Stop.TheVariants as stop
use Rattle.myraft_run.specs.declared.stops.File.TheVariants as file
use Rattle.myraft_run.specs.Words.{names_of}
use Rattle.myraft_run.specs.Inputs.{◌>>=◌, built_events, events_or_line, got, has_suffix, inputs_from, inputs_of, inputs_on, inputs_with, ring_limit, ring_or_fault, schedule_limit}
use Rattle.myraft_run.specs.Replays.{Ends, Replays}
use Rattle.myraft_run.specs.Spans.{Files, ShelfIsSteady, ShelfSpan, SinkIsSteady, SinkSpan}
use Rattle.myraft_run.specs.Command.{ComesTo, IsStatusOf, IsExact, IsReplayable, outcome_status, told_answer, told_inputs}
use Rattle.myraft_run.specs.Parts.{Works}
use Rattle.myraft_run.proofs.Answering.{answer-is, held-answer}
use Rattle.myraft_run.proofs.Runs.{never-refused}

no_memory : Result Inputs Stop
no_memory = Err stop.Memory

-- ---- inputs by answers of which some wanted memory
after-ring : (r : Result Layout RingError) (told : Result (List ℕ) FetchError) → ((ring_or_fault r >>= (λ (l : Layout). got file.Schedule (Err fetch.Memory) >>= inputs_with l)) ≡ (ring_or_fault r >>= (λ (l : Layout). got file.Schedule told >>= inputs_with l)))
    ⊎ ((ring_or_fault r >>= (λ (l : Layout). got file.Schedule (Err fetch.Memory) >>= inputs_with l)) ≡ Err stop.Memory)
after-ring (Ok ring) told = inr refl
after-ring (Err e) told = inl refl

no-schedule : (ra told : Result (List ℕ) FetchError) → (inputs_from ra (Err fetch.Memory) ≡ inputs_from ra told) ⊎ (inputs_from ra (Err fetch.Memory) ≡ Err stop.Memory)
no-schedule (Ok bytes) told = after-ring (ring_of bytes) told
no-schedule (Err fetch.Absent) told = inl refl
no-schedule (Err fetch.TooLarge) told = inl refl
no-schedule (Err fetch.Failed) told = inl refl
no-schedule (Err fetch.Memory) told = inl refl

told-inputs : (ra sa ring schedule : Result (List ℕ) FetchError) → (ra ≡ ring) ⊎ (ra ≡ Err fetch.Memory) → (sa ≡ schedule) ⊎ (sa ≡ Err fetch.Memory) → (inputs_from ra sa ≡ inputs_from ring schedule) ⊎ (inputs_from ra sa ≡ Err stop.Memory)
told-inputs ra sa ring schedule (inl a) (inl b) = inl (ap₂ inputs_from a b)
told-inputs ra sa ring schedule (inl a) (inr b) =
    let e : inputs_from ra sa ≡ inputs_from ring (Err fetch.Memory) = ap₂ inputs_from a b in
    elim (no-schedule ring schedule) [ inl same ↦ inl (e ∙ same) | inr none ↦ inr (e ∙ none) ]
told-inputs ra sa ring schedule (inr a) b = inr (ap (λ x. inputs_from x sa) a)

-- ---- an end by the answers is an end by the files
ends-by : (found wanted : Result Inputs Stop) (end : Result (List ℕ) Stop) → (found ≡ wanted) ⊎ (found ≡ Err stop.Memory) → Ends found end → Ends wanted end ⊎ (end ≡ Err stop.Memory)
ends-by found wanted end (inl same) e = let P : Result Inputs Stop → Type 0 = λ x. Ends x end in inl (subst P same e)
ends-by found wanted end (inr none) e = let P : Result Inputs Stop → Type 0 = λ x. Ends x end in inr (subst P none e)

told-named : (words : List (List ℕ)) (shelf : ShelfSpan) (f : List ℕ → Option (List ℕ)) (end : Result (List ℕ) Stop) (names : Result Names Stop) → names_of words ≡ names → shelf.files ≡ Some f → ShelfIsSteady shelf → ComesTo words shelf end
    → Ends (told_inputs words f) end ⊎ (end ≡ Err stop.Memory)
told-named words shelf f end (Ok names) named told steady w =
    let a = answer-is shelf f names.ring ring_limit w.ring_answer told steady (w.ring_answered names named) in
    let b = answer-is shelf f names.schedule schedule_limit w.schedule_answer told steady (w.schedule_answered names named) in
    let here : inputs_of words w.ring_answer w.schedule_answer ≡ inputs_from w.ring_answer w.schedule_answer = (let g : Result Names Stop → Result Inputs Stop = λ n. n >>= λ m. inputs_from w.ring_answer w.schedule_answer in ap g named) in
    let there : told_inputs words f ≡ inputs_from (told_answer (f names.ring) ring_limit) (told_answer (f names.schedule) schedule_limit) =
    (let g : Result Names Stop → Result Inputs Stop = λ n. n >>= λ (m : Names). inputs_from (told_answer (f m.ring) ring_limit) (told_answer (f m.schedule) schedule_limit) in ap g named) in
    let e = told-inputs w.ring_answer w.schedule_answer (told_answer (f names.ring) ring_limit) (told_answer (f names.schedule) schedule_limit) a b in
    ends-by (inputs_of words w.ring_answer w.schedule_answer) (told_inputs words f) end (elim e [ inl same ↦ inl (here ∙ (same ∙ sym there)) | inr none ↦ inr (here ∙ none) ]) w.ends
told-named words shelf f end (Err e) named told steady w =
    let here : inputs_of words w.ring_answer w.schedule_answer ≡ Err e = (let g : Result Names Stop → Result Inputs Stop = λ n. n >>= λ m. inputs_from w.ring_answer w.schedule_answer in ap g named) in
    let there : told_inputs words f ≡ Err e =
    (let g : Result Names Stop → Result Inputs Stop = λ n. n >>= λ (m : Names). inputs_from (told_answer (f m.ring) ring_limit) (told_answer (f m.schedule) schedule_limit) in ap g named) in
    ends-by (inputs_of words w.ring_answer w.schedule_answer) (told_inputs words f) end (inl (here ∙ sym there)) w.ends

-- ---- the status
no-fault : (end : Result (List ℕ) Stop) → (end ≡ Err stop.Memory → ⊥) → (words : List (List ℕ)) (shelf : ShelfSpan) (f : List ℕ → Option (List ℕ)) → shelf.files ≡ Some f → ShelfIsSteady shelf → ComesTo words shelf end → IsStatusOf words f (outcome_status end)
no-fault end other words shelf f told steady w = go (told-named words shelf f end (names_of words) refl told steady w)
  where
    go : Ends (told_inputs words f) end ⊎ (end ≡ Err stop.Memory) → IsStatusOf words f (outcome_status end)
    go (inl e) = record { wanted = end; ends = e; status_is = refl }
    go (inr none) = absurd (other none)

-- what the work gave, without the output
pub work-status : (words : List (List ℕ)) (shelf : ShelfSpan) (f : List ℕ → Option (List ℕ)) (end : Result (List ℕ) Stop) → shelf.files ≡ Some f → ShelfIsSteady shelf → Works words shelf end → (outcome_status end ≡ 13) ⊎ IsStatusOf words f (outcome_status end)
work-status words shelf f (Ok text) told steady w = inr (no-fault (Ok text) (λ e. cc) words shelf f told steady w)
work-status words shelf f (Err stop.Memory) told steady w = inl refl
work-status words shelf f (Err stop.Unbuilt) told steady w = inr (no-fault (Err stop.Unbuilt) (λ e. cc) words shelf f told steady w)
work-status words shelf f (Err (stop.NoFile o)) told steady w = inr (no-fault (Err (stop.NoFile o)) (λ e. cc) words shelf f told steady w)
work-status words shelf f (Err (stop.TooLarge o)) told steady w = inr (no-fault (Err (stop.TooLarge o)) (λ e. cc) words shelf f told steady w)
work-status words shelf f (Err (stop.ReadFault o)) told steady w = inr (no-fault (Err (stop.ReadFault o)) (λ e. cc) words shelf f told steady w)
work-status words shelf f (Err (stop.BadRing o)) told steady w = inr (no-fault (Err (stop.BadRing o)) (λ e. cc) words shelf f told steady w)
work-status words shelf f (Err (stop.BadLine o)) told steady w = inr (no-fault (Err (stop.BadLine o)) (λ e. cc) words shelf f told steady w)
work-status words shelf f (Err stop.WriteFault) told steady w = inr (no-fault (Err stop.WriteFault) (λ e. cc) words shelf f told steady w)

pub exact : (words : List (List ℕ)) (shelf : ShelfSpan) (out : SinkSpan) (end : Result (List ℕ) Stop) (status : ℕ) → status ≡ outcome_status end → Works words shelf end → IsExact words shelf out status
exact words shelf out end status is w = go shelf.files refl
  where
    go : (files : Files) → shelf.files ≡ files → IfSome files (λ f. ShelfIsSteady shelf → SinkIsSteady out → (status ≡ 13) ⊎ IsStatusOf words f status)
    go None told = tt
    go (Some f) told = λ steady quiet. (let P : ℕ → Type 0 = λ n. (n ≡ 13) ⊎ IsStatusOf words f n in subst P (sym is) (work-status words shelf f end told steady w))

-- a failing output excuses any status
pub excused : (words : List (List ℕ)) (shelf : ShelfSpan) (out : SinkSpan) (status : ℕ) → (SinkIsSteady out → ⊥) → IsExact words shelf out status
excused words shelf out status failed = go shelf.files
  where
    go : (files : Files) → IfSome files (λ f. ShelfIsSteady shelf → SinkIsSteady out → (status ≡ 13) ⊎ IsStatusOf words f status)
    go None = tt
    go (Some f) = λ steady quiet. absurd (failed quiet)

-- and want of memory is free
pub without-memory : (words : List (List ℕ)) (shelf : ShelfSpan) (out : SinkSpan) (status : ℕ) → status ≡ 13 → IsExact words shelf out status
without-memory words shelf out status is = go shelf.files
  where
    go : (files : Files) → IfSome files (λ f. ShelfIsSteady shelf → SinkIsSteady out → (status ≡ 13) ⊎ IsStatusOf words f status)
    go None = tt
    go (Some f) = λ steady quiet. inl is

-- ---- completeness
built-on : (ring : Layout) (events : List Event) → list_any has_suffix events ≡ false → (built_events events >>= inputs_on ring) ≡ Ok (record { ring = ring; events = events })
built-on ring events none = rw none refl

part-of : (ring : Layout) (bytes : List ℕ) (events : List Event) → events_of bytes ≡ Ok events → list_any has_suffix events ≡ false → inputs_with ring bytes ≡ Ok (record { ring = ring; events = events })
part-of ring bytes events read none =
    let f : Result (List Event) ScheduleError → Result Inputs Stop = λ e. events_or_line e >>= built_events >>= inputs_on ring in
    ap f read ∙ built-on ring events none

held-inputs : (words : List (List ℕ)) (f : List ℕ → Option (List ℕ)) (r : IsReplayable words (Some f)) → told_inputs words f ≡ Ok (record { ring = r.ring; events = r.events })
held-inputs words f r =
    let g : Result Names Stop → Result Inputs Stop = λ n. n >>= λ (m : Names). inputs_from (told_answer (f m.ring) ring_limit) (told_answer (f m.schedule) schedule_limit) in
    let h : Result Layout RingError → Result Inputs Stop = λ l. ring_or_fault l >>= (λ (ring : Layout). inputs_with ring r.schedule_bytes) in
    ap g r.named
    ∙ (ap₂ inputs_from (held-answer f r.names.ring ring_limit r.ring_bytes r.ring_held) (held-answer f r.names.schedule schedule_limit r.schedule_bytes r.schedule_held)
    ∙ (ap h r.ring_read ∙ part-of r.ring r.schedule_bytes r.events r.events_read r.all_built))

replayed-whole : (words : List (List ℕ)) (files : Files) (r : IsReplayable words files) (wanted : Result (List ℕ) Stop) → Replays r.ring r.events wanted → outcome_status wanted ≡ 0
replayed-whole words files r (Ok text) x = refl
replayed-whole words files r (Err (stop.BadLine line)) x = absurd (let z = never-refused r.ring r.events r.run line r.runs x in cc)
replayed-whole words files r (Err stop.Memory) x = absurd x
replayed-whole words files r (Err stop.Unbuilt) x = absurd x
replayed-whole words files r (Err (stop.NoFile o)) x = absurd x
replayed-whole words files r (Err (stop.TooLarge o)) x = absurd x
replayed-whole words files r (Err (stop.ReadFault o)) x = absurd x
replayed-whole words files r (Err (stop.BadRing o)) x = absurd x
replayed-whole words files r (Err stop.WriteFault) x = absurd x

told-whole : (words : List (List ℕ)) (f : List ℕ → Option (List ℕ)) (status : ℕ) → IsReplayable words (Some f) → IsStatusOf words f status → status ≡ 0
told-whole words f status r x =
    let P : Result Inputs Stop → Type 0 = λ i. Ends i x.wanted in
    let e : Ends (Ok (record { ring = r.ring; events = r.events })) x.wanted = subst P (held-inputs words f r) x.ends in
    x.status_is ∙ replayed-whole words (Some f) r x.wanted e.1

-- files that are replayable are replayed, by the exact status
pub complete : (words : List (List ℕ)) (shelf : ShelfSpan) (out : SinkSpan) (status : ℕ) → IsExact words shelf out status → IsReplayable words shelf.files → ShelfIsSteady shelf → SinkIsSteady out → (status ≡ 0) ⊎ (status ≡ 13)
complete words shelf out status x r steady quiet = go shelf.files x r
  where
    go : (files : Files) → IfSome files (λ f. ShelfIsSteady shelf → SinkIsSteady out → (status ≡ 13) ⊎ IsStatusOf words f status) → IsReplayable words files → (status ≡ 0) ⊎ (status ≡ 13)
    go None x r = absurd r.ring_held
    go (Some f) x r = elim (x steady quiet) [ inl none ↦ inr none | inr is ↦ inl (told-whole words f status r is) ]
