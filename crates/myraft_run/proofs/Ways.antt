-- The events that were taken so far are a run; the next is taken after it, or refused there.
use Rattle.std.proofs.Common.{◌≡◌, ℕ, ◌+◌, ◌≤◌, ◌<◌, add-one, drop-cons, get_or, true, false, List, [], ◌∷◌, ◌++◌, length, drop, map, IfOk, IfErr, Result, Ok, Err, refl, sym, ap, subst, suc, append_assoc, ◌∙◌, arith}
use Rattle.std.proofs.lemmas.Grind.{common_steps}
use Rattle.std.proofs.lemmas.List.{append-nil}
use Rattle.std.specs.List.{Contains}
use Rattle.ring_types.specs.Rings.{Layout}
use Rattle.ring_model.specs.Worlds.{Whole, WorldState, first_world, shown, world_step}
use Rattle.ring_model.specs.Runs.{IsRun, Move, is_known, whole_moves, world}
use Rattle.ring_model.specs.declared.worlds.Event.{Event}
use Rattle.ring_model.specs.declared.worlds.World.{World}
use Rattle.ring_model.proofs.Lists.{map_of}
use Rattle.ring_replay.proofs.OneMore.{one_more, world_more}
use Rattle.report_text.specs.Report.{report}
use Rattle.myraft_run.specs.declared.stops.Stop.{Stop}
use Rattle.myraft_run.specs.declared.stops.Stop.TheVariants as stop
use Rattle.myraft_run.specs.Inputs.{GivesOne}
use Rattle.myraft_run.specs.Replays.{IsRunOf, Refuses, Replays}
use Rattle.myraft_run.specs.Parts.{Takes}

-- ---- runs of whole moves
events_of_moves : (events : List Event) → map (λ (m : Move). m.event) (whole_moves events) ≡ events
events_of_moves [] = refl
events_of_moves (e ∷ events) = ap (λ (es : List Event). e ∷ es) (events_of_moves events)

moves_whole : (events : List Event) (m : Move) → Contains (whole_moves events) m → m.completion ≡ Whole
moves_whole events m c = let x = map_of (λ (e : Event). record { event = e; completion = Whole }) events m c in ap (λ (n : Move). n.completion) (sym x.2)

pub whole_run : (ring : Layout) (events : List Event) → IsRun ring (whole_moves events) → IsRunOf ring events (whole_moves events)
whole_run ring events is = record { of_events = events_of_moves events; all_whole = moves_whole events; is_run = is }

-- ---- so far
-- the events that were taken are a run, and the world that is shown is the one after it
pub record OnTheWay (ring : Layout) (events : List Event) (taken : ℕ) (now : World) : Type 0 where
  pub before : List Event
  pub split : events ≡ before ++ drop taken events
  pub is_run : IsRun ring (whole_moves before)
  pub is_shown : now ≡ shown ring (world ring (whole_moves before))

pub way-first : (ring : Layout) (events : List Event) (now : World) → now ≡ shown ring first_world → OnTheWay ring events 0 now
unfolding world
way-first ring events now is = record { before = []; split = refl; is_run = tt; is_shown = is }

-- the event at an index is the first of those that are left
pub next-event : (events : List Event) (i : ℕ) (e : Event) → i < length events → e ≡ get_or events i e → drop i events ≡ e ∷ drop (i + 1) events
next-event events i e inside is =
    let x : drop i events ≡ e ∷ drop (suc i) events = drop-cons events i e inside ∙ ap (λ (y : Event). y ∷ drop (suc i) events) (sym is) in
    subst (λ (n : ℕ). drop i events ≡ e ∷ drop n events) (sym (add-one i)) x

-- the next event was taken
pub way-on : (ring : Layout) (events : List Event) (taken : ℕ) (now then : World) (e : Event) → OnTheWay ring events taken now → drop taken events ≡ e ∷ drop (taken + 1) events
    → ((w : WorldState) → now ≡ shown ring w → (is_known ring w e.what ≡ true) × (then ≡ shown ring (world_step ring w e Whole))) → OnTheWay ring events (taken + 1) then
way-on ring events taken now then e x next takes =
    let y = takes (world ring (whole_moves x.before)) x.is_shown in
    record {
      before = x.before ++ e ∷ [];
      split = x.split ∙ (ap (λ (rest : List Event). x.before ++ rest) next ∙ sym (append_assoc x.before (e ∷ []) (drop (taken + 1) events)));
      is_run = one_more ring x.before e x.is_run y.0;
      is_shown = y.1 ∙ ap (shown ring) (sym (world_more ring x.before e));
    }

-- the next event was refused
pub way-refused : (ring : Layout) (events : List Event) (taken line : ℕ) (now : World) (e : Event) → OnTheWay ring events taken now → drop taken events ≡ e ∷ drop (taken + 1) events
    → ((w : WorldState) → now ≡ shown ring w → (is_known ring w e.what ≡ false) × (line ≡ e.line)) → Refuses ring events line
way-refused ring events taken line now e x next refuses =
    let y = refuses (world ring (whole_moves x.before)) x.is_shown in
    record {
      before = x.before;
      refused = e;
      after = drop (taken + 1) events;
      split = x.split ∙ ap (λ (rest : List Event). x.before ++ rest) next;
      run = whole_moves x.before;
      runs = whole_run ring x.before x.is_run;
      unknown = y.0;
      at_line = y.1;
    }

-- a stop at an event is its line, or want of memory
pub way-stopped : (ring : Layout) (events : List Event) (taken : ℕ) (now then : World) (e : Event) (s : Stop) → OnTheWay ring events taken now → drop taken events ≡ e ∷ drop (taken + 1) events
    → ((w : WorldState) → now ≡ shown ring w → Takes ring w e then (Err s)) → GivesOne (Replays ring events) (Err s)
way-stopped ring events taken now then e (stop.BadLine line) x next takes = way-refused ring events taken line now e x next takes
way-stopped ring events taken now then e stop.Memory x next takes = tt
way-stopped ring events taken now then e stop.Unbuilt x next takes = absurd (takes (world ring (whole_moves x.before)) x.is_shown)
way-stopped ring events taken now then e (stop.NoFile f) x next takes = absurd (takes (world ring (whole_moves x.before)) x.is_shown)
way-stopped ring events taken now then e (stop.TooLarge f) x next takes = absurd (takes (world ring (whole_moves x.before)) x.is_shown)
way-stopped ring events taken now then e (stop.ReadFault f) x next takes = absurd (takes (world ring (whole_moves x.before)) x.is_shown)
way-stopped ring events taken now then e (stop.BadRing f) x next takes = absurd (takes (world ring (whole_moves x.before)) x.is_shown)
way-stopped ring events taken now then e stop.WriteFault x next takes = absurd (takes (world ring (whole_moves x.before)) x.is_shown)

drop-none : {A : Type 0} (xs : List A) (n : ℕ) → length xs ≤ n → drop n xs ≡ []
drop-none xs n h = grind (arith, common_steps)

-- all events were taken
pub way-done : (ring : Layout) (events : List Event) (taken : ℕ) (now : World) (result : Result (List ℕ) Stop) → OnTheWay ring events taken now → length events ≤ taken
    → IfOk result (λ text. text ≡ report ring now) → IfErr result (λ s. s ≡ stop.Memory) → GivesOne (Replays ring events) result
way-done ring events taken now (Err s) x all text memory =
    let P : Stop → Type 0 = λ e. GivesOne (Replays ring events) (Err e) in
    subst P (sym memory) tt
way-done ring events taken now (Ok t) x all text memory =
    let same : events ≡ x.before = x.split ∙ (ap (λ (rest : List Event). x.before ++ rest) (drop-none events taken all) ∙ append-nil x.before) in
    let P : List Event → Type 0 = λ es. (run : List Move) × IsRunOf ring es run × (t ≡ report ring (shown ring (world ring run))) in
    subst P (sym same) (whole_moves x.before, whole_run ring x.before x.is_run, text ∙ ap (report ring) x.is_shown)
