-- A prefix of a run is a run; and a run of whole moves is what its events make it, so of a run no event is refused.
use Rattle.std.proofs.Common.{◌≡◌, ℕ, true, false, List, [], ◌∷◌, ◌++◌, ◌∙◌, map, arith, refl, ap, subst, sym, zero}
use Rattle.std.specs.List.{Contains}
use Rattle.ring_types.specs.Rings.{Layout}
use Rattle.ring_model.specs.Worlds.{Whole, WorldState, first_world, world_step}
use Rattle.ring_model.specs.Runs.{IsRun, IsRunFrom, Move, is_known, whole_moves, world, world_from}
use Rattle.ring_model.specs.declared.worlds.Event.{Event}
use Rattle.ring_model.proofs.Lists.{in_cons}
use Rattle.ring_replay.proofs.OneMore.{moves_join}
use Rattle.myraft_run.specs.Replays.{IsRunOf, Refuses}

prefix-from : (ring : Layout) (w : WorldState) (before after : List Move) → IsRunFrom ring w (before ++ after) → IsRunFrom ring w before
prefix-from ring w [] after h = tt
prefix-from ring w (m ∷ before) after h = (h.0, h.1, prefix-from ring (world_step ring w m.event m.completion) before after h.2)

pub prefix-of : (ring : Layout) (run before after : List Move) → run ≡ before ++ after → IsRun ring run → IsRun ring before
prefix-of ring run before after e h =
    let P : List Move → Type 0 = λ r. IsRun ring r in
    prefix-from ring first_world before after (subst P e h)

-- moves that all are whole are those of their events
moves-of : (run : List Move) → ((m : Move) → Contains run m → m.completion ≡ Whole) → run ≡ whole_moves (map (λ (m : Move). m.event) run)
moves-of [] whole = refl
moves-of (m ∷ run) whole =
    let here : m ≡ record { event = m.event; completion = Whole } = ap (λ c. record { event = m.event; completion = c }) (whole m (zero, omega arith, refl)) in
    let rest = moves-of run (λ n c. whole n (in_cons m run n c)) in
    ap (λ (n : Move). n ∷ run) here ∙ ap (λ (ms : List Move). record { event = m.event; completion = Whole } ∷ ms) rest

pub is-whole : (ring : Layout) (events : List Event) (run : List Move) → IsRunOf ring events run → run ≡ whole_moves events
is-whole ring events run x = moves-of run x.all_whole ∙ ap whole_moves x.of_events

suffix-from : (ring : Layout) (w : WorldState) (a b : List Move) → IsRunFrom ring w (a ++ b) → IsRunFrom ring (world_from ring w a) b
suffix-from ring w [] b h = h
suffix-from ring w (m ∷ a) b h = suffix-from ring (world_step ring w m.event m.completion) a b h.2

known-at : (ring : Layout) (before : List Event) (e : Event) (after : List Event) → IsRun ring (whole_moves (before ++ e ∷ after)) → is_known ring (world ring (whole_moves before)) e.what ≡ true
unfolding world
known-at ring before e after h =
    let P : List Move → Type 0 = λ r. IsRun ring r in
    (suffix-from ring first_world (whole_moves before) (whole_moves (e ∷ after)) (subst P (moves_join before (e ∷ after)) h)).0

-- events that are a run are not refused
pub never-refused : (ring : Layout) (events : List Event) (run : List Move) (line : ℕ) → IsRunOf ring events run → Refuses ring events line → true ≡ false
never-refused ring events run line x y =
    let whole : IsRun ring (whole_moves events) = (let P : List Move → Type 0 = λ r. IsRun ring r in subst P (is-whole ring events run x) x.is_run) in
    let P : List Event → Type 0 = λ es. IsRun ring (whole_moves es) in
    let known = known-at ring y.before y.refused y.after (subst P y.split whole) in
    let Q : List Move → Type 0 = λ r. is_known ring (world ring r) y.refused.what ≡ false in
    sym known ∙ subst Q (is-whole ring y.before y.run y.runs) y.unknown
