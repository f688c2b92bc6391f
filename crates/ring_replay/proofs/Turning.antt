-- A turn changes the unit at one place: the node that it shows stands there then, and every engine is what it was.
use Rattle.std.proofs.Common.{◌≡◌, ℕ, zero, suc, ◌<◌, List, [], ◌∷◌, length, map, get_or, Option, None, Some, refl, ap, ap₂, option_map, subst, sym, ◌∙◌, arith}
use Rattle.std.specs.Prelude.{OnOk, Result, slice_get, slice_set}
use Rattle.std.proofs.lemmas.List.{length-map, map-set}
use Rattle.ring_types.specs.Rings.{Layout}
use Rattle.node_unit.proofs.Acting.{on_ok, on_ok2}
use Rattle.node_unit.specs.Units.{UnitState, after_answer, answered, ended_node, outcome_of}
use Rattle.ring_model.specs.Dispatch.{step}
use Rattle.ring_model.specs.Worlds.{Handle}
use Rattle.ring_model.specs.declared.effects.Outcome.{Outcome}
use Rattle.ring_model.specs.declared.effects.Say.{Say}
use Rattle.ring_model.specs.declared.messages.Input.{Input}
use Rattle.ring_model.specs.declared.messages.Message.{Message}
use Rattle.ring_model.specs.declared.nodes.Soft.{Soft}
use Rattle.ring_model.specs.declared.worlds.Shown.{Shown}
use Rattle.ring_model.specs.declared.worlds.World.{World}
use Rattle.ring_replay.specs.Replays.{HasEngines, ReplayState, engine_of}
use Rattle.ring_replay.specs.Fit.{KeepsChosen}
use Rattle.ring_replay.specs.Steps.{recorded, shown_handled, shown_passed, shown_turned, turn_of, with_node}
use Rattle.ring_replay.proofs.Grows.{keeps_in_place}
use Rattle.ring_replay.proofs.Held.{engine_there, held_by, node_put, nodes_put, recorded_is, same_shown, set_back, shown_there, some_same}

-- ---- the replay that holds these units
abbrev pub replay_of : World → List UnitState → ReplayState
replay_of world units = record { world = record world { nodes = map (λ (u : UnitState). u.shown) units }; engines = map (λ (u : UnitState). u.engine) units }

get_there : (units : List UnitState) (place : ℕ) (u d : UnitState) → place < length units → u ≡ get_or units place d → slice_get units place ≡ Some u
get_there [] place u d inside is = absurd (omega arith)
get_there (x ∷ units) zero u d inside is = ap Some (sym is)
get_there (x ∷ units) (suc place) u d inside is = get_there units place u d (omega arith) is

pub at_place : (world : World) (units : List UnitState) (old : ReplayState) (place : ℕ) (u : UnitState) → replay_of world units ≡ old → place < length old.world.nodes → u ≡ get_or units place u
    → slice_get units place ≡ Some u
at_place world units old place u view inside is =
    let long : length old.world.nodes ≡ length units = ap (λ (r : ReplayState). length r.world.nodes) (sym view) ∙ length-map units (λ (x : UnitState). x.shown) in
    get_there units place u u (subst (λ (k : ℕ). place < k) long inside) is

-- a place that is not past the units is within the nodes
pub place_within : (world : World) (units : List UnitState) (old : ReplayState) (place count : ℕ) → replay_of world units ≡ old → count ≡ length units → place < count → place < length old.world.nodes
place_within world units old place count view is past =
    let long : length old.world.nodes ≡ length units = ap (λ (r : ReplayState). length r.world.nodes) (sym view) ∙ length-map units (λ (x : UnitState). x.shown) in
    omega arith

pub there : (world : World) (units : List UnitState) (old : ReplayState) (place : ℕ) (u : UnitState) → replay_of world units ≡ old → slice_get units place ≡ Some u
    → slice_get old.world.nodes place ≡ Some u.shown
there world units old place u view at = ap (λ (r : ReplayState). slice_get r.world.nodes place) (sym view) ∙ shown_there units place u at

pub is_there : (world : World) (units : List UnitState) (old : ReplayState) (place : ℕ) (u : UnitState) (s : Shown) → replay_of world units ≡ old → slice_get units place ≡ Some u
    → slice_get old.world.nodes place ≡ Some s → s ≡ u.shown
is_there world units old place u s view at node = same_shown units place u s at (ap (λ (r : ReplayState). slice_get r.world.nodes place) view ∙ node)

pub has_engine : (ring : Layout) (world : World) (units : List UnitState) (old : ReplayState) (place : ℕ) (u : UnitState) → replay_of world units ≡ old → slice_get units place ≡ Some u
    → HasEngines ring old → u.engine ≡ engine_of ring u.shown
has_engine ring world units old place u view at held = engine_there ring units place u (subst (HasEngines ring) (sym view) held) at

-- ---- another unit at the place
put_node : (world : World) (units : List UnitState) (place : ℕ) (n : UnitState) (x : Shown) → n.shown ≡ x
    → (replay_of world (slice_set units place n)).world ≡ with_node (replay_of world units).world place x
unfolding with_node
put_node world units place n x is =
    let nodes = map-set (λ (u : UnitState). u.shown) units place n ∙ ap (slice_set (map (λ (u : UnitState). u.shown) units) place) is in
    ap (λ (ss : List Shown). record world { nodes = ss }) nodes

pub put_world : (F : Shown → Shown) (world : World) (units : List UnitState) (old : ReplayState) (place : ℕ) (u n : UnitState) (s : Shown) → replay_of world units ≡ old → slice_get units place ≡ Some u
    → slice_get old.world.nodes place ≡ Some s → n.shown ≡ F u.shown → (replay_of world (slice_set units place n)).world ≡ with_node old.world place (F s)
put_world F world units old place u n s view at node is =
    put_node world units place n (F s) (is ∙ ap F (sym (is_there world units old place u s view at node))) ∙ ap (λ (r : ReplayState). with_node r.world place (F s)) view

pub put_held : (ring : Layout) (F : Shown → Shown) (world : World) (units : List UnitState) (old : ReplayState) (place : ℕ) (u n : UnitState) → ((s : Shown) → (F s).node ≡ s.node)
    → replay_of world units ≡ old → slice_get units place ≡ Some u → HasEngines ring old → n.shown ≡ F u.shown → n.engine ≡ u.engine → HasEngines ring (replay_of world (slice_set units place n))
put_held ring F world units old place u n keeps view at held is same =
    held_by ring units place u n (subst (HasEngines ring) (sym view) held) at same (ap (λ (s : Shown). s.node) is ∙ keeps u.shown)

-- ---- the turn is counted
few_with : (v : World) (place : ℕ) (x : Shown) → (with_node v place x).events ≡ v.events
unfolding with_node
few_with v place x = refl

pub few_after : (old new : World) (place most : ℕ) (x : Shown) → new ≡ with_node old place x → old.events < most → new.events < most
few_after old new place most x is few =
    subst (λ (k : ℕ). k < most) (sym (ap (λ (v : World). v.events) is ∙ few_with old place x)) few

pub inside_after : (old new : World) (place : ℕ) (x : Shown) → new ≡ with_node old place x → place < length old.nodes → place < length new.nodes
inside_after old new place x is inside =
    subst (λ (k : ℕ). place < k) (sym (ap (λ (v : World). length v.nodes) is ∙ nodes_put old place x)) inside

node_after : (old new : World) (place : ℕ) (x s : Shown) → new ≡ with_node old place x → place < length old.nodes → slice_get new.nodes place ≡ Some s → s ≡ x
node_after old new place x s is inside at = some_same s x (sym at ∙ (ap (λ (v : World). slice_get v.nodes place) is ∙ node_put old place x inside))

pub keeps_after : (old new : World) (place : ℕ) (x s : Shown) (given messages : List Message) (told says : List Say) → new ≡ with_node old place x → place < length old.nodes
    → given ≡ messages → told ≡ says → KeepsChosen old (shown_turned old place x messages says) → slice_get new.nodes place ≡ Some s → KeepsChosen new (recorded new s given told)
keeps_after old new place x s given messages told says is inside m t keeps at =
    rw (node_after old new place x s is inside at, is, m, t) (keeps_in_place old place x messages says keeps)

pub world_after : {E : Type 0} (r : Result (Unit {0}) E) (old new last : World) (place : ℕ) (x : Shown) (given messages : List Message) (told says : List Say) → new ≡ with_node old place x
    → place < length old.nodes → given ≡ messages → told ≡ says → ((s : Shown) → slice_get new.nodes place ≡ Some s → OnOk r (last ≡ recorded new s given told))
    → OnOk r (last ≡ shown_turned old place x messages says)
world_after r old new last place x given messages told says is inside m t made =
    let at : slice_get new.nodes place ≡ Some x = ap (λ (v : World). slice_get v.nodes place) is ∙ node_put old place x inside in
    on_ok _ _ r (λ done. done ∙ (ap (λ (v : World). recorded v x given told) is ∙ (ap₂ (λ (ms : List Message) (ss : List Say). recorded (with_node old place x) x ms ss) m t ∙ recorded_is old place x messages says))) (made x at)

nodes_recorded : (v : World) (s : Shown) (messages : List Message) (says : List Say) → (recorded v s messages says).nodes ≡ v.nodes
unfolding recorded
nodes_recorded v s messages says = refl

pub held_after : {E : Type 0} (ring : Layout) (r : Result (Unit {0}) E) (old mid : ReplayState) (last : ReplayState) (place : ℕ) (x : Shown) (given : List Message) (told : List Say) → mid.world ≡ with_node old.world place x
    → place < length old.world.nodes → HasEngines ring mid → ((s : Shown) → slice_get mid.world.nodes place ≡ Some s → OnOk r (last.world ≡ recorded mid.world s given told)) → OnOk r (last.engines ≡ mid.engines)
    → OnOk r (HasEngines ring last)
held_after ring r old mid last place x given told is inside held made same =
    let at : slice_get mid.world.nodes place ≡ Some x = ap (λ (v : World). slice_get v.nodes place) is ∙ node_put old.world place x inside in
    on_ok2 _ _ _ r (λ done kept. kept ∙ (held ∙ ap (map (engine_of ring)) (sym (ap (λ (v : World). v.nodes) done ∙ nodes_recorded mid.world x given told)))) (made x at) same

-- ---- what an answer says of the turn
pub answered_none : (ring : Layout) (v : World) (place : ℕ) (i : Input) (s : Shown) → slice_get v.nodes place ≡ Some s → None ≡ option_map outcome_of (answered ring i s)
    → shown_passed (with_node v place (after_answer s (answered ring i s))) ≡ turn_of ring v place (Handle i) (slice_get v.nodes place)
unfolding with_node
answered_none ring v place i s at none = rw at (go s.soft refl none)
  where
    go : (o : Option Soft) → s.soft ≡ o → None ≡ option_map outcome_of (option_map (λ (f : Soft). step ring s.node s.durable f i) o)
        → shown_passed (with_node v place (after_answer s (option_map (λ (f : Soft). step ring s.node s.durable f i) o))) ≡ shown_handled ring v place s i o
    go None is none = ap (λ (ss : List Shown). shown_passed (record v { nodes = ss })) (set_back v.nodes place s at)
    go (Some f) is none = absurd cc

pub answered_some : (ring : Layout) (v : World) (place : ℕ) (i : Input) (s : Shown) (it : Outcome) → slice_get v.nodes place ≡ Some s → Some it ≡ option_map outcome_of (answered ring i s)
    → shown_turned v place (after_answer s (answered ring i s)) it.messages it.says ≡ turn_of ring v place (Handle i) (slice_get v.nodes place)
answered_some ring v place i s it at some = rw at (go s.soft some)
  where
    go : (o : Option Soft) → Some it ≡ option_map outcome_of (option_map (λ (f : Soft). step ring s.node s.durable f i) o)
        → shown_turned v place (after_answer s (option_map (λ (f : Soft). step ring s.node s.durable f i) o)) it.messages it.says ≡ shown_handled ring v place s i o
    go None some = absurd cc
    go (Some f) some =
        let same : it ≡ outcome_of (step ring s.node s.durable f i) = some_same _ _ some in
        ap (λ (x : Outcome). shown_turned v place (ended_node s (step ring s.node s.durable f i)) x.messages x.says) same
