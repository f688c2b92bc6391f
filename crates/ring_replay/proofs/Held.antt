-- A replay is one of its ring: at the beginning, after a turn, and so after each event, since the step of the shown world is the model's.
use Rattle.std.proofs.Common.{◌≡◌, ℕ, zero, suc, ◌<◌, true, List, [], ◌∷◌, ◌++◌, length, map, Option, Some, option_map, refl, ap, sym, ◌∙◌, arith}
use Rattle.std.specs.Prelude.{slice_get, slice_set}
use Rattle.std.proofs.lemmas.List.{length-map, map-set}
use Rattle.std.proofs.lemmas.Option.{slice_get-map}
use Rattle.ring_types.specs.declared.members.Member.{Member}
use Rattle.ring_types.specs.Rings.{Layout}
use Rattle.ring_types.specs.declared.schemas.Schema.{Schema}
use Rattle.node_store.specs.Stores.{engine_for}
use Rattle.node_unit.specs.Units.{UnitState}
use Rattle.ring_model.specs.Worlds.{first_world, shown, shown_node}
use Rattle.ring_model.specs.Runs.{is_known, whole_moves, world}
use Rattle.ring_types.specs.declared.entries.Entry.{Entry}
use Rattle.ring_model.specs.declared.worlds.Event.{Event}
use Rattle.ring_model.specs.declared.worlds.Kept.{Kept}
use Rattle.ring_model.specs.declared.worlds.Said.{Said}
use Rattle.ring_model.specs.declared.worlds.Shown.{Shown}
use Rattle.ring_model.specs.declared.effects.Say.{Say}
use Rattle.ring_model.specs.declared.messages.Message.{Message}
use Rattle.ring_model.specs.declared.worlds.World.{World}
use Rattle.ring_replay.specs.Steps.{recorded, with_node, shown_turned, shown_step, known_among}
use Rattle.ring_replay.specs.Replays.{ReplayState, IsHeld, HasEngines, engine_of, first_unit}
use Rattle.ring_replay.proofs.Law.{IsOnce, known_as, step_is}
use Rattle.ring_replay.proofs.OneMore.{one_more, world_more}

map_of_map : {X Y Z : Type 0} (f : X → Y) (g : Y → Z) (xs : List X) → map g (map f xs) ≡ map (λ x. g (f x)) xs
map_of_map f g [] = refl
map_of_map f g (x ∷ xs) = ap (λ zs. g (f x) ∷ zs) (map_of_map f g xs)

-- at the beginning
pub first_nodes : (ring : Layout) (ms : List Member) → map (λ (u : UnitState). u.shown) (map (first_unit ring) ms) ≡ map (shown_node first_world) ms
first_nodes ring ms = map_of_map (first_unit ring) (λ (u : UnitState). u.shown) ms

pub first_engines : (ring : Layout) (ms : List Member) → map (λ (u : UnitState). u.engine) (map (first_unit ring) ms) ≡ map (engine_of ring) (map (shown_node first_world) ms)
first_engines ring ms = map_of_map (first_unit ring) (λ (u : UnitState). u.engine) ms ∙ sym (map_of_map (shown_node first_world) (engine_of ring) ms)

pub first_world_is : (ring : Layout) (units : List UnitState) (cursors : List ℕ) (messages : List Message) (said : List Said) (kept : List Kept) (chosen : List Entry)
    → units ≡ map (first_unit ring) ring.members → cursors ≡ map (λ (m : Member). first_world.cursors m.id) ring.members → messages ≡ [] → said ≡ [] → kept ≡ [] → chosen ≡ []
    → record { events = 0; nodes = map (λ (u : UnitState). u.shown) units; messages = messages; cursors = cursors; said = said; kept = kept; chosen = chosen } ≡ shown ring first_world
unfolding shown
first_world_is ring units cursors messages said kept chosen a b c d e f =
    rw (a, b, c, d, e, f) (ap (λ (ss : List Shown). record { events = 0; nodes = ss; messages = []; cursors = map (λ (m : Member). first_world.cursors m.id) ring.members; said = []; kept = []; chosen = [] }) (first_nodes ring ring.members))

pub first_held : (ring : Layout) (r : ReplayState) → r.world ≡ shown ring first_world → r.engines ≡ map (λ (u : UnitState). u.engine) (map (first_unit ring) ring.members) → IsHeld ring r
unfolding shown world
first_held ring r is engines = record {
  events = [];
  runs = tt;
  world = is;
  engines = rw is (engines ∙ first_engines ring ring.members);
}

-- ---- a replay that is held
-- its nodes are those of the members, in ring order
pub held_nodes : (ring : Layout) (r : ReplayState) → IsHeld ring r → map (λ (s : Shown). s.node) r.world.nodes ≡ map (λ (m : Member). m.id) ring.members
unfolding shown
held_nodes ring r held = rw held.world (map_of_map (shown_node (world ring (whole_moves held.events))) (λ (s : Shown). s.node) ring.members)

-- and so are its cursors
pub held_cursors : (ring : Layout) (r : ReplayState) → IsHeld ring r → length r.world.cursors ≡ length ring.members
unfolding shown
held_cursors ring r held = rw held.world (length-map ring.members (λ (m : Member). (world ring (whole_moves held.events)).cursors m.id))

-- an event that is known leads to the world of a longer run
pub next_known : (ring : Layout) (r : ReplayState) (e : Event) (held : IsHeld ring r) → true ≡ known_among ring r.world.messages e.what
    → is_known ring (world ring (whole_moves held.events)) e.what ≡ true
next_known ring r e held known = known_as ring r.world (world ring (whole_moves held.events)) e.what true held.world known

pub next_shown : (ring : Layout) (r : ReplayState) (e : Event) (held : IsHeld ring r) → IsOnce ring → true ≡ known_among ring r.world.messages e.what
    → shown_step ring r.world e.what ≡ shown ring (world ring (whole_moves (held.events ++ e ∷ [])))
next_shown ring r e held once known =
    ap (λ (v : World). shown_step ring v e.what) held.world
    ∙ (step_is ring (world ring (whole_moves held.events)) e once (next_known ring r e held known) ∙ ap (shown ring) (sym (world_more ring held.events e)))

pub held_on : (ring : Layout) (old new : ReplayState) (e : Event) → IsOnce ring → IsHeld ring old → true ≡ known_among ring old.world.messages e.what
    → new.world ≡ shown_step ring old.world e.what → HasEngines ring new → IsHeld ring new
held_on ring old new e once held known is engines = record {
  events = held.events ++ e ∷ [];
  runs = one_more ring held.events e held.runs (next_known ring old e held known);
  world = is ∙ next_shown ring old e held once known;
  engines = engines;
}

-- ---- one turn
pub some_same : {X : Type 0} (x y : X) → Some x ≡ Some y → x ≡ y
some_same x y e = cc

-- ---- the units of a replay
-- the unit at a place has the engine of its member
pub engine_there : (ring : Layout) (units : List UnitState) (place : ℕ) (u : UnitState) → map (λ (x : UnitState). x.engine) units ≡ map (engine_of ring) (map (λ (x : UnitState). x.shown) units)
    → slice_get units place ≡ Some u → u.engine ≡ engine_for ring u.shown.node
engine_there ring units place u held at =
    let one = slice_get-map (λ (x : UnitState). x.engine) units place ∙ ap (option_map (λ (x : UnitState). x.engine)) at in
    let other = slice_get-map (λ (x : UnitState). engine_of ring x.shown) units place ∙ ap (option_map (λ (x : UnitState). engine_of ring x.shown)) at in
    some_same _ _ (sym one ∙ (ap (λ (es : List (Option Schema)). slice_get es place) (held ∙ map_of_map (λ (x : UnitState). x.shown) (engine_of ring) units) ∙ other))

-- and shows the node there
pub shown_there : (units : List UnitState) (place : ℕ) (u : UnitState) → slice_get units place ≡ Some u → slice_get (map (λ (x : UnitState). x.shown) units) place ≡ Some u.shown
shown_there units place u at = slice_get-map (λ (x : UnitState). x.shown) units place ∙ ap (option_map (λ (x : UnitState). x.shown)) at

pub same_shown : (units : List UnitState) (place : ℕ) (u : UnitState) (s : Shown) → slice_get units place ≡ Some u → slice_get (map (λ (x : UnitState). x.shown) units) place ≡ Some s → s ≡ u.shown
same_shown units place u s at there = some_same _ _ (sym there ∙ shown_there units place u at)

pub set_back : {X : Type 0} (xs : List X) (place : ℕ) (x : X) → slice_get xs place ≡ Some x → slice_set xs place x ≡ xs
set_back [] place x is = refl
set_back (y ∷ ys) zero x is = ap (λ z. z ∷ ys) (sym (some_same y x is))
set_back (y ∷ ys) (suc place) x is = ap (λ zs. y ∷ zs) (set_back ys place x is)

-- a unit that keeps its engine keeps those of all
pub engines_kept : (units : List UnitState) (place : ℕ) (u n : UnitState) → slice_get units place ≡ Some u → n.engine ≡ u.engine
    → map (λ (x : UnitState). x.engine) (slice_set units place n) ≡ map (λ (x : UnitState). x.engine) units
engines_kept units place u n at same =
    let there = slice_get-map (λ (x : UnitState). x.engine) units place ∙ ap (option_map (λ (x : UnitState). x.engine)) at in
    map-set (λ (x : UnitState). x.engine) units place n
    ∙ (ap (slice_set (map (λ (x : UnitState). x.engine) units) place) same ∙ set_back (map (λ (x : UnitState). x.engine) units) place u.engine there)

-- another unit of the same member leaves the engines those of the members
pub held_by : (ring : Layout) (units : List UnitState) (place : ℕ) (u n : UnitState) → map (λ (x : UnitState). x.engine) units ≡ map (engine_of ring) (map (λ (x : UnitState). x.shown) units)
    → slice_get units place ≡ Some u → n.engine ≡ u.engine → n.shown.node ≡ u.shown.node
    → map (λ (x : UnitState). x.engine) (slice_set units place n) ≡ map (engine_of ring) (map (λ (x : UnitState). x.shown) (slice_set units place n))
held_by ring units place u n held at same node =
    let shown = map (λ (x : UnitState). x.shown) units in
    let there = slice_get-map (engine_of ring) shown place ∙ ap (option_map (engine_of ring)) (shown_there units place u at) in
    let right : map (engine_of ring) (map (λ (x : UnitState). x.shown) (slice_set units place n)) ≡ map (engine_of ring) shown =
    ap (map (engine_of ring)) (map-set (λ (x : UnitState). x.shown) units place n)
    ∙ (map-set (engine_of ring) shown place n.shown
    ∙ (ap (λ (k : ℕ). slice_set (map (engine_of ring) shown) place (engine_for ring k)) node ∙ set_back (map (engine_of ring) shown) place (engine_of ring u.shown) there)) in
    engines_kept units place u n at same ∙ (held ∙ sym right)

-- ---- a turn in place
-- the turn is counted where the node stands already
pub recorded_is : (v : World) (place : ℕ) (s : Shown) (messages : List Message) (says : List Say) → recorded (with_node v place s) s messages says ≡ shown_turned v place s messages says
unfolding recorded with_node shown_turned
recorded_is v place s messages says = refl

pub node_put : (v : World) (place : ℕ) (s : Shown) → place < length v.nodes → slice_get (with_node v place s).nodes place ≡ Some s
unfolding with_node
node_put v place s inside = set_get v.nodes place s inside
  where
    set_get : {X : Type 0} (xs : List X) (place : ℕ) (x : X) → place < length xs → slice_get (slice_set xs place x) place ≡ Some x
    set_get [] place x h = absurd (omega arith)
    set_get (y ∷ ys) zero x h = refl
    set_get (y ∷ ys) (suc place) x h = set_get ys place x (omega arith)

pub nodes_put : (v : World) (place : ℕ) (s : Shown) → length (with_node v place s).nodes ≡ length v.nodes
unfolding with_node
nodes_put v place s = set_length v.nodes place s
  where
    set_length : {X : Type 0} (xs : List X) (place : ℕ) (x : X) → length (slice_set xs place x) ≡ length xs
    set_length [] place x = refl
    set_length (y ∷ ys) zero x = refl
    set_length (y ∷ ys) (suc place) x = ap suc (set_length ys place x)

pub some_there : (nodes : List Shown) (place : ℕ) → place < length nodes → (s : Shown) × (slice_get nodes place ≡ Some s)
some_there [] place h = absurd (omega arith)
some_there (s ∷ nodes) zero h = (s, refl)
some_there (s ∷ nodes) (suc place) h = some_there nodes place (omega arith)
