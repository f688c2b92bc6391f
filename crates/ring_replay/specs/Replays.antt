-- A replay: the world as it is shown, and beside each node the schema of its engine.
use Rattle.std.specs.Prelude.{◌≡◌, Bool, true, false, List, map, Option, Result, Ok, Err}
use Rattle.ring_types.specs.declared.members.Member.{Member}
use Rattle.ring_types.specs.Rings.{Layout}
use Rattle.ring_types.specs.declared.schemas.Schema.{Schema}
use Rattle.node_store.specs.Stores.{engine_for}
use Rattle.node_unit.specs.Units.{UnitState}
use Rattle.ring_model.specs.Runs.{IsRun, whole_moves, world}
use Rattle.ring_model.specs.Worlds.{first_world, shown, shown_node}
use Rattle.ring_model.specs.declared.worlds.Event.{Event}
use Rattle.ring_model.specs.declared.worlds.Shown.{Shown}
use Rattle.ring_model.specs.declared.worlds.World.{World}
use Rattle.ring_replay.specs.declared.replays.EventError.{EventError}
use Rattle.ring_replay.specs.declared.replays.EventError.TheVariants as refusal

pub record ReplayState : Type 0 where
  pub world : World
  pub engines : List (Option Schema)

abbrev pub engine_of : Layout → Shown → Option Schema
engine_of ring s = engine_for ring s.node

-- a member's node before the first event
abbrev pub first_unit : Layout → Member → UnitState
first_unit ring m = record { shown = shown_node first_world m; engine = engine_for ring m.id }

-- each node has the engine that its member has in the ring
abbrev pub HasEngines : Layout → ReplayState → Type 0
HasEngines ring r = r.engines ≡ map (engine_of ring) r.world.nodes

-- the replay is one of this ring: it shows the world after events of the ring that all went to their end, and each node has its engine
pub record IsHeld (ring : Layout) (r : ReplayState) : Type 0 where
  pub events : List Event
  pub runs : IsRun ring (whole_moves events)
  pub world : r.world ≡ shown ring (world ring (whole_moves events))
  pub engines : r.engines ≡ map (engine_of ring) r.world.nodes

-- an event is refused exactly where its node or its message is not known
abbrev pub Refuses : Bool → Result (Unit {0}) EventError → Type 0
Refuses known (Ok done) = known ≡ true
Refuses known (Err refusal.Unknown) = known ≡ false
Refuses known (Err refusal.Memory) = Unit {0}
