-- The step of the world as it is shown, where every event goes to its end: nodes and cursors by the places of their members in ring order, counted from 0.
-- Only private contracts cite this file; `proofs/Law.antt` ties it to the step of the model's world.
use Rattle.std.specs.Prelude.{ℕ, suc, ◌==◌, nat_lt, nat_le, Bool, ◌&&◌, List, [], ◌++◌, length, map, position, Option, Some, None, slice_get, slice_set, unwrap_or}
use Rattle.ring_types.specs.declared.members.Member.{Member}
use Rattle.ring_types.specs.Rings.{Layout, is_member}
use Rattle.node_unit.specs.Units.{ended_node, node_of}
use Rattle.ring_model.specs.Nodes.{recover, fresh_soft}
use Rattle.ring_model.specs.Dispatch.{step}
use Rattle.ring_model.specs.Worlds.{Task, Handle, GoDown, ComeUp, Rest, grown, said_in, message_at, next_from}
use Rattle.ring_model.specs.Runs.{is_whole_input}
use Rattle.ring_model.specs.declared.nodes.Soft.{Soft}
use Rattle.ring_model.specs.declared.effects.Step.{Step}
use Rattle.ring_model.specs.declared.effects.Say.{Say}
use Rattle.ring_model.specs.declared.messages.Message.{Message}
use Rattle.ring_model.specs.declared.messages.Input.{Input}
use Rattle.ring_model.specs.declared.messages.Input.TheVariants as input
use Rattle.ring_model.specs.declared.worlds.Shown.{Shown}
use Rattle.ring_model.specs.declared.worlds.World.{World}
use Rattle.ring_model.specs.declared.worlds.Line.{Line}
use Rattle.ring_model.specs.declared.worlds.Line.TheVariants as line

-- ---- places
abbrev pub place_of : Layout → ℕ → Option ℕ
place_of ring id = position (λ (m : Member). m.id == id) ring.members

abbrev pub cursor_at : List ℕ → Option ℕ → ℕ
cursor_at cursors None = 0
cursor_at cursors (Some place) = unwrap_or (slice_get cursors place) 0

-- the cursor of a member; 0 for a number that is no member's
abbrev pub shown_cursor : Layout → World → ℕ → ℕ
shown_cursor ring v id = cursor_at v.cursors (place_of ring id)

-- ---- one turn of a node
-- the node at the place becomes this, sends and says this
unfoldable pub shown_turned : World → ℕ → Shown → List Message → List Say → World
shown_turned v place s messages says = record {
  events = suc v.events;
  nodes = slice_set v.nodes place s;
  messages = v.messages ++ messages;
  cursors = v.cursors;
  said = v.said ++ map (said_in (suc v.events) s.node) says;
  kept = v.kept;
  chosen = grown v.chosen (node_of s);
}

-- another node stands at the place
unfoldable pub with_node : World → ℕ → Shown → World
with_node v place s = record v { nodes = slice_set v.nodes place s }

-- the turn of this node is counted, and what it sends and says is kept; it stands in its place already
unfoldable pub recorded : World → Shown → List Message → List Say → World
recorded v s messages says = record {
  events = suc v.events;
  nodes = v.nodes;
  messages = v.messages ++ messages;
  cursors = v.cursors;
  said = v.said ++ map (said_in (suc v.events) s.node) says;
  kept = v.kept;
  chosen = grown v.chosen (node_of s);
}

-- an event that makes no node act
abbrev pub shown_passed : World → World
shown_passed v = record v { events = suc v.events }

abbrev pub shown_ended : World → ℕ → Shown → Step → World
shown_ended v place s st = shown_turned v place (ended_node s st) st.plan.messages st.plan.says

-- an input at a node that is down does nothing, and a message given to it is lost
abbrev pub shown_handled : Layout → World → ℕ → Shown → Input → Option Soft → World
shown_handled ring v place s i None = shown_passed v
shown_handled ring v place s i (Some f) = shown_ended v place s (step ring s.node s.durable f i)

abbrev pub downed_node : Shown → Shown
downed_node s = record s { soft = None }

abbrev pub restarted_node : Shown → Shown
restarted_node s = record s { durable = recover s.durable; soft = Some (fresh_soft s.durable) }

abbrev pub shown_turn : Layout → World → ℕ → Shown → Task → World
shown_turn ring v place s (Handle i) = shown_handled ring v place s i s.soft
shown_turn ring v place s GoDown = shown_turned v place (downed_node s) [] []
shown_turn ring v place s ComeUp = shown_turned v place (restarted_node s) [] []
shown_turn ring v place s Rest = shown_passed v

-- ---- which node acts
abbrev pub turn_of : Layout → World → ℕ → Task → Option Shown → World
turn_of ring v place task None = shown_passed v
turn_of ring v place task (Some s) = shown_turn ring v place s task

abbrev pub turn_at : Layout → World → Task → Option ℕ → World
turn_at ring v task None = shown_passed v
turn_at ring v task (Some place) = turn_of ring v place task (slice_get v.nodes place)

-- only members act
abbrev pub shown_member_turn : Layout → World → ℕ → Task → World
shown_member_turn ring v id task = turn_at ring v task (place_of ring id)

abbrev pub shown_given : Layout → World → Option Message → World
shown_given ring v None = shown_passed v
shown_given ring v (Some m) = shown_member_turn ring v m.to (Handle (input.Deliver m))

-- ---- cursors
-- the number of the first message to a node above its cursor
abbrev pub shown_next_to : Layout → World → ℕ → Option ℕ
shown_next_to ring v id = next_from 1 v.messages id (shown_cursor ring v id)

abbrev pub moved_at : World → ℕ → Option ℕ → World
moved_at v number None = v
moved_at v number (Some place) = record v { cursors = slice_set v.cursors place number }

abbrev pub shown_moved : Layout → World → ℕ → ℕ → World
shown_moved ring v id number = moved_at v number (place_of ring id)

abbrev pub shown_next_given : Layout → World → ℕ → Option ℕ → World
shown_next_given ring v id None = shown_passed v
shown_next_given ring v id (Some number) = shown_given ring (shown_moved ring v id number) (message_at v.messages number)

abbrev pub shown_skipped : Layout → World → ℕ → Option ℕ → World
shown_skipped ring v id None = shown_passed v
shown_skipped ring v id (Some number) = shown_passed (shown_moved ring v id number)

-- ---- events
-- messages are given from the list alone
abbrev pub shown_at_node : Layout → World → ℕ → Input → World
shown_at_node ring v id (input.Deliver m) = shown_passed v
shown_at_node ring v id i = shown_member_turn ring v id (Handle i)

-- what a line makes of a shown world
unfoldable pub shown_step : Layout → World → Line → World
shown_step ring v (line.At node i) = shown_at_node ring v node i
shown_step ring v (line.Give number) = shown_given ring v (message_at v.messages number)
shown_step ring v (line.Next node) = shown_next_given ring v node (shown_next_to ring v node)
shown_step ring v (line.Skip node) = shown_skipped ring v node (shown_next_to ring v node)
shown_step ring v (line.Again node) = shown_given ring v (message_at v.messages (shown_cursor ring v node))
shown_step ring v (line.Crash node) = shown_member_turn ring v node GoDown
shown_step ring v (line.Restart node) = shown_member_turn ring v node ComeUp

-- the event's node is in the ring, and its message is among these
abbrev pub known_among : Layout → List Message → Line → Bool
known_among ring messages (line.At node i) = is_member ring node && is_whole_input i
known_among ring messages (line.Give number) = nat_lt 0 number && nat_le number (length messages)
known_among ring messages (line.Next node) = is_member ring node
known_among ring messages (line.Skip node) = is_member ring node
known_among ring messages (line.Again node) = is_member ring node
known_among ring messages (line.Crash node) = is_member ring node
known_among ring messages (line.Restart node) = is_member ring node
