-- The world: all nodes, all messages ever sent, what was said and kept, and the chosen sequence; and what an event makes of it.
use Rattle.std.specs.Prelude.{◌≡◌, ℕ, zero, suc, ◌+◌, ◌==◌, nat_lt, nat_le, if◌then◌else◌, Bool, true, false, not, ◌&&◌, List, [], ◌∷◌, ◌++◌, length, map, take, Option, Some, None, slice_get}
use Rattle.ring_types.specs.declared.members.Member.{Member}
use Rattle.ring_types.specs.declared.entries.Entry.{Entry}
use Rattle.ring_types.specs.declared.values.Change.{Change}
use Rattle.ring_types.specs.Rings.{Layout, is_member}
use Rattle.ring_model.specs.Actions.{all_done}
use Rattle.ring_model.specs.Nodes.{Node, recover, fresh_soft, empty_durable, stray_opids}
use Rattle.ring_model.specs.Dispatch.{step}
use Rattle.ring_model.specs.declared.nodes.Durable.{Durable}
use Rattle.ring_model.specs.declared.nodes.Soft.{Soft}
use Rattle.ring_model.specs.declared.effects.Action.{Action}
use Rattle.ring_model.specs.declared.effects.Action.TheVariants as action
use Rattle.ring_model.specs.declared.effects.Step.{Step}
use Rattle.ring_model.specs.declared.effects.Say.{Say}
use Rattle.ring_model.specs.declared.messages.Message.{Message}
use Rattle.ring_model.specs.declared.messages.Input.{Input}
use Rattle.ring_model.specs.declared.messages.Input.TheVariants as input
use Rattle.ring_model.specs.declared.worlds.Shown.{Shown}
use Rattle.ring_model.specs.declared.worlds.Said.{Said}
use Rattle.ring_model.specs.declared.worlds.Kept.{Kept}
use Rattle.ring_model.specs.declared.worlds.World.{World}
use Rattle.ring_model.specs.declared.worlds.Event.{Event}
use Rattle.ring_model.specs.declared.worlds.Line.{Line}
use Rattle.ring_model.specs.declared.worlds.Line.TheVariants as line

-- the ring after some events; nodes and cursors by the members' numbers
pub record WorldState : Type 0 where
  pub events : ℕ
  pub nodes : ℕ → Node
  pub messages : List Message
  pub cursors : ℕ → ℕ
  pub said : List Said
  pub kept : List Kept
  pub chosen : List Entry

-- how far an event went: to its end, or only through the first so many of its actions
pub data Completion : Type 0 where
  Whole : Completion
  Cut : (count : ℕ) → Completion

-- what an event makes the acting node do; Rest is nothing, at a node for which there was nothing to handle
pub data Task : Type 0 where
  Handle : (given : Input) → Task
  GoDown : Task
  ComeUp : Task
  Rest : Task

-- ---- the chosen sequence
-- how far a node shows that it went: its commit count, or its applied count while it is down
abbrev pub reach : Node → ℕ
reach n = elim n.soft [ None ↦ n.durable.applied | Some s ↦ s.commit ]

-- the chosen sequence after an event of this node
abbrev pub grown : List Entry → Node → List Entry
grown chosen n = if nat_lt (length chosen) (reach n) then take (reach n) n.durable.log else chosen

-- ---- one turn of a node
abbrev pub with_node : (ℕ → Node) → ℕ → Node → ℕ → Node
with_node nodes id n other = if other == id then n else nodes other

abbrev pub said_in : ℕ → ℕ → Say → Said
said_in event id say = record { event = event; node = id; say = say }

abbrev pub kept_in : ℕ → ℕ → ℕ → Kept
kept_in event id count = record { event = event; node = id; actions = count }

-- the node becomes this, sends and says this, and may have been cut
abbrev pub turned : WorldState → ℕ → Node → List Message → List Say → List ℕ → WorldState
turned w id n messages says cuts = record {
  events = suc w.events;
  nodes = with_node w.nodes id n;
  messages = w.messages ++ messages;
  cursors = w.cursors;
  said = w.said ++ map (said_in (suc w.events) id) says;
  kept = w.kept ++ map (kept_in (suc w.events) id) cuts;
  chosen = grown w.chosen n;
}

-- an event that makes no node act
abbrev pub passed : WorldState → WorldState
passed w = record w { events = suc w.events }

-- a step that went to its end has all its actions, messages and sayings; one that was cut has its first actions, and the node is down
abbrev pub ended : WorldState → ℕ → Durable → Step → Completion → WorldState
ended w id d st Whole = turned w id (record { durable = all_done d st.plan.actions; soft = Some st.soft }) st.plan.messages st.plan.says []
ended w id d st (Cut count) = turned w id (record { durable = all_done d (take count st.plan.actions); soft = None }) [] [] (count ∷ [])

-- a node that is down takes nothing in: what it is given is gone
abbrev pub handled : Layout → WorldState → ℕ → Input → Completion → Durable → Option Soft → WorldState
handled ring w id given completion d None = passed w
handled ring w id given completion d (Some s) = ended w id d (step ring id d s given) completion

-- the one action that a restart may take: dropping the pairs whose entries are not in the log
abbrev pub restart_actions : Durable → List Action
restart_actions d = elim (stray_opids d) [ [] ↦ [] | o ∷ opids ↦ action.DropPairs (o ∷ opids) ∷ [] ]

abbrev pub restarted : WorldState → ℕ → Durable → Completion → WorldState
restarted w id d Whole = turned w id (record { durable = recover d; soft = Some (fresh_soft d) }) [] [] []
restarted w id d (Cut count) = turned w id (record { durable = all_done d (take count (restart_actions d)); soft = None }) [] [] (count ∷ [])

-- nothing is due at the node, and its disk may stop all the same
abbrev pub rested : WorldState → ℕ → Durable → Completion → WorldState
rested w id d Whole = passed w
rested w id d (Cut count) = turned w id (record { durable = d; soft = None }) [] [] (count ∷ [])

abbrev pub turn : Layout → WorldState → ℕ → Task → Completion → WorldState
turn ring w id (Handle given) completion = handled ring w id given completion (w.nodes id).durable (w.nodes id).soft
turn ring w id GoDown completion = turned w id (record { durable = (w.nodes id).durable; soft = None }) [] [] []
turn ring w id ComeUp completion = restarted w id (w.nodes id).durable completion
turn ring w id Rest completion = rested w id (w.nodes id).durable completion

-- ---- which node an event makes act
-- the message of a number counted from 1
abbrev pub message_at : List Message → ℕ → Option Message
message_at messages zero = None
message_at messages (suc k) = slice_get messages k

-- the number of the first message to a node above its cursor, where the list begins with this number
abbrev pub next_from : ℕ → List Message → ℕ → ℕ → Option ℕ
next_from number [] id cursor = None
next_from number (m ∷ messages) id cursor = if nat_lt cursor number && m.to == id then Some number else next_from (suc number) messages id cursor

abbrev pub next_to : WorldState → ℕ → Option ℕ
next_to w id = next_from 1 w.messages id (w.cursors id)

abbrev pub with_cursor : (ℕ → ℕ) → ℕ → ℕ → ℕ → ℕ
with_cursor cursors id number other = if other == id then number else cursors other

abbrev pub moved : WorldState → ℕ → ℕ → WorldState
moved w id number = record w { cursors = with_cursor w.cursors id number }

-- only members act
abbrev pub member_turn : Layout → WorldState → ℕ → Task → Completion → WorldState
member_turn ring w id task completion = if is_member ring id then turn ring w id task completion else passed w

abbrev pub given : Layout → WorldState → Completion → Option Message → WorldState
given ring w completion None = passed w
given ring w completion (Some m) = member_turn ring w m.to (Handle (input.Deliver m)) completion

-- the message that is due at a node is given to it; with none, nothing is due
abbrev pub given_to : Layout → WorldState → ℕ → Completion → Option Message → WorldState
given_to ring w id completion None = member_turn ring w id Rest completion
given_to ring w id completion (Some m) = member_turn ring w m.to (Handle (input.Deliver m)) completion

-- the next message is given, and the cursor moves there first, also when the node is down
abbrev pub next_given : Layout → WorldState → ℕ → Completion → Option ℕ → WorldState
next_given ring w id completion None = member_turn ring w id Rest completion
next_given ring w id completion (Some number) = given_to ring (moved w id number) id completion (message_at w.messages number)

-- the cursor moves, and the message is not given
abbrev pub skipped : Layout → WorldState → ℕ → Completion → Option ℕ → WorldState
skipped ring w id completion None = member_turn ring w id Rest completion
skipped ring w id completion (Some number) = member_turn ring (moved w id number) id Rest completion

-- messages are given from the list alone
abbrev pub at_node : Layout → WorldState → ℕ → Input → Completion → WorldState
at_node ring w id (input.Deliver m) completion = member_turn ring w id Rest completion
at_node ring w id i completion = member_turn ring w id (Handle i) completion

abbrev pub line_step : Layout → WorldState → Completion → Line → WorldState
line_step ring w completion (line.At node i) = at_node ring w node i completion
line_step ring w completion (line.Give number) = given ring w completion (message_at w.messages number)
line_step ring w completion (line.Next node) = next_given ring w node completion (next_to w node)
line_step ring w completion (line.Skip node) = skipped ring w node completion (next_to w node)
line_step ring w completion (line.Again node) = given_to ring w node completion (message_at w.messages (w.cursors node))
line_step ring w completion (line.Crash node) = member_turn ring w node GoDown completion
line_step ring w completion (line.Restart node) = member_turn ring w node ComeUp completion

-- what an event makes of a world
unfoldable pub world_step : Layout → WorldState → Event → Completion → WorldState
world_step ring w e completion = line_step ring w completion e.what

-- ---- the first world: every node runs on the empty durable part
abbrev pub fresh_node : Node
fresh_node = record { durable = empty_durable; soft = Some (fresh_soft empty_durable) }

abbrev pub first_world : WorldState
first_world = record { events = 0; nodes = λ id. fresh_node; messages = []; cursors = λ id. 0; said = []; kept = []; chosen = [] }

-- ---- the world as it is shown: nodes and cursors in ring order
abbrev pub shown_node : WorldState → Member → Shown
shown_node w m = record { node = m.id; durable = (w.nodes m.id).durable; soft = (w.nodes m.id).soft }

unfoldable pub shown : Layout → WorldState → World
shown ring w = record {
  events = w.events;
  nodes = map (shown_node w) ring.members;
  messages = w.messages;
  cursors = map (λ (m : Member). w.cursors m.id) ring.members;
  said = w.said;
  kept = w.kept;
  chosen = w.chosen;
}
