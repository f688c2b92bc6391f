-- Runs: lists of events with how far each went, the world after them, and the elections that they held.
use Rattle.std.specs.Prelude.{◌≡◌, ℕ, zero, suc, ◌+◌, ◌<◌, ◌≤◌, ◌==◌, nat_lt, nat_le, if◌then◌else◌, Bool, true, false, not, ◌&&◌, List, [], ◌∷◌, ◌++◌, length, map, take, Option, Some, None, is_some}
use Rattle.std.specs.List.{Contains}
use Rattle.ring_types.specs.declared.entries.Entry.{Entry}
use Rattle.ring_types.specs.declared.entries.Opid.{Opid}
use Rattle.ring_types.specs.declared.entries.Grant.{Grant}
use Rattle.ring_types.specs.declared.values.Gtid.{Gtid}
use Rattle.ring_types.specs.Rings.{Layout, is_member}
use Rattle.ring_model.specs.Actions.{done}
use Rattle.ring_model.specs.Nodes.{Node, is_leader}
use Rattle.ring_model.specs.Dispatch.{step, tear_of}
use Rattle.ring_model.specs.Worlds.{WorldState, Completion, Whole, Cut, Task, Handle, GoDown, ComeUp, Rest, world_step, first_world, message_at, next_to, restart_actions}
use Rattle.ring_model.specs.declared.nodes.Durable.{Durable}
use Rattle.ring_model.specs.declared.nodes.Soft.{Soft}
use Rattle.ring_model.specs.declared.effects.Action.{Action}
use Rattle.ring_model.specs.declared.effects.Action.TheVariants as action
use Rattle.ring_model.specs.declared.effects.Step.{Step}
use Rattle.ring_model.specs.declared.effects.Tear.{Tear}
use Rattle.ring_model.specs.declared.effects.What.TheVariants as what
use Rattle.ring_model.specs.declared.messages.Message.{Message}
use Rattle.ring_model.specs.declared.messages.Input.{Input}
use Rattle.ring_model.specs.declared.messages.Input.TheVariants as input
use Rattle.ring_model.specs.declared.worlds.Said.{Said}
use Rattle.ring_model.specs.declared.worlds.Event.{Event}
use Rattle.ring_model.specs.declared.worlds.Line.{Line}
use Rattle.ring_model.specs.declared.worlds.Line.TheVariants as line

-- an event, and how far it went
pub record Move : Type 0 where
  pub event : Event
  pub completion : Completion

abbrev pub world_from : Layout → WorldState → List Move → WorldState
world_from ring w [] = w
world_from ring w (m ∷ run) = world_from ring (world_step ring w m.event m.completion) run

-- the world after a run
unfoldable pub world : Layout → List Move → WorldState
world ring run = world_from ring first_world run

-- events that all went to their end
abbrev pub whole_moves : List Event → List Move
whole_moves events = map (λ (e : Event). record { event = e; completion = Whole }) events

-- ---- which node an event makes act, and what it does
abbrev pub acts_on : Option Message → Option (ℕ × Task)
acts_on None = None
acts_on (Some m) = Some (m.to, Handle (input.Deliver m))

-- the message that is due at a node, or nothing
abbrev pub acts_to : ℕ → Option Message → Option (ℕ × Task)
acts_to node None = Some (node, Rest)
acts_to node (Some m) = Some (m.to, Handle (input.Deliver m))

abbrev pub acts_next : WorldState → ℕ → Option ℕ → Option (ℕ × Task)
acts_next w node None = Some (node, Rest)
acts_next w node (Some number) = acts_to node (message_at w.messages number)

abbrev pub acts_at : ℕ → Input → Option (ℕ × Task)
acts_at node (input.Deliver m) = Some (node, Rest)
acts_at node i = Some (node, Handle i)

-- the node that a line names acts, also where nothing is due at it
abbrev pub acting : WorldState → Line → Option (ℕ × Task)
acting w (line.At node i) = acts_at node i
acting w (line.Give number) = acts_on (message_at w.messages number)
acting w (line.Next node) = acts_next w node (next_to w node)
acting w (line.Skip node) = Some (node, Rest)
acting w (line.Again node) = acts_to node (message_at w.messages (w.cursors node))
acting w (line.Crash node) = Some (node, GoDown)
acting w (line.Restart node) = Some (node, ComeUp)

-- ---- which runs are the ring's
-- a write has a change
abbrev pub is_whole_input : Input → Bool
is_whole_input (input.Write client changes) = nat_lt 0 (length changes)
is_whole_input _ = true

-- the event's node is in the ring, and its message was sent
abbrev pub is_known : Layout → WorldState → Line → Bool
is_known ring w (line.At node i) = is_member ring node && is_whole_input i
is_known ring w (line.Give number) = nat_lt 0 number && nat_le number (length w.messages)
is_known ring w (line.Next node) = is_member ring node
is_known ring w (line.Skip node) = is_member ring node
is_known ring w (line.Again node) = is_member ring node
is_known ring w (line.Crash node) = is_member ring node
is_known ring w (line.Restart node) = is_member ring node

-- the actions that a running node would take
abbrev pub actions_of : Layout → ℕ → Durable → Option Soft → Task → Option (List Action)
actions_of ring id d (Some s) (Handle given) = Some (step ring id d s given).plan.actions
actions_of ring id d None (Handle given) = None
actions_of ring id d (Some s) Rest = Some []
actions_of ring id d None Rest = None
actions_of ring id d soft GoDown = None
actions_of ring id d soft ComeUp = Some (restart_actions d)

abbrev pub IsCutOf : ℕ → Option (List Action) → Type 0
IsCutOf count None = ⊥
IsCutOf count (Some actions) = count ≤ length actions

abbrev pub MayCut : Layout → WorldState → ℕ → Option (ℕ × Task) → Type 0
MayCut ring w count None = ⊥
MayCut ring w count (Some acted) = IsCutOf count (actions_of ring acted.0 (w.nodes acted.0).durable (w.nodes acted.0).soft acted.1)

-- a cut comes only with a suffix, at a node that runs or restarts, among its actions
abbrev pub MayEnd : Layout → WorldState → Event → Completion → Type 0
MayEnd ring w e Whole = Unit {0}
MayEnd ring w e (Cut count) = (is_some e.cut ≡ true) × MayCut ring w count (acting w e.what)

abbrev pub IsRunFrom : Layout → WorldState → List Move → Type 0
IsRunFrom ring w [] = Unit {0}
IsRunFrom ring w (m ∷ run) = (is_known ring w m.event.what ≡ true) × MayEnd ring w m.event m.completion × IsRunFrom ring (world_step ring w m.event m.completion) run

-- the ring may take this run
abbrev pub IsRun : Layout → List Move → Type 0
IsRun ring run = IsRunFrom ring first_world run

-- ---- torn events
abbrev pub tear_at : Layout → ℕ → Durable → Option Soft → Task → Option Tear
tear_at ring id d (Some s) (Handle given) = tear_of ring id d s given
tear_at ring id d None (Handle given) = None
tear_at ring id d soft GoDown = None
tear_at ring id d soft ComeUp = None
tear_at ring id d soft Rest = None

abbrev pub acted_tear : Layout → WorldState → Option (ℕ × Task) → Option Tear
acted_tear ring w None = None
acted_tear ring w (Some acted) = if is_member ring acted.0 then tear_at ring acted.0 (w.nodes acted.0).durable (w.nodes acted.0).soft acted.1 else None

-- where an event is torn
abbrev pub event_tear : Layout → WorldState → Event → Option Tear
event_tear ring w e = acted_tear ring w (acting w e.what)

-- ---- elections
-- a node came to lead a term: its log before the NoOp, and the grants with which it won
pub record Election : Type 0 where
  pub term : ℕ
  pub node : ℕ
  pub base : List Entry
  pub grants : List Grant

-- the first Append of a step that makes a node lead is its NoOp
abbrev pub first_append : ℕ → List Grant → Durable → List Action → List Election
first_append id grants d [] = []
first_append id grants d (action.Append entries ∷ actions) = record { term = d.term; node = id; base = d.log; grants = grants } ∷ []
first_append id grants d (a ∷ actions) = first_append id grants (done d a) actions

abbrev pub kept_actions : Completion → List Action → List Action
kept_actions Whole actions = actions
kept_actions (Cut count) actions = take count actions

abbrev pub held_by : ℕ → Durable → Soft → Step → Completion → List Election
held_by id d s st completion =
    if is_leader s.role then []
    else (if is_leader st.soft.role then first_append id st.soft.grants d (kept_actions completion st.plan.actions) else [])

abbrev pub held_at : Layout → ℕ → Durable → Option Soft → Task → Completion → List Election
held_at ring id d (Some s) (Handle given) completion = held_by id d s (step ring id d s given) completion
held_at ring id d None (Handle given) completion = []
held_at ring id d soft GoDown completion = []
held_at ring id d soft ComeUp completion = []
held_at ring id d soft Rest completion = []

abbrev pub acted_elections : Layout → WorldState → Completion → Option (ℕ × Task) → List Election
acted_elections ring w completion None = []
acted_elections ring w completion (Some acted) = if is_member ring acted.0 then held_at ring acted.0 (w.nodes acted.0).durable (w.nodes acted.0).soft acted.1 completion else []

-- the election that an event held, if it did
abbrev pub event_elections : Layout → WorldState → Move → List Election
event_elections ring w m = acted_elections ring w m.completion (acting w m.event.what)

abbrev pub elections_from : Layout → WorldState → List Move → List Election
elections_from ring w [] = []
elections_from ring w (m ∷ run) = event_elections ring w m ++ elections_from ring (world_step ring w m.event m.completion) run

-- all elections of a run, in order
unfoldable pub elections : Layout → List Move → List Election
elections ring run = elections_from ring first_world run

-- the terms and the nodes that led them
abbrev pub led : Layout → List Move → List (ℕ × ℕ)
led ring run = map (λ (e : Election). (e.term, e.node)) (elections ring run)

-- ---- what was told
-- a client was told that the transaction of this GTID stands at this opid, by a leader of this term
abbrev pub IsTold : WorldState → Gtid → Opid → ℕ → Type 0
IsTold w gtid opid term = (s : Said) × Contains w.said s × (s.say.what ≡ what.Committed gtid opid term)
