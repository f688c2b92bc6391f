-- A node as its unit holds it, and what a step makes of it.
use Rattle.std.specs.Prelude.{◌≡◌, IfSome, Option, Some, None}
use Rattle.std.specs.Option.{option_map}
use Rattle.ring_types.specs.declared.schemas.Schema.{Schema}
use Rattle.ring_types.specs.Rings.{Layout}
use Rattle.node_store.specs.Stores.{engine_for}
use Rattle.ring_model.specs.Actions.{all_done}
use Rattle.ring_model.specs.Dispatch.{step}
use Rattle.ring_model.specs.Nodes.{Node}
use Rattle.ring_model.specs.declared.effects.Outcome.{Outcome}
use Rattle.ring_model.specs.declared.effects.Step.{Step}
use Rattle.ring_model.specs.declared.messages.Input.{Input}
use Rattle.ring_model.specs.declared.nodes.Soft.{Soft}
use Rattle.ring_model.specs.declared.worlds.Shown.{Shown}
use Rattle.ring_lawful.specs.EachStep.{IsFitNode, IsFitPart}

-- the node as it is shown, and the schema of its engine if it has one
pub record UnitState : Type 0 where
  pub shown : Shown
  pub engine : Option Schema

-- it has the engine that the member has in the ring
abbrev pub IsOf : Layout → UnitState → Type 0
IsOf ring u = u.engine ≡ engine_for ring u.shown.node

-- the durable part is fit and, where the node runs, the node
pub record IsFitShown (ring : Layout) (s : Shown) : Type 0 where
  pub part : IsFitPart ring s.node s.durable
  pub node : IfSome s.soft (IsFitNode ring s.node s.durable)

abbrev pub node_of : Shown → Node
node_of s = record { durable = s.durable; soft = s.soft }

-- the step of a node on an input; None where it is down
abbrev pub answered : Layout → Input → Shown → Option Step
answered ring i s = option_map (λ (f : Soft). step ring s.node s.durable f i) s.soft

abbrev pub ended_node : Shown → Step → Shown
ended_node s st = record s { durable = all_done s.durable st.plan.actions; soft = Some st.soft }

abbrev pub after_answer : Shown → Option Step → Shown
after_answer s None = s
after_answer s (Some st) = ended_node s st

-- the node with its plan made, and nothing of it done
abbrev pub after_plan : Shown → Option Step → Shown
after_plan s None = s
after_plan s (Some st) = record s { soft = Some st.soft }

abbrev pub outcome_of : Step → Outcome
outcome_of st = record { messages = st.plan.messages; says = st.plan.says }
