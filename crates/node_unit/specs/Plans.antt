-- What a plan may fail by, and the one input that is composed of two rules.
use Rattle.std.specs.Prelude.{◌≡◌, ℕ, Bool, true, false, Option, Some, Result, Err, length}
use Rattle.edge_traits.specs.Counts.{Rose}
use Rattle.edge_traits.specs.Views.{Sight}
use Rattle.ring_types.specs.Rings.{Layout}
use Rattle.ring_model.specs.declared.nodes.Durable.{Durable}
use Rattle.ring_model.specs.Steps.{idle}
use Rattle.ring_model.specs.declared.effects.Plan.{Plan}
use Rattle.ring_model.specs.declared.effects.Step.{Step}
use Rattle.ring_model.specs.declared.faults.CoreFault.{CoreFault}
use Rattle.ring_model.specs.declared.faults.CoreFault.TheVariants as fault
use Rattle.ring_model.specs.declared.messages.Body.{Body}
use Rattle.ring_model.specs.declared.messages.Body.TheVariants as body
use Rattle.ring_model.specs.declared.messages.Input.{Input}
use Rattle.ring_model.specs.declared.messages.Input.TheVariants as input
use Rattle.ring_model.specs.declared.nodes.Soft.{Soft}

-- what a view tells that reads the log of this durable part
abbrev pub sight_of : Layout → Durable → Sight
sight_of ring d = record { log = Some d.log; length = length d.log; home = ring.home; schema = ring.schema }

-- the view reads the log of this durable part, and what lies behind it stands for that log
pub record IsRead {V : Type 0} (stands : V → Type 0) (sees : V → Sight) (ring : Layout) (d : Durable) (view : V) : Type 0 where
  pub stand : stands view
  pub sight : sees view ≡ sight_of ring d

-- a fault of the disk comes only where the count of faults rose
abbrev pub StepFails : ℕ → ℕ → Result Plan CoreFault → Type 0
StepFails before now (Err fault.Disk) = Rose before now
StepFails before now _ = Unit {0}

-- where the plan is torn nothing happens in the step
abbrev pub TornRests : Step → Soft → Result Plan CoreFault → Type 0
TornRests st s (Err (fault.Torn position kept sent)) = st ≡ idle s
TornRests st s _ = Unit {0}

-- and the soft part stays
abbrev pub TornStays : Soft → Soft → Result Plan CoreFault → Type 0
TornStays old new (Err (fault.Torn position kept sent)) = new ≡ old
TornStays old new _ = Unit {0}

abbrev pub plan_of : Step → Plan
plan_of st = st.plan

-- the same of a node that may be down
abbrev pub PlanFails : ℕ → ℕ → Result (Option Plan) CoreFault → Type 0
PlanFails before now (Err fault.Disk) = Rose before now
PlanFails before now _ = Unit {0}

abbrev pub RestsWhereTorn : Option Soft → Option Step → Result (Option Plan) CoreFault → Type 0
RestsWhereTorn (Some s) (Some st) (Err (fault.Torn position kept sent)) = st ≡ idle s
RestsWhereTorn _ _ _ = Unit {0}

-- an answer to entries is replication's rule, then the transfer's
abbrev pub is_answer : Body → Bool
is_answer (body.AppendReply answer) = true
is_answer _ = false

abbrev pub is_answer_input : Input → Bool
is_answer_input (input.Deliver m) = is_answer m.body
is_answer_input _ = false
