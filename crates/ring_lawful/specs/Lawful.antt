-- What holds of each node in every world of every run.
use Rattle.std.specs.Prelude.{◌≡◌, ℕ, true, List, Some}
use Rattle.std.specs.List.{Contains}
use Rattle.ring_types.specs.declared.entries.Entry.{Entry}
use Rattle.ring_types.specs.declared.values.Gtid.{Gtid}
use Rattle.ring_types.specs.Gtids.{gtid_of}
use Rattle.ring_types.specs.Logs.{entry_at}
use Rattle.ring_types.specs.Rings.{IsRing, Layout}
use Rattle.ring_types.specs.Rows.{is_valid}
use Rattle.ring_model.specs.declared.messages.Input.{Input}
use Rattle.ring_model.specs.declared.messages.Input.TheVariants as input
use Rattle.ring_model.specs.declared.messages.Message.{Message}
use Rattle.ring_model.specs.declared.nodes.Soft.{Soft}
use Rattle.ring_model.specs.Actions.{ArePossible}
use Rattle.ring_model.specs.Dispatch.{step}
use Rattle.ring_model.specs.Runs.{IsRun, Move, is_whole_input, world}
use Rattle.ring_model.specs.Safety.{ChosenIsValid, Runs}
use Rattle.ring_model.specs.Worlds.{restart_actions}
use Rattle.ring_lawful.specs.EachStep.{IsFitNode, IsFitPart}

-- ---- sound and lawful
abbrev pub EveryNodeIsSound : Type 0
EveryNodeIsSound = (ring : Layout) (run : List Move) → IsRun ring run → (id : ℕ) → IsFitPart ring id ((world ring run).nodes id).durable

abbrev pub EveryRunningNodeIsLawful : Type 0
EveryRunningNodeIsLawful = (ring : Layout) (run : List Move) → IsRun ring run → (id : ℕ) (s : Soft) → Runs (world ring run) id s → IsFitNode ring id ((world ring run).nodes id).durable s

-- ---- possible
-- a message that a node is given was sent to it
abbrev pub WasSent : List Message → ℕ → Input → Type 0
WasSent messages id (input.Deliver m) = Contains messages m × (m.to ≡ id)
WasSent messages id _ = Unit {0}

-- the actions that a running node plans on any input that it may be given are possible in turn, and so is what a restart does first
abbrev pub EveryPlanIsPossible : Type 0
EveryPlanIsPossible = (ring : Layout) (run : List Move) → IsRun ring run
    → ((id : ℕ) (s : Soft) → Runs (world ring run) id s → (i : Input) → WasSent (world ring run).messages id i → is_whole_input i ≡ true
    → ArePossible ring.schema ((world ring run).nodes id).durable (step ring id ((world ring run).nodes id).durable s i).plan.actions)
    × ((id : ℕ) → ArePossible ring.schema ((world ring run).nodes id).durable (restart_actions ((world ring run).nodes id).durable))

-- ---- valid
-- the chosen sequence is valid and has no GTID twice
abbrev pub EveryRunChoosesValid : Type 0
EveryRunChoosesValid = (ring : Layout) (run : List Move) → IsRing ring → IsRun ring run → ChosenIsValid ring (world ring run)

-- and so is the log of each node, running or down, committed or not
abbrev pub EveryLogIsValid : Type 0
EveryLogIsValid = (ring : Layout) (run : List Move) → IsRing ring → IsRun ring run → (id : ℕ)
    → (is_valid ring.schema ((world ring run).nodes id).durable.log ≡ true)
    × ((j k : ℕ) (d e : Entry) (g : Gtid) → entry_at ((world ring run).nodes id).durable.log j ≡ Some d → entry_at ((world ring run).nodes id).durable.log k ≡ Some e → gtid_of d ≡ Some g → gtid_of e ≡ Some g → j ≡ k)
