-- What each step of a lawful node leaves, whatever well-formed input it is given; and what recovery makes of a sound durable part.
use Rattle.std.specs.Prelude.{◌≡◌, ℕ, ◌≤◌, Bool, true, false, List, length, take}
use Rattle.std.specs.List.{Contains}
use Rattle.ring_types.specs.Rings.{Layout}
use Rattle.ring_types.specs.Rows.{payloads_fit}
use Rattle.ring_model.specs.Actions.{ArePossible, all_done}
use Rattle.ring_model.specs.Dispatch.{step}
use Rattle.ring_model.specs.Nodes.{IsLawful, IsSound, empty_durable, fresh_soft, recover}
use Rattle.ring_model.specs.Runs.{IsRun, Move, world}
use Rattle.ring_model.specs.WellFormed.{IsNearlyWellFormed, IsWellFormed}
use Rattle.ring_model.specs.Worlds.{restart_actions}
use Rattle.ring_model.specs.declared.messages.Body.{Body}
use Rattle.ring_model.specs.declared.messages.Body.TheVariants as body
use Rattle.ring_model.specs.declared.messages.Input.{Input}
use Rattle.ring_model.specs.declared.messages.Input.TheVariants as input
use Rattle.ring_model.specs.declared.messages.Message.{Message}
use Rattle.ring_model.specs.declared.nodes.Durable.{Durable}
use Rattle.ring_model.specs.declared.nodes.Soft.{Soft}

-- a message is well formed, but that the groups of an Append may have any sum of bytes; a write has a change
abbrev pub IsGood : Layout → Input → Type 0
IsGood ring (input.Deliver m) = IsNearlyWellFormed ring.schema m
IsGood ring (input.Write client changes) = 1 ≤ length changes
IsGood ring _ = Unit {0}

-- the node is lawful, and the payloads of its log fit the schema
abbrev pub IsFitNode : Layout → ℕ → Durable → Soft → Type 0
IsFitNode ring me d s = IsLawful ring me d s × (payloads_fit ring.schema d.log ≡ true)

-- the durable part is sound, and the payloads of its log fit the schema
abbrev pub IsFitPart : Layout → ℕ → Durable → Type 0
IsFitPart ring me d = IsSound ring me d × (payloads_fit ring.schema d.log ≡ true)

-- ---- lawful
abbrev pub EveryStepKeepsLawful : Type 0
EveryStepKeepsLawful = (ring : Layout) (me : ℕ) (d : Durable) (s : Soft) (i : Input) → IsFitNode ring me d s → IsGood ring i
    → IsFitNode ring me (all_done d (step ring me d s i).plan.actions) (step ring me d s i).soft

-- ---- possible, and sound however far it went
abbrev pub EveryStepIsPossible : Type 0
EveryStepIsPossible = (ring : Layout) (me : ℕ) (d : Durable) (s : Soft) (i : Input) → IsFitNode ring me d s → IsGood ring i
    → ArePossible ring.schema d (step ring me d s i).plan.actions
    × ((n : ℕ) → IsFitPart ring me (all_done d (take n (step ring me d s i).plan.actions)))

-- ---- well formed
-- a proxy is asked to send entries in the leader's name
abbrev pub asks_proxy_body : Body → Bool
asks_proxy_body (body.ProxyAppend sent) = true
asks_proxy_body _ = false

abbrev pub asks_proxy : Input → Bool
asks_proxy (input.Deliver m) = asks_proxy_body m.body
asks_proxy _ = false

-- what a step sends is well formed, but for the sum of bytes of an Append that a proxy builds
abbrev pub EveryStepSendsWellFormed : Type 0
EveryStepSendsWellFormed = (ring : Layout) (me : ℕ) (d : Durable) (s : Soft) (i : Input) → IsFitNode ring me d s → IsGood ring i
    → (m : Message) → Contains (step ring me d s i).plan.messages m
    → IsNearlyWellFormed ring.schema m × (asks_proxy i ≡ false → IsWellFormed ring.schema m)

-- ---- recovery
abbrev pub EveryRecoveryIsLawful : Type 0
EveryRecoveryIsLawful = (ring : Layout) (me : ℕ) (d : Durable) → IsSound ring me d
    → IsLawful ring me (recover d) (fresh_soft d)
    × ArePossible ring.schema d (restart_actions d)
    × ((n : ℕ) → IsSound ring me (all_done d (take n (restart_actions d))))
    × (all_done d (restart_actions d) ≡ recover d)

-- a node that never ran
abbrev pub EveryFirstNodeIsLawful : Type 0
EveryFirstNodeIsLawful = (ring : Layout) (me : ℕ) → IsFitPart ring me empty_durable × IsFitNode ring me empty_durable (fresh_soft empty_durable)

-- ---- runs
abbrev pub EveryMessageIsNearlyWellFormed : Type 0
EveryMessageIsNearlyWellFormed = (ring : Layout) (run : List Move) → IsRun ring run → (m : Message) → Contains (world ring run).messages m → IsNearlyWellFormed ring.schema m
