-- What the laws of runs give of a world that is shown: fit nodes, messages that are nearly well formed, and a chosen sequence that only grows.
-- Only private contracts cite this file.
use Rattle.std.specs.Prelude.{◌≡◌, ℕ, Some, length, slice_get, take}
use Rattle.std.specs.List.{Contains}
use Rattle.ring_types.specs.Rings.{Layout}
use Rattle.ring_model.specs.WellFormed.{IsNearlyWellFormed}
use Rattle.ring_model.specs.declared.messages.Message.{Message}
use Rattle.ring_model.specs.declared.worlds.Shown.{Shown}
use Rattle.ring_model.specs.declared.worlds.World.{World}
use Rattle.node_unit.specs.Units.{IsFitShown}

pub record IsFitWorld (ring : Layout) (v : World) : Type 0 where
  pub nodes : (place : ℕ) (s : Shown) → slice_get v.nodes place ≡ Some s → IsFitShown ring s
  pub messages : (m : Message) → Contains v.messages m → IsNearlyWellFormed ring.schema m

-- what was chosen in the first world is the beginning of what is chosen in the second
abbrev pub KeepsChosen : World → World → Type 0
KeepsChosen v n = take (length v.chosen) n.chosen ≡ v.chosen
