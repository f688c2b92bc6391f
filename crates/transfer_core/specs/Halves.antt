-- The transfer's part of a rule whose other part is the election's. Only the contracts of this crate and the dispatcher cite it.
use Rattle.std.specs.Prelude.{ℕ, ◌==◌, Bool, not, ◌&&◌}
use Rattle.ring_types.specs.Rings.{Layout, votes}
use Rattle.ring_model.specs.Nodes.{is_leader}
use Rattle.ring_model.specs.declared.nodes.Soft.{Soft}

-- a node of this term that is told to elect itself stands: the term is its own, it votes and does not lead
abbrev pub stands_when_told : Layout → ℕ → ℕ → Soft → ℕ → Bool
stands_when_told ring me term s told = told == term && votes ring me && not (is_leader s.role)
