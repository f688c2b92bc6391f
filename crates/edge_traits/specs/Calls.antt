use Rattle.std.specs.Prelude.{ℕ, ◌==◌, Bool, List, if◌then◌else◌}
use Rattle.std.specs.List.{list_any}
use Rattle.edge_traits.specs.Counts.{next}

-- the calls of a form in memory: the numbers, from 1, of those that fail, and how many came and failed
pub record Calls : Type 0 where
  pub failing : List ℕ
  pub made : ℕ
  pub faults : ℕ

-- before the first call
abbrev pub no_calls : List ℕ → Calls
no_calls failing = record { failing = failing; made = 0; faults = 0 }

-- whether the next call is one that fails
abbrev pub next_fails : Calls → Bool
next_fails c = list_any (λ number. number == next c.made) c.failing

-- after the next call
abbrev pub counted : Calls → Calls
counted c = record c { made = next c.made; faults = if next_fails c then next c.faults else c.faults }

-- what a sink in memory took, and its calls
pub record SinkState : Type 0 where
  pub taken : List ℕ
  pub calls : Calls
