use Rattle.std.specs.Prelude.{ℕ, List, Result, Err}
use Rattle.edge_traits.specs.Counts.{next}
use Rattle.edge_traits.specs.declared.shelves.FetchError.{FetchError}
use Rattle.edge_traits.specs.declared.shelves.FetchError.TheVariants as fetch
use Rattle.edge_traits.specs.declared.sinks.SinkFault.{SinkFault}
use Rattle.edge_traits.specs.declared.sinks.SinkFault.TheVariants as fault

-- the count of a shelf's faults after an answer: one more after `Failed`, the same after any other
abbrev pub after_fetch : Result (List ℕ) FetchError → ℕ → ℕ
after_fetch (Err fetch.Failed) faults = next faults
after_fetch _ faults = faults

-- the count of a sink's faults after an answer
abbrev pub after_put : Result (Unit {0}) SinkFault → ℕ → ℕ
after_put (Err fault.Failed) faults = next faults
after_put _ faults = faults
