use Rattle.std.specs.Prelude.{◌≡◌, ℕ, List, ◌++◌, Option, Some, Result, Ok, Err}
use Rattle.edge_traits.specs.Counts.{Rose}
use Rattle.edge_traits.specs.declared.sinks.SinkFault.{SinkFault}
use Rattle.edge_traits.specs.declared.sinks.SinkFault.TheVariants as fault

-- of the bytes a front was taken, and the rest was not
pub record TakesFront (old bytes : List ℕ) (new : Option (List ℕ)) : Type 0 where
  pub front : List ℕ
  pub rest : List ℕ
  pub split : bytes ≡ front ++ rest
  pub taken : new ≡ Some (old ++ front)

-- what the answer says of the bytes that were taken: all at Ok, and a front of them after a fault
abbrev pub PutIs : List ℕ → List ℕ → Option (List ℕ) → Result (Unit {0}) SinkFault → Type 0
PutIs old bytes new (Ok _) = new ≡ Some (old ++ bytes)
PutIs old bytes new (Err _) = TakesFront old bytes new

-- a fault of the sink comes only where the count of faults rose
abbrev pub PutFails : ℕ → ℕ → Result (Unit {0}) SinkFault → Type 0
PutFails before now (Err fault.Failed) = Rose before now
PutFails before now _ = Unit {0}
