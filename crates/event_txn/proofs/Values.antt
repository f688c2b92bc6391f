-- The values so far and those to come are all of them: what is read goes behind what was read.
use Rattle.std.proofs.Common.{List, ◌++◌, ℕ, Result, Ok}
use Rattle.event_frame.specs.Forms.{and_then}
use Rattle.ring_types.specs.declared.values.Value.{Value}
use Rattle.event_txn.specs.declared.faults.BodyFault.{BodyFault}

-- these values before those that are read
abbrev pub after : List Value → Result (List Value × List ℕ) BodyFault → Result (List Value × List ℕ) BodyFault
after front r = and_then r (λ x. Ok (front ++ x.0, x.1))
