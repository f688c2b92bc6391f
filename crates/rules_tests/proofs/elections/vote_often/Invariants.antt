-- the unit stays fit
use Rattle.std.proofs.Common.{◌≡◌}
use Rattle.node_unit.specs.Units.{IsOf, IsFitShown}
use Rattle.rules_tests.proofs.elections.vote_often.Given as goal

pub record Going (of fit : Type 0) : Type 0 where
  pub still_of : of
  pub still_fit : fit

abbrev pub invariant-loop-term : goal.invariant-loop-term
invariant-loop-term g l = Going (IsOf l.ring l.unit) (IsFitShown l.ring l.unit.shown)
