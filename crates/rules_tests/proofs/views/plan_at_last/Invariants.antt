-- the unit is as it was
use Rattle.std.proofs.Common.{◌≡◌}
use Rattle.rules_tests.proofs.views.plan_at_last.Given as goal

abbrev pub invariant-loop-failed : goal.invariant-loop-failed
invariant-loop-failed g l = l.unit ≡ l.fn.unit
