-- what is said of the writes so far
use Rattle.std.proofs.Common.{◌≡◌, map, take}
use Rattle.ring_model.specs.Steps as spec
use Rattle.commit_pipeline.proofs.roles.unknowns.Given as goal

abbrev pub invariant-loop-pending : goal.invariant-loop-pending
invariant-loop-pending l = l.says ≡ map spec.unknown (take l.pending-index l.pending-items)
