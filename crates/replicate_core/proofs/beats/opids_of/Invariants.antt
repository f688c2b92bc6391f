-- the opids so far stand before those of the entries that are left
use Rattle.std.proofs.Common.{◌≡◌, ◌++◌, drop}
use Rattle.ring_model.specs.Replication as spec
use Rattle.replicate_core.proofs.beats.opids_of.Given as goal

abbrev pub invariant-loop-entry : goal.invariant-loop-entry
invariant-loop-entry l = l.opids ++ spec.opids_of (drop l.entry-index l.entries) ≡ spec.opids_of l.entries
