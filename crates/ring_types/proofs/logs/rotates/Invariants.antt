-- the count so far, which is no more than the entries read
use Rattle.std.proofs.Common.{◌≡◌, ◌≤◌, take}
use Rattle.ring_types.specs.Logs.{rotates}
use Rattle.ring_types.proofs.logs.rotates.Given as goal

abbrev pub invariant-loop-entry : goal.invariant-loop-entry
invariant-loop-entry l = (l.count ≡ rotates (take l.entry-index l.log)) × (l.count ≤ l.entry-index)
