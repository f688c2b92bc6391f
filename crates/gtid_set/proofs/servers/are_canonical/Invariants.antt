use Rattle.std.proofs.Common.{◌≡◌, drop}
use Rattle.gtid_set.specs.Reading.{are_canonical, floor}
use Rattle.gtid_set.proofs.servers.are_canonical.Given as goal

abbrev pub invariant-loop-set : goal.invariant-loop-set
invariant-loop-set l = are_canonical (floor l.before) (drop l.set-index l.servers) ≡ are_canonical 0 l.servers
