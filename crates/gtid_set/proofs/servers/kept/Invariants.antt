-- those passed are kept
use Rattle.std.proofs.Common.{◌≡◌, take}
use Rattle.gtid_set.proofs.servers.kept.Given as goal

abbrev pub invariant-loop-set : goal.invariant-loop-set
invariant-loop-set l = l.servers.items ≡ take l.set-index l.sets
