-- those passed are copied
use Rattle.std.proofs.Common.{◌≡◌, take}
use Rattle.gtid_set.proofs.servers.copies.Given as goal

abbrev pub invariant-loop-set : goal.invariant-loop-set
invariant-loop-set l = l.copies.items ≡ take l.set-index l.servers
