use Rattle.std.proofs.Common.{◌≡◌, ◌++◌, take}
use Rattle.std.specs.List.{flat_map}
use Rattle.gtid_set.specs.Bytes.{server_bytes}
use Rattle.gtid_set.proofs.bytes.put_set.Given as goal

abbrev pub invariant-loop-set : goal.invariant-loop-set
invariant-loop-set l = l.out.items ≡ l.initial.out.items ++ flat_map server_bytes (take l.set-index l.servers)
