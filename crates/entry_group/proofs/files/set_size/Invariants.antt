use Rattle.std.proofs.Common.{◌≡◌, ◌+◌, ◌-◌, ◌^◌, min, length, take}
use Rattle.std.specs.List.{flat_map}
use Rattle.gtid_set.specs.Bytes.{server_bytes}
use Rattle.entry_group.proofs.files.set_size.Given as goal

abbrev pub invariant-loop-set : goal.invariant-loop-set
invariant-loop-set l = l.size ≡ min (8 + length (flat_map server_bytes (take l.set-index l.sets))) (2 ^ 64 - 1)
