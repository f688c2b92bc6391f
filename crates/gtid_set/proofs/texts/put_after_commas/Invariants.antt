use Rattle.std.proofs.Common.{◌≡◌, ◌++◌, take, string_bytes}
use Rattle.std.specs.List.{flat_map}
use Rattle.gtid_set.specs.Texts.{after_comma}
use Rattle.gtid_set.proofs.texts.put_after_commas.Given as goal

abbrev pub invariant-loop-set : goal.invariant-loop-set
invariant-loop-set l = string_bytes l.out ≡ string_bytes l.initial.out ++ flat_map after_comma (take l.set-index l.servers)
