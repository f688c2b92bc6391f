-- what is written, with what is still to be written, is the whole
use Rattle.std.proofs.Common.{◌≡◌, ◌++◌, string_bytes}
use Rattle.std.specs.List.{flat_map}
use Rattle.gtid_set.specs.Texts.{interval_text}
use Rattle.gtid_set.specs.Ranges.{intervals}
use Rattle.gtid_set.proofs.texts.put_server.Given as goal

abbrev pub invariant-loop-first : goal.invariant-loop-first
invariant-loop-first l = string_bytes l.out ++ flat_map interval_text (intervals l.first-iterator) ≡ string_bytes l.initial.out ++ flat_map interval_text l.set.intervals
