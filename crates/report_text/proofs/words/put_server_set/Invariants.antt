use Rattle.std.proofs.Common.{◌≡◌, ◌++◌, take}
use Rattle.std.specs.List.{flat_map}
use Rattle.report_text.specs.Words.{interval_text}
use Rattle.report_text.proofs.words.put_server_set.Given as goal

abbrev pub invariant-loop-interval : goal.invariant-loop-interval
invariant-loop-interval l = l.out.items ≡ l.initial.out.items ++ flat_map interval_text (take l.interval-index l.interval-items)
