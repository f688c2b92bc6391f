use Rattle.std.proofs.Common.{◌≡◌, ◌++◌, take}
use Rattle.std.specs.List.{flat_map}
use Rattle.report_text.specs.Report.{said_line}
use Rattle.report_text.proofs.reports.put_said_lines.Given as goal

abbrev pub invariant-loop-said : goal.invariant-loop-said
invariant-loop-said l = l.out.items ≡ l.initial.out.items ++ flat_map said_line (take l.said-index l.sayings)
