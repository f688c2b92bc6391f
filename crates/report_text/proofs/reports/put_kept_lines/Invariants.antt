use Rattle.std.proofs.Common.{◌≡◌, ◌++◌, take}
use Rattle.std.specs.List.{flat_map}
use Rattle.report_text.specs.Report.{kept_line}
use Rattle.report_text.proofs.reports.put_kept_lines.Given as goal

abbrev pub invariant-loop-kept : goal.invariant-loop-kept
invariant-loop-kept l = l.out.items ≡ l.initial.out.items ++ flat_map kept_line (take l.kept-index l.cuts)
