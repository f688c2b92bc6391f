use Rattle.std.proofs.Common.{length}
use Rattle.report_text.proofs.table_text.+put_table_lines.Given as goal

abbrev pub decreases-put_table_lines : goal.decreases-put_table_lines
decreases-put_table_lines l = length l.declared.now
