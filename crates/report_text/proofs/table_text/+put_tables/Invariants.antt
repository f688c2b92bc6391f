use Rattle.std.proofs.Common.{length}
use Rattle.report_text.proofs.table_text.+put_tables.Given as goal

abbrev pub decreases-put_tables : goal.decreases-put_tables
decreases-put_tables l = length l.declared.now
