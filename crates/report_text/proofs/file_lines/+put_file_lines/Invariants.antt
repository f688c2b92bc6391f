use Rattle.std.proofs.Common.{length}
use Rattle.report_text.proofs.file_lines.+put_file_lines.Given as goal

abbrev pub decreases-put_file_lines : goal.decreases-put_file_lines
decreases-put_file_lines l = length l.sizes.now
