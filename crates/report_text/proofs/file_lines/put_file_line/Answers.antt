use Rattle.std.proofs.lemmas.Result.{on_ok_weaker}
use Rattle.report_text.specs.Report.{file_line}
use Rattle.report_text.proofs.Chained.{four_put}
use Rattle.report_text.proofs.file_lines.put_file_line.Goals as goal

pub returns : goal.returns
unfolding file_line
returns c =
    on_ok_weaker c.put-2.result
    (λ e. four_put c.args.out.now.items _ _ _ _ _ _ _ _ c.in_ok-put.ensures c.in_ok-put_name_digits.ensures c.in_ok-put_field.ensures e)
    c.put-2.ensures
