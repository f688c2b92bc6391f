use Rattle.std.proofs.lemmas.Result.{on_ok_weaker}
use Rattle.report_text.specs.Report.{sayings_line}
use Rattle.report_text.proofs.Chained.{five_put}
use Rattle.report_text.proofs.summaries.put_sayings_line.Goals as goal

pub returns : goal.returns
unfolding sayings_line
returns c =
    rw (← c.count_committed.ensures, ← c.count_unknown.ensures, ← c.count_refused.ensures, ← c.count_other.ensures)
    (on_ok_weaker c.put.result
    (λ e. five_put c.args.out.now.items _ _ _ _ _ _ _ _ _ _ c.in_ok-put_field.ensures c.in_ok-put_field-2.ensures c.in_ok-put_field-3.ensures c.in_ok-put_field-4.ensures e)
    c.put.ensures)
