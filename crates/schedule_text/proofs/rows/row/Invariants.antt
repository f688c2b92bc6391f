use Rattle.std.proofs.Common.{◌≡◌, length}
use Rattle.schedule_text.specs.Cutting.{words_after}
use Rattle.schedule_text.specs.Changes.{row_of}
use Rattle.schedule_text.proofs.Fronts.{with_values}
use Rattle.schedule_text.proofs.rows.row.Given as goal

abbrev pub invariant-loop-word : goal.invariant-loop-word
invariant-loop-word l = with_values l.values.items (row_of (words_after l.rest)) ≡ row_of (words_after l.words)

abbrev pub decreases-loop-word : goal.decreases-loop-word
decreases-loop-word l = length l.rest
