use Rattle.std.proofs.Common.{◌≡◌, length}
use Rattle.schedule_text.specs.Cutting.{words_after, parts_after}
use Rattle.schedule_text.specs.Changes.{changes_of}
use Rattle.schedule_text.proofs.Fronts.{with_changes}
use Rattle.schedule_text.proofs.changes.changes.Given as goal

abbrev pub invariant-loop-part : goal.invariant-loop-part
invariant-loop-part l =
    with_changes l.changes.items (changes_of (words_after l.words) (parts_after l.parts)) ≡ changes_of (words_after l.fn.words) (parts_after l.fn.parts)

abbrev pub decreases-loop-part : goal.decreases-loop-part
decreases-loop-part l = length l.parts
