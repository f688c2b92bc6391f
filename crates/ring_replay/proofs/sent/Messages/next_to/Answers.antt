use Rattle.std.proofs.Common.{List, ap, drop, subst, sym, ◌∙◌}
use Rattle.std.specs.List.{All}
use Rattle.ring_replay.specs.Stretches.{IsRight}
use Rattle.ring_replay.specs.declared.sent.Passed.{Passed}
use Rattle.ring_replay.proofs.Stretches.{searched}
use Rattle.ring_replay.proofs.sent.Messages.next_to.Goals as goal

pub invariant_of-self : goal.invariant_of-self
invariant_of-self c =
    let sent = c.self.inside.sent in
    let start = c.search_start-start.result in
    let right = subst (λ (stretches : List Passed). All (IsRight sent) stretches) (sym c.as_slice.ensures.value) c.self.invariant in
    let behind = c.after.ensures ∙ ap (drop start) c.as_slice-2.ensures in
    c.note_passed.ensures sent c.self.invariant
    (searched sent c.after.result.now start _ (c.search_start-start.ensures sent right) behind c.in-None.ensures c.len-upto.ensures)
