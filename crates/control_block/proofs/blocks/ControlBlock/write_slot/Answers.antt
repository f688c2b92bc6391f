use Rattle.std.proofs.Common.{◌∙◌, inl}
use Rattle.edge_traits.proofs.Moments.{eased, after}
use Rattle.control_block.proofs.blocks.ControlBlock.write_slot.Goals as goal

pub returns-in_err-shut_gate-clause-crash : goal.returns-in_err-shut_gate-clause-crash
returns-in_err-shut_gate-clause-crash g c told = eased _ (c.shut_gate.ensures.crash told) (λ left is. inl is)

pub returns-in_err-fill_slot-clause-crash : goal.returns-in_err-fill_slot-clause-crash
returns-in_err-fill_slot-clause-crash g c told =
    after _ (c.shut_gate.ensures.crash told) (c.fill_slot.ensures.crash (c.shut_gate.ensures.tells ∙ told)) (λ left is. inl is) (λ left is. inl is)

pub returns-clause-crash : goal.returns-clause-crash
returns-clause-crash g c told =
    let told_1 = c.shut_gate.ensures.tells ∙ told in
    let told_2 = c.fill_slot.ensures.tells ∙ told_1 in
    after _ (c.shut_gate.ensures.crash told) (after _ (c.fill_slot.ensures.crash told_1) (c.open_slot.ensures.crash told_2) (λ left is. inl is)
    (λ left is. is)) (λ left is. inl is) (λ left is. is)
