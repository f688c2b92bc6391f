use Rattle.std.proofs.Common.{◌≡◌, ◌∙◌, ap, subst, sym, inl, rules}
use Rattle.control_block.specs.Blocks.{Stands, turned}
use Rattle.control_block.specs.declared.blocks.ControlBlock.{ControlBlock}
use Rattle.edge_traits.proofs.Moments.{still}
use Rattle.control_block.proofs.TornSlots.{still_kept, stands_again}
use Rattle.control_block.proofs.blocks.ControlBlock.switch.Goals as goal

pub returns-then-bytes-gt32768-clause-crash : goal.returns-then-bytes-gt32768-clause-crash
returns-then-bytes-gt32768-clause-crash g c told = let s = c.requires told in still _ _
    (λ left may. inl (still_kept _ _ _ _ s.synced s.keeps s.yields left may))

pub returns-in_err-to_vec-clause-crash : goal.returns-in_err-to_vec-clause-crash
returns-in_err-to_vec-clause-crash g c told = let s = c.requires told in still _ _ (λ left may. inl (still_kept _ _ _ _ s.synced s.keeps s.yields left may))

pub returns-in_err-slot-clause-crash : goal.returns-in_err-slot-clause-crash
returns-in_err-slot-clause-crash g c told = let s = c.requires told in still _ _ (λ left may. inl (still_kept _ _ _ _ s.synced s.keeps s.yields left may))

pub returns-clause-stands : goal.returns-clause-stands
returns-clause-stands g c told =
    let same : c.in_ok-to_vec.field-0.items ≡ c.args.bytes.now = search rules in
    let held = c.turn.ensures ∙ ap (turned c.args.self.now) (c.from_vec-held.ensures ∙ same) in
    subst (λ (b : ControlBlock). Stands b (g.D.Disk.files c.write_slot.new.disk b.file)) (sym held)
    (stands_again c.args.self.now c.args.bytes.now _ (c.in_ok-write_slot.ensures.here told))

pub returns-clause-bytes : goal.returns-clause-bytes
returns-clause-bytes g c =
    let same : c.in_ok-to_vec.field-0.items ≡ c.args.bytes.now = search rules in
    ap (λ (b : ControlBlock). b.bytes) (c.turn.ensures ∙ ap (turned c.args.self.now) (c.from_vec-held.ensures ∙ same))
