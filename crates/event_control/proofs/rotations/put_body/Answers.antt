use Rattle.std.proofs.Common.{refl}
use Rattle.event_frame.proofs.Appended.{part_is_put, first_is_put}
use Rattle.event_control.proofs.rotations.put_body.Goals as goal

pub returns-clause-ok : goal.returns-clause-ok
returns-clause-ok c =
    let old = c.args.out.now.items in
    let one = first_is_put old _ _ _ c.to_le_bytes.ensures c.in_ok-extend_from_slice.ensures.items in
    let two = part_is_put old _ _ _ _ _ one refl c.in_ok-extend_from_slice-2.ensures.items in
    part_is_put old _ _ _ _ _ two c.six_digits.ensures c.in_ok-extend_from_slice-3.ensures.items
