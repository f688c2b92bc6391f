use Rattle.std.proofs.Common.{refl, ap, ◌∙◌}
use Rattle.std.specs.Int.{w16, to_le_bytes}
use Rattle.event_frame.proofs.Appended.{part_is_put, first_is_put}
use Rattle.event_control.proofs.opid_events.put_body.Goals as goal

pub returns-clause-ok : goal.returns-clause-ok
returns-clause-ok c =
    let old = c.args.out.now.items in
    let one = first_is_put old _ _ _ refl c.in_ok-extend_from_slice.ensures.items in
    let two = part_is_put old _ _ _ _ _ one c.to_le_bytes.ensures c.in_ok-extend_from_slice-2.ensures.items in
    let three = part_is_put old _ _ _ _ _ two c.to_le_bytes-2.ensures c.in_ok-extend_from_slice-3.ensures.items in
    part_is_put old _ _ _ _ _ three (c.to_le_bytes-3.ensures ∙ ap (to_le_bytes w16) c.region.view_is) c.in_ok-extend_from_slice-4.ensures.items
