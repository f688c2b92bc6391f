use Rattle.std.proofs.Common.{refl, ◌++◌, ap, ◌∙◌}
use Rattle.event_frame.proofs.Appended.{part_is_put, first_is_put}
use Rattle.event_control.proofs.Spellings.{format_body_is}
use Rattle.event_control.proofs.heads.put_format_body.Goals as goal

pub returns-clause-ok : goal.returns-clause-ok
returns-clause-ok c =
    let old = c.args.out.now.items in
    let one = first_is_put old _ _ _ c.to_le_bytes.ensures c.in_ok-extend_from_slice.ensures.items in
    let two = part_is_put old _ _ _ _ _ one c.server_name.ensures c.in_ok-extend_from_slice-2.ensures.items in
    let three = part_is_put old _ _ _ _ _ two c.to_le_bytes-2.ensures c.in_ok-extend_from_slice-3.ensures.items in
    let four = part_is_put old _ _ _ _ _ three refl c.in_ok-extend_from_slice-4.ensures.items in
    let five = part_is_put old _ _ _ _ _ four c.fixed_sizes.ensures c.in_ok-extend_from_slice-5.ensures.items in
    let six = part_is_put old _ _ _ _ _ five refl c.in_ok-extend_from_slice-6.ensures.items in
    six ∙ ap (λ (x : _). old ++ x) format_body_is
