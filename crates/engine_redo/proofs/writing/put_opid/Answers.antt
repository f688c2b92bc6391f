use Rattle.event_frame.proofs.Appended.{first_is_put, part_is_put}
use Rattle.engine_redo.proofs.writing.put_opid.Goals as goal

pub returns-clause-text : goal.returns-clause-text
returns-clause-text c =
    let term = first_is_put c.args.out.now.items _ _ _ c.to_le_bytes.ensures c.in_ok-extend_from_slice.ensures.items in
    part_is_put c.args.out.now.items _ _ _ _ _ term c.to_le_bytes-2.ensures c.in_ok-extend_from_slice-2.ensures.items
