use Rattle.std.proofs.Common.{◌≡◌, [], rules}
use Rattle.event_frame.proofs.Appended.{part_is_put, first_is_put}
use Rattle.binlog_store.proofs.points.bytes_of.Goals as goal

pub returns : goal.returns
returns c =
    let old = c.new-out.result.items in
    let empty : old ≡ [] = search rules in
    let one = first_is_put old _ _ _ c.to_le_bytes.ensures c.in_ok-extend_from_slice.ensures.items in
    let two = part_is_put old _ _ _ _ _ one c.to_le_bytes-2.ensures c.in_ok-extend_from_slice-2.ensures.items in
    let three = part_is_put old _ _ _ _ _ two c.to_le_bytes-3.ensures c.in_ok-extend_from_slice-3.ensures.items in
    let four = part_is_put old _ _ _ _ _ three c.to_le_bytes-4.ensures c.in_ok-extend_from_slice-4.ensures.items in
    rw empty at four
