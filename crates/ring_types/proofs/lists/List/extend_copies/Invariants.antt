-- the list as it was, and after it what was read so far
use Rattle.std.proofs.Common.{◌≡◌, ◌++◌, take}
use Rattle.ring_types.proofs.lists.List.extend_copies.Given as goal

abbrev pub invariant-loop-item : goal.invariant-loop-item
invariant-loop-item g l = l.self ≡ l.fn.self ++ take l.item-index l.items
