-- the members so far stand before those that are left
use Rattle.std.proofs.Common.{◌≡◌, ◌++◌, drop}
use Rattle.replicate_core.specs.Replies.{heard_among}
use Rattle.replicate_core.proofs.replies.heard_among.Given as goal

abbrev pub invariant-loop-peer : goal.invariant-loop-peer
invariant-loop-peer l = l.heard ++ heard_among (drop l.peer-index l.peers) l.from l.ok l.position ≡ heard_among l.peers l.from l.ok l.position
