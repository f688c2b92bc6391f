-- the peers so far stand before those of the members that are left
use Rattle.std.proofs.Common.{◌≡◌, ◌++◌, drop}
use Rattle.ring_model.specs.Elections as spec
use Rattle.election_core.proofs.leading.first_peers.Given as goal

abbrev pub invariant-loop-member : goal.invariant-loop-member
invariant-loop-member l = l.peers ++ spec.first_peers l.me l.next (drop l.member-index l.members) ≡ spec.first_peers l.me l.next l.members
