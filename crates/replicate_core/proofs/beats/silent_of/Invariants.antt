-- the count among the peers that are left is that among all
use Rattle.std.proofs.Common.{◌≡◌, drop}
use Rattle.ring_model.specs.Replication as spec
use Rattle.replicate_core.proofs.beats.silent_of.Given as goal

abbrev pub invariant-loop-peer : goal.invariant-loop-peer
invariant-loop-peer l = spec.silent_of (drop l.peer-index l.peers) l.id ≡ spec.silent_of l.peers l.id
