-- the peers so far, each after the beat
use Rattle.std.proofs.Common.{◌≡◌, map, take}
use Rattle.ring_model.specs.Replication as spec
use Rattle.replicate_core.proofs.beats.all_quieter.Given as goal

abbrev pub invariant-loop-peer : goal.invariant-loop-peer
invariant-loop-peer l = l.after ≡ map spec.quieter (take l.peer-index l.peers)
