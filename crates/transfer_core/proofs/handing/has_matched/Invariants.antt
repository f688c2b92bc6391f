-- no peer so far is the one
use Rattle.std.proofs.Common.{◌≡◌, drop}
use Rattle.ring_model.specs.Transfers as spec
use Rattle.transfer_core.proofs.handing.has_matched.Given as goal

abbrev pub invariant-loop-peer : goal.invariant-loop-peer
invariant-loop-peer l = spec.has_matched (drop l.peer-index l.peers) l.id l.position ≡ spec.has_matched l.peers l.id l.position
