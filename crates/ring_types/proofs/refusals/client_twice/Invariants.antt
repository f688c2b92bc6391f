-- the rest names one twice exactly if all do
use Rattle.std.proofs.Common.{◌≡◌, length, map}
use Rattle.ring_types.specs.Names.{has_twice}
use Rattle.ring_types.specs.declared.members.Address.{Address}
use Rattle.ring_types.proofs.refusals.client_twice.Given as goal

abbrev pub invariant-loop-rest : goal.invariant-loop-rest
invariant-loop-rest l =
    has_twice (map (λ (m : Address). m.id) l.rest) ≡ has_twice (map (λ (m : Address). m.id) l.clients)

abbrev pub decreases-loop-rest : goal.decreases-loop-rest
decreases-loop-rest l = length l.rest
