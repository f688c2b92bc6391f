-- the servers of what was read so far, ascending
use Rattle.std.proofs.Common.{◌≡◌, map, take}
use Rattle.ring_types.specs.Gtids as spec
use Rattle.ring_types.specs.declared.values.Gtid.{Gtid}
use Rattle.ring_plain.proofs.gtid_numbers.ascending_servers.Given as goal

abbrev pub invariant-loop-gtid : goal.invariant-loop-gtid
invariant-loop-gtid l = l.so_far ≡ spec.ascending (map (λ (g : Gtid). g.server) (take l.gtid-index l.gtids))
