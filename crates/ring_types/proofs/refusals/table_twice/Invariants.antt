-- the rest names one twice exactly if all do
use Rattle.std.proofs.Common.{◌≡◌, length, map}
use Rattle.ring_types.specs.Names.{has_text_twice}
use Rattle.ring_types.specs.declared.schemas.Table.{Table}
use Rattle.ring_types.proofs.refusals.table_twice.Given as goal

abbrev pub invariant-loop-rest : goal.invariant-loop-rest
invariant-loop-rest l =
    has_text_twice (map (λ (m : Table). m.name) l.rest) ≡ has_text_twice (map (λ (m : Table). m.name) l.tables)

abbrev pub decreases-loop-rest : goal.decreases-loop-rest
decreases-loop-rest l = length l.rest
