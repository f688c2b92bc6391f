-- the strays of the pairs so far
use Rattle.std.proofs.Common.{◌≡◌, take}
use Rattle.node_store.specs.Kept.{strays_in}
use Rattle.node_store.proofs.strays.stray_opids.Given as goal

abbrev pub invariant-loop-pair : goal.invariant-loop-pair
invariant-loop-pair l = l.strays ≡ strays_in l.log (take l.pair-index l.pairs)
