use Rattle.std.proofs.Common.{◌≡◌, ◌-◌, ◌^◌, min, sum, take}
use Rattle.ring_plain.proofs.sizes.total.Given as goal

abbrev pub invariant-loop-part : goal.invariant-loop-part
invariant-loop-part l = l.so_far ≡ min (sum (take l.part-index l.parts)) (2 ^ 64 - 1)
