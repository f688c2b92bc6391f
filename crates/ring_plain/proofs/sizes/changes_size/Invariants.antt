use Rattle.std.proofs.Common.{◌≡◌, ◌-◌, ◌^◌, min, take}
use Rattle.ring_types.specs.Sizes.{changes_size}
use Rattle.ring_plain.proofs.sizes.changes_size.Given as goal

abbrev pub invariant-loop-change : goal.invariant-loop-change
invariant-loop-change l = l.so_far ≡ min (changes_size l.schema (take l.change-index l.changes)) (2 ^ 64 - 1)
