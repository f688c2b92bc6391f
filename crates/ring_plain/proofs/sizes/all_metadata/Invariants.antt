use Rattle.std.proofs.Common.{◌≡◌, ◌-◌, ◌^◌, min, sum_by, take}
use Rattle.ring_types.specs.Sizes.{metadata_size}
use Rattle.ring_types.specs.declared.schemas.Column.{Column}
use Rattle.ring_plain.proofs.sizes.all_metadata.Given as goal

abbrev pub invariant-loop-column : goal.invariant-loop-column
invariant-loop-column l = l.so_far ≡ min (sum_by (λ (c : Column). metadata_size c.shape) (take l.column-index l.column-items)) (2 ^ 64 - 1)
