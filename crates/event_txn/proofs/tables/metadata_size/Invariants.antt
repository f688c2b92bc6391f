use Rattle.std.proofs.Common.{◌≡◌, ◌≤◌, ◌*◌, take, sum_by}
use Rattle.ring_types.specs.Sizes.{metadata_size}
use Rattle.ring_types.specs.declared.schemas.Column.{Column}
use Rattle.event_txn.proofs.tables.metadata_size.Given as goal

abbrev pub invariant-loop-column : goal.invariant-loop-column
invariant-loop-column l = record {
  so_far : l.size ≡ sum_by (λ (c : Column). metadata_size c.shape) (take l.column-index l.columns);
  small : l.size ≤ 2 * l.column-index;
}
