-- the columns so far stand before those of the items that are left
use Rattle.std.proofs.Common.{◌≡◌, drop}
use Rattle.toml.specs.View.{items_view}
use Rattle.ring_file.specs.Values.{each}
use Rattle.ring_file.specs.Columns.{column_in}
use Rattle.ring_file.proofs.Joined.{before}
use Rattle.ring_file.proofs.columns.each_column.Given as goal

abbrev pub invariant-items : goal.invariant-items
invariant-items l = each column_in (items_view l.items) ≡ before l.columns (each column_in (items_view (drop l.item-index l.items)))
