-- the items that were read are tables, so all are where those left are
use Rattle.std.proofs.Common.{◌≡◌, drop}
use Rattle.toml.specs.View.{items_view}
use Rattle.ring_file.specs.Values.{are_tables}
use Rattle.ring_file.proofs.values.are_tables.Given as goal

abbrev pub invariant-items : goal.invariant-items
invariant-items l = are_tables (items_view (drop l.item-index l.items)) ≡ are_tables (items_view l.items)
