-- the names so far stand before those of the items that are left
use Rattle.std.proofs.Common.{◌≡◌, drop}
use Rattle.toml.specs.View.{items_view}
use Rattle.ring_file.specs.Values.{each, name_in}
use Rattle.ring_file.proofs.Joined.{before}
use Rattle.ring_file.proofs.values.each_name.Given as goal

abbrev pub invariant-items : goal.invariant-items
invariant-items l = each name_in (items_view l.items) ≡ before l.names (each name_in (items_view (drop l.item-index l.items)))
