-- the tables so far stand before those of the items that are left
use Rattle.std.proofs.Common.{◌≡◌, ◌+◌, drop}
use Rattle.toml.specs.View.{items_view}
use Rattle.ring_file.specs.Documents.{each_table, table_of}
use Rattle.ring_file.proofs.Joined.{after}
use Rattle.ring_file.proofs.tables.read_tables.Given as goal

abbrev pub invariant-items : goal.invariant-items
invariant-items l = each_table table_of 1 (items_view l.array) ≡ after l.tables (each_table table_of (l.index + 1) (items_view (drop l.index l.array)))
