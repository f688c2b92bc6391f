-- the item is a table, which is read and put behind those so far
use Rattle.std.proofs.Common.{sym, ◌∙◌}
use Rattle.ring_file.specs.Documents.{table_of}
use Rattle.ring_file.proofs.Joined.{after-table, after-other}
use Rattle.ring_file.proofs.tables.read_tables.Goals.{in-Some+in_ok-read_table+in_ok-push, in_default}
use Rattle.ring_file.proofs.tables.read_tables.Goals as goal

pub items-preserved : goal.items-preserved
items-preserved c = elim c.match-as_table.branch [
  | in-Some+in_ok-read_table+in_ok-push w ↦
      let more = after-table table_of _ c.items.index c.index-array-index.result _ c.items.tables _ c.items-test.true (sym c.index-array-index.is) (sym w.in-Some.ensures) w.in_ok-read_table.ensures in
      rw (w.tables-is, w.in_ok-push.ensures.ok) (c.items.invariant ∙ more)
  | in_default w ↦
      let more = after-other table_of _ c.items.index c.index-array-index.result c.items.tables c.items-test.true (sym c.index-array-index.is) (sym w.in_default.ensures) in
      rw w.tables-is (c.items.invariant ∙ more)
]
