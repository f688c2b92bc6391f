-- the changes that are left make of these rows what all make of the first, in one schema
use Rattle.std.proofs.Common.{◌≡◌, drop}
use Rattle.ring_types.specs.Rows.{all_changed}
use Rattle.row_engine.proofs.tables.Tables.apply.Given as goal

abbrev pub invariant-loop-change : goal.invariant-loop-change
invariant-loop-change l = record {
  schema : l.self.schema ≡ l.fn.self.schema;
  rows : all_changed l.fn.self.schema l.self.rows (drop l.change-index l.changes) ≡ all_changed l.fn.self.schema l.fn.self.rows l.changes;
}
