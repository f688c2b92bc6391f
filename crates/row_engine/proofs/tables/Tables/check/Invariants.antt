-- the changes that are left, on the rows that those before them leave, are refused as all are
use Rattle.std.proofs.Common.{◌≡◌, ◌≤◌, drop, length, take}
use Rattle.ring_types.specs.Rows.{all_changed, check}
use Rattle.row_engine.proofs.tables.Tables.check.Given as goal

abbrev pub invariant-loop-at : goal.invariant-loop-at
invariant-loop-at l = record {
  within : l.at ≤ length l.changes;
  same : check l.self.schema (all_changed l.self.schema l.self.rows (take l.at l.changes)) (drop l.at l.changes) ≡ check l.self.schema l.self.rows l.changes;
}
