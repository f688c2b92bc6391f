-- the copies so far and the rows that are left are all rows
use Rattle.std.proofs.Common.{◌≡◌, ◌++◌}
use Rattle.row_engine.proofs.table_rows.TableRowsDuplicate.copy.Given as goal

abbrev pub invariant-loop-row : goal.invariant-loop-row
invariant-loop-row l = l.rows ++ l.row-iterator ≡ l.self
