-- the tables so far are copied
use Rattle.std.proofs.Common.{◌≡◌, take}
use Rattle.row_engine.proofs.tables.TablesDuplicate.copy.Given as goal

abbrev pub invariant-loop-of_table : goal.invariant-loop-of_table
invariant-loop-of_table l = l.rows.items ≡ take l.of_table-index l.self.rows
