-- one table without rows for each table so far
use Rattle.std.proofs.Common.{◌≡◌, map, take}
use Rattle.ring_types.specs.Rows.{no_rows}
use Rattle.row_engine.proofs.tables.no_rows.Given as goal

abbrev pub invariant-loop : goal.invariant-loop
invariant-loop l = l.all.items ≡ map no_rows (take l.index l.items)
