-- the entries that are left make of these tables what all make of empty ones
use Rattle.std.proofs.Common.{◌≡◌, drop}
use Rattle.ring_types.specs.Rows.{rows_from, empty_tables}
use Rattle.row_engine.proofs.tables.Tables.of_entries.Given as goal

abbrev pub invariant-loop-entry : goal.invariant-loop-entry
invariant-loop-entry l =
    (l.tables.schema ≡ l.schema) × (rows_from l.schema l.tables.rows (drop l.entry-index l.entries) ≡ rows_from l.schema (empty_tables l.schema) l.entries)
