use Rattle.std.proofs.Common.{◌≡◌, drop}
use Rattle.event_frame.specs.Forms.{front_of}
use Rattle.event_txn.specs.Tables.{types_form}
use Rattle.event_txn.specs.declared.faults.BodyFault.TheVariants.{Field}
use Rattle.event_txn.proofs.tables.types_at.Given as goal

abbrev pub invariant-loop-column : goal.invariant-loop-column
invariant-loop-column l = front_of Field (types_form (drop l.column-index l.columns)) l.rest ≡ front_of Field (types_form l.columns) l.bytes
