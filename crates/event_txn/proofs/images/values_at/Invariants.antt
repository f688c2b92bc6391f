use Rattle.std.proofs.Common.{◌≡◌, drop}
use Rattle.event_frame.specs.Forms.{front_of}
use Rattle.event_txn.specs.Rows.{values_form}
use Rattle.event_txn.specs.declared.faults.BodyFault.TheVariants.{Field}
use Rattle.event_txn.proofs.Values.{after}
use Rattle.event_txn.proofs.images.values_at.Given as goal

abbrev pub invariant-loop-column : goal.invariant-loop-column
invariant-loop-column l = after l.values (front_of Field (values_form (drop l.column-index l.columns) l.left) l.rest) ≡ front_of Field (values_form l.columns l.bits) l.bytes
