use Rattle.std.proofs.Common.{◌-◌}
use Rattle.event_frame.specs.Forms.{front_of}
use Rattle.event_frame.specs.declared.field_readers.FieldFault.TheVariants.{Cut}
use Rattle.engine_redo.specs.Items.{opids_form}
use Rattle.engine_redo.proofs.Opids.{IsLeft}
use Rattle.engine_redo.proofs.reading.opids_at.Given as goal

abbrev pub invariant-loop : goal.invariant-loop
invariant-loop l = IsLeft (l.count - l.counter) l.opids l.rest (front_of Cut (opids_form l.count) l.bytes)
