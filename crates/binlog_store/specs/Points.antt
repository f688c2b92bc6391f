-- Where a log ends, and the bytes of the control file that say it.
--   bytes  value   meaning
--   8      any     how many entries the log has
--   4      any     the number of its last file
--   8      any     where it ends in that file
--   4      any     the greatest number that the last file of a log had which this file told
use Rattle.std.specs.Prelude.{ℕ, Bool, true, List, ◌++◌}
use Rattle.std.specs.Int.{w32, w64, to_le_bytes}
use Rattle.event_frame.specs.Forms.{Form, One, Whole, ◌>>=◌}
use Rattle.event_frame.specs.Fields.{number}
use Rattle.event_frame.specs.declared.field_readers.FieldFault.{FieldFault}
use Rattle.event_frame.specs.declared.field_readers.FieldFault.TheVariants.{Wrong}
use Rattle.binlog_store.specs.declared.points.LogPoint.{LogPoint}

abbrev pub any : ℕ → Bool
any n = true

abbrev pub point_form : Form FieldFault LogPoint
point_form = do
  count ← One Wrong (number w64 any)
  file ← One Wrong (number w32 any)
  end ← One Wrong (number w64 any)
  highest ← One Wrong (number w32 any)
  Whole (record { count = count; file = file; end = end; highest = highest })

abbrev pub point_bytes : LogPoint → List ℕ
point_bytes p = to_le_bytes w64 p.count ++ to_le_bytes w32 p.file ++ to_le_bytes w64 p.end ++ to_le_bytes w32 p.highest
