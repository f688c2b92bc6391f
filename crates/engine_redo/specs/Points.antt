-- Where a redo ends, and the bytes of the control file that say it, lowest byte first.
--   bytes  value   meaning
--   4      1 or 2  the number of the redo file
--   8      any     where the redo ends in it
use Rattle.std.specs.Prelude.{◌≡◌, ℕ, ◌^◌, ◌<◌, Bool, true, ◌&&◌, nat_le, List, ◌++◌, Option}
use Rattle.std.specs.Int.{w32, w64, to_le_bytes}
use Rattle.std.specs.Result.{result_ok}
use Rattle.event_frame.specs.Fields.{number}
use Rattle.event_frame.specs.Forms.{Form, One, Whole, body_of, ◌>>=◌}
use Rattle.event_frame.specs.declared.field_readers.FieldFault.{FieldFault}
use Rattle.event_frame.specs.declared.field_readers.FieldFault.TheVariants.{Cut, Wrong}
use Rattle.engine_redo.specs.Items.{any}
use Rattle.engine_redo.specs.declared.points.RedoPoint.{RedoPoint}

-- a redo file has the number 1 or 2
abbrev pub is_redo_file : ℕ → Bool
is_redo_file n = nat_le 1 n && nat_le n 2

abbrev pub point_form : Form FieldFault RedoPoint
point_form = do
  file ← One Wrong (number w32 is_redo_file)
  end ← One Wrong (number w64 any)
  Whole (record { number = file; end = end })

abbrev pub point_bytes : RedoPoint → List ℕ
point_bytes p = to_le_bytes w32 p.number ++ to_le_bytes w64 p.end

-- the point that the bytes of a control file name
abbrev pub point_in : List ℕ → Option RedoPoint
point_in bytes = result_ok (body_of Cut point_form bytes)

-- the numbers of a point are in range
pub record PointFits (p : RedoPoint) : Type 0 where
  pub number : is_redo_file p.number ≡ true
  pub end : p.end < 2 ^ 64
