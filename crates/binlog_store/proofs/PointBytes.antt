-- The bytes of a point are those of its form, so they say one point.
use Rattle.std.proofs.Common.{◌≡◌, ℕ, List, [], ◌++◌, refl, sym, ap, append-nil, arith}
use Rattle.std.specs.Int.{w32, w64, to_le_bytes}
use Rattle.event_frame.specs.Forms.{Spells}
use Rattle.event_frame.proofs.Forms.{AreFields, one_spelling}
use Rattle.event_frame.proofs.Fields.{number_is_field, wide32, wide64}
use Rattle.event_frame.specs.declared.field_readers.FieldFault.TheVariants.{Cut}
use Rattle.binlog_store.specs.Points.{any, point_bytes, point_form}
use Rattle.binlog_store.specs.Stands.{PointFits}
use Rattle.binlog_store.specs.declared.points.LogPoint.{LogPoint}

pub point_fields : AreFields point_form
point_fields =
    (number_is_field w64 wide64 any, λ count. (number_is_field w32 wide32 any, λ file. (number_is_field w64 wide64 any, λ end. (number_is_field w32 wide32 any, λ highest. tt))))

pub point_spelled : (p : LogPoint) → PointFits p → Spells point_form (point_bytes p) p
point_spelled p fits = (
  p.count,
  to_le_bytes w64 p.count,
  to_le_bytes w32 p.file ++ to_le_bytes w64 p.end ++ to_le_bytes w32 p.highest,
  ((fits.count, refl), refl),
  (
    p.file,
    to_le_bytes w32 p.file,
    to_le_bytes w64 p.end ++ to_le_bytes w32 p.highest,
    ((omega (arith, fits.file, fits.highest), refl), refl),
    (
      p.end,
      to_le_bytes w64 p.end,
      to_le_bytes w32 p.highest,
      ((fits.end, refl), refl),
      (p.highest, to_le_bytes w32 p.highest, [], ((omega (arith, fits.highest), refl), refl), (refl, refl), sym (append-nil (to_le_bytes w32 p.highest))),
      refl,
    ),
    refl,
  ),
  refl,
)

pub one_point : (p q : LogPoint) → PointFits p → PointFits q → point_bytes p ≡ point_bytes q → p ≡ q
one_point p q pf qf same =
    (one_spelling Cut point_form (point_bytes p) (point_bytes q) p q [] [] point_fields (point_spelled p pf) (point_spelled q qf) (ap (λ (b : List ℕ). b ++ []) same)).0
