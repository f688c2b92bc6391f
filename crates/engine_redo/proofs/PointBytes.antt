-- The bytes of a point are those of its form, so they say one point; and bytes that are read as a point are spelled so.
use Rattle.std.proofs.Common.{◌≡◌, ℕ, List, [], ◌++◌, Option, Some, None, IfSome, Result, Ok, Err, refl, sym, ap, ap₂, ◌∙◌, arith, append-nil}
use Rattle.std.specs.Int.{w32, w64, to_le_bytes}
use Rattle.std.proofs.lemmas.Bool.Decides.{nat_tests}
use Rattle.event_frame.specs.Forms.{Spells, body_of}
use Rattle.event_frame.specs.Laws.{IsBytes}
use Rattle.event_frame.specs.declared.field_readers.FieldFault.{FieldFault}
use Rattle.event_frame.specs.declared.field_readers.FieldFault.TheVariants.{Cut}
use Rattle.event_frame.proofs.Forms.{AreFields, body_is_spelled, one_spelling, spelled_is_body}
use Rattle.event_frame.proofs.Fields.{number_is_field, wide32, wide64}
use Rattle.engine_redo.specs.Items.{any}
use Rattle.engine_redo.specs.Mounting.{IsNamed}
use Rattle.std.specs.Result.{result_ok}
use Rattle.engine_redo.specs.Points.{PointFits, is_redo_file, point_bytes, point_form, point_in}
use Rattle.engine_redo.specs.declared.points.RedoPoint.{RedoPoint}

pub point_fields : AreFields point_form
point_fields = (number_is_field w32 wide32 is_redo_file, λ file. (number_is_field w64 wide64 any, λ end. tt))

pub point_spelled : (p : RedoPoint) → PointFits p → Spells point_form (point_bytes p) p
point_spelled p fits = (
  p.number,
  to_le_bytes w32 p.number,
  to_le_bytes w64 p.end,
  ((grind (arith, nat_tests, fits.number), fits.number), refl),
  (p.end, to_le_bytes w64 p.end, [], ((fits.end, refl), refl), (refl, refl), sym (append-nil (to_le_bytes w64 p.end))),
  refl,
)

pub one_point : (p q : RedoPoint) → PointFits p → PointFits q → point_bytes p ≡ point_bytes q → p ≡ q
one_point p q pf qf same =
    (one_spelling Cut point_form (point_bytes p) (point_bytes q) p q [] [] point_fields (point_spelled p pf) (point_spelled q qf) (ap (λ (b : List ℕ). b ++ []) same)).0

pub point_read : (p : RedoPoint) → PointFits p → point_in (point_bytes p) ≡ Some p
point_read p fits = ap result_ok (spelled_is_body Cut point_form (point_bytes p) p point_fields (point_spelled p fits))

spelled_named : (bytes : List ℕ) (q : RedoPoint) → Spells point_form bytes q → IsNamed bytes q
spelled_named bytes q a =
    let b = a.4 in
    let read : RedoPoint = record { number = a.0; end = b.0 } in
    let last : a.2 ≡ to_le_bytes w64 b.0 = b.5 ∙ (ap₂ (λ (x y : List ℕ). x ++ y) b.3.1 b.4.0 ∙ append-nil (to_le_bytes w64 b.0)) in
    let made : bytes ≡ point_bytes read = a.5 ∙ ap₂ (λ (x y : List ℕ). x ++ y) a.3.1 last in
    let is : read ≡ q = b.4.1 in
    let number : a.0 ≡ q.number = ap (λ (p : RedoPoint). p.number) is in
    let end : b.0 ≡ q.end = ap (λ (p : RedoPoint). p.end) is in
    record { is = made ∙ ap point_bytes is; fits = record { number = ap is_redo_file (sym number) ∙ a.3.0.1; end = omega (arith, b.3.0.0, end) } }

known_some : (r : Result RedoPoint FieldFault) (q : RedoPoint) → result_ok r ≡ Some q → r ≡ Ok q
known_some (Ok p) q h = let e : p ≡ q = cc in ap (λ (x : RedoPoint). Ok x) e
known_some (Err e) q h = absurd cc

-- bytes that name a point are that point's, whose numbers are in range
pub named_fits : (bytes : List ℕ) (q : RedoPoint) → IsBytes bytes → point_in bytes ≡ Some q → IsNamed bytes q
named_fits bytes q in_range h =
    spelled_named bytes q (body_is_spelled Cut point_form bytes q point_fields in_range (known_some (body_of Cut point_form bytes) q h))

pub all_named : (bytes : List ℕ) (told : Option RedoPoint) → IsBytes bytes → told ≡ point_in bytes → IfSome told (IsNamed bytes)
all_named bytes None in_range h = tt
all_named bytes (Some q) in_range h = named_fits bytes q in_range (sym h)
