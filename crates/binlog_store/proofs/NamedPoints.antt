-- Bytes that are read as a point are spelled so.
use Rattle.std.proofs.Common.{◌≡◌, ℕ, true, List, ◌++◌, Some, Ok, refl, ap, ap₂, ◌∙◌, arith, append-nil}
use Rattle.std.specs.Int.{w32, to_le_bytes}
use Rattle.std.proofs.lemmas.Bool.Decides.{nat_tests}
use Rattle.event_frame.specs.Forms.{Spells, body_of}
use Rattle.event_frame.specs.Laws.{IsBytes}
use Rattle.event_frame.specs.declared.field_readers.FieldFault.TheVariants.{Cut}
use Rattle.event_frame.proofs.Forms.{body_is_spelled}
use Rattle.binlog_store.specs.Damages.{may_end, named, point_in}
use Rattle.binlog_store.specs.Mounting.{IsNamed}
use Rattle.binlog_store.specs.Points.{point_bytes, point_form}
use Rattle.binlog_store.specs.declared.points.LogPoint.{LogPoint}
use Rattle.binlog_store.proofs.PointBytes.{point_fields}

spelled_named : (bytes : List ℕ) (q : LogPoint) → may_end q ≡ true → point_in bytes ≡ Some q → Spells point_form bytes q → IsNamed bytes q
spelled_named bytes q may told a =
    let b = a.4 in
    let d = b.4 in
    let e = d.4 in
    let read : LogPoint = record { count = a.0; file = b.0; end = d.0; highest = e.0 } in
    let last : d.2 ≡ to_le_bytes w32 e.0 = e.5 ∙ (ap₂ (λ (x y : List ℕ). x ++ y) e.3.1 e.4.0 ∙ append-nil (to_le_bytes w32 e.0)) in
    let made : bytes ≡ point_bytes read =
    a.5 ∙ ap₂ (λ (x y : List ℕ). x ++ y) a.3.1 (b.5 ∙ ap₂ (λ (x y : List ℕ). x ++ y) b.3.1 (d.5 ∙ ap₂ (λ (x y : List ℕ). x ++ y) d.3.1 last)) in
    let is : read ≡ q = e.4.1 in
    let count : a.0 ≡ q.count = ap (λ (p : LogPoint). p.count) is in
    let end : d.0 ≡ q.end = ap (λ (p : LogPoint). p.end) is in
    record {
      named = told;
      is = made ∙ ap point_bytes is;
      fits = record { count = omega (arith, a.3.0.0, count); file = grind (arith, nat_tests, may); end = omega (arith, d.3.0.0, end); highest = grind (arith, nat_tests, may) };
      first = grind (arith, nat_tests, may);
    }

pub read_named : (bytes : List ℕ) (q : LogPoint) → IsBytes bytes → may_end q ≡ true → body_of Cut point_form bytes ≡ Ok q → IsNamed bytes q
read_named bytes q in_range may read =
    spelled_named bytes q may (ap named read ∙ rw may refl) (body_is_spelled Cut point_form bytes q point_fields in_range read)
