-- A content has one fault at most: it names one point, up to which it tells one longest log at most, and the fault is a function of that log.
use Rattle.std.proofs.Common.{◌≡◌, ℕ, inl, inr, List, Option, Some, None, sym, ap, ◌∙◌}
use Rattle.ring_types.specs.declared.schemas.Schema.{Schema}
use Rattle.edge_traits.specs.FileStates.{Contents}
use Rattle.edge_traits.specs.declared.disks.FileId.{FileId}
use Rattle.edge_traits.specs.declared.disks.FileId.TheVariants as file
use Rattle.control_block.specs.ControlFiles.{control_of}
use Rattle.binlog_store.specs.Damages.{ControlFault, FilesFault, PointFault, before_end, fault_behind, point_in}
use Rattle.binlog_store.specs.Laws.{OneFaultAtMost}
use Rattle.binlog_store.specs.declared.points.LogPoint.{LogPoint}
use Rattle.binlog_store.proofs.OneLongest.{one_longest}

-- where a fault is
abbrev place : FileId → ℕ → FileId × ℕ
place f at = (f, at)

parts : (f g : FileId) (at to : ℕ) → place f at ≡ place g to → (f ≡ g) × (at ≡ to)
parts f g at to is = (ap (λ (x : FileId × ℕ). x.0) is, ap (λ (x : FileId × ℕ). x.1) is)

one_place : (f g : FileId) (at to : ℕ) → Some (place f at) ≡ Some (place g to) → (f ≡ g) × (at ≡ to)
one_place f g at to is = parts f g at to (let h : place f at ≡ place g to = cc in h)

module _ (schema : Schema) (c : Contents) (f g : FileId) (at to : ℕ) where
  files_once : (p : LogPoint) → FilesFault schema p c f at → FilesFault schema p c g to → (f ≡ g) × (at ≡ to)
  files_once p (inl x) (inl y) = parts f g at to (x.there ∙ sym y.there)
  files_once p (inl x) (inr y) = absurd (x.none y.log y.longest.told)
  files_once p (inr x) (inl y) = absurd (y.none x.log x.longest.told)
  files_once p (inr x) (inr y) =
      let same = one_longest schema (before_end p c) x.log y.log x.longest y.longest in
      one_place f g at to (sym x.there ∙ (ap (fault_behind schema p c) same ∙ y.there))

  point_once : (named : Option LogPoint) → PointFault schema c f at named → PointFault schema c g to named → (f ≡ g) × (at ≡ to)
  point_once None x y = (x.0 ∙ sym y.0, x.1 ∙ sym y.1)
  point_once (Some p) x y = files_once p x y

  control_once : (said : Option (Option (List ℕ))) → ControlFault schema c f at said → ControlFault schema c g to said → (f ≡ g) × (at ≡ to)
  control_once None x y = (x.0 ∙ sym y.0, x.1 ∙ sym y.1)
  control_once (Some None) x y = absurd x
  control_once (Some (Some bytes)) x y = point_once (point_in bytes) x y

pub one_fault_at_most : OneFaultAtMost
one_fault_at_most schema c f g at to x y = control_once schema c f g at to (control_of (c file.LogCtl)) x y
