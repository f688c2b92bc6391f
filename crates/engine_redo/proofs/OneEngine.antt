-- A content stands for one engine at most; it has no fault then, and never two.
use Rattle.std.proofs.Common.{◌≡◌, ℕ, inl, inr, ◌<◌, ◌≤◌, List, [], length, take, drop, Option, Some, None, sym, ap, subst, ◌∙◌, append-nil, take-append-drop, arith}
use Rattle.std.proofs.lemmas.List.{length-take}
use Rattle.control_block.specs.ControlFiles.{control_of}
use Rattle.edge_traits.specs.FileStates.{Contents}
use Rattle.edge_traits.specs.declared.disks.FileId.{FileId}
use Rattle.edge_traits.specs.declared.disks.FileId.TheVariants as file
use Rattle.engine_redo.specs.Damages.{ControlDamaged, IsDamaged, IsLongest, PointDamaged, RedoDamaged}
use Rattle.engine_redo.specs.Points.{point_in}
use Rattle.engine_redo.specs.Stands.{EngineRead, EngineStands, IsRedo}
use Rattle.engine_redo.specs.declared.points.RedoPoint.{RedoPoint}
use Rattle.engine_redo.proofs.PointBytes.{one_point, point_read}
use Rattle.engine_redo.proofs.Redoing.{Compared, GoesOn, compared, ends_there, one_made}
use Rattle.prepared_txns.specs.Engines.{EngineState}
use Rattle.ring_types.specs.declared.schemas.Schema.{Schema}

one_read : (schema : Schema) (d e : EngineState) (c : Contents) (said : Option (Option (List ℕ))) → EngineRead schema d c said → EngineRead schema e c said → d ≡ e
one_read schema d e c None one two = absurd one
one_read schema d e c (Some None) one two = one ∙ sym two
one_read schema d e c (Some (Some bytes)) one two =
    let point : one.point ≡ two.point = one_point one.point two.point one.fits two.fits (sym one.named ∙ two.named) in
    one_made schema d e (take two.point.end (c (file.Redo two.point.number)))
    (subst (λ (p : RedoPoint). IsRedo schema (take p.end (c (file.Redo p.number))) d) point one.redo) two.redo

pub one_engine : (schema : Schema) (d e : EngineState) (c : Contents) → EngineStands schema d c → EngineStands schema e c → d ≡ e
one_engine schema d e c one two = one_read schema d e c (control_of (c file.EngineCtl)) one two

-- ---- faults
continues : (schema : Schema) (bytes : List ℕ) (at : ℕ) (longest : IsLongest schema bytes at) → GoesOn schema longest.made (drop at bytes) → ⊥
continues schema bytes at longest on = longest.ends on.0 on.1 on.2 on.3 on.4 on.5

long_so : (at : ℕ) (bytes : List ℕ) → at ≤ length bytes → length (take at bytes) ≡ at
long_so at bytes within = let long = length-take at bytes in omega (arith, long, within)

one_longest : (schema : Schema) (bytes : List ℕ) (at bt : ℕ) → IsLongest schema bytes at → IsLongest schema bytes bt → at ≡ bt
one_longest schema bytes at bt one two =
    same (compared schema one.made two.made (take at bytes) (take bt bytes) (drop at bytes) (drop bt bytes) one.redo two.redo (take-append-drop at bytes ∙ sym (take-append-drop bt bytes)))
  where
    same : Compared schema (take at bytes) (take bt bytes) one.made two.made (drop at bytes) (drop bt bytes) → at ≡ bt
    same (inl is) = sym (long_so at bytes one.within) ∙ (ap length is.0 ∙ long_so bt bytes two.within)
    same (inr (inl on)) = absurd (continues schema bytes at one on)
    same (inr (inr on)) = absurd (continues schema bytes bt two on)

point_once : (schema : Schema) (c : Contents) (named : Option RedoPoint) (f g : FileId) (at bt : ℕ) → PointDamaged schema c named f at → PointDamaged schema c named g bt
    → (f ≡ g) × (at ≡ bt)
point_once schema c None f g at bt one two = (one.0 ∙ sym two.0, one.1 ∙ sym two.1)
point_once schema c (Some p) f g at bt one two = (one.here ∙ sym two.here, one_longest schema (take p.end (c (file.Redo p.number))) at bt one.longest two.longest)

once : (schema : Schema) (c : Contents) (said : Option (Option (List ℕ))) (f g : FileId) (at bt : ℕ) → ControlDamaged schema c said f at → ControlDamaged schema c said g bt
    → (f ≡ g) × (at ≡ bt)
once schema c None f g at bt one two = (one.0 ∙ sym two.0, one.1 ∙ sym two.1)
once schema c (Some None) f g at bt one two = absurd one
once schema c (Some (Some bytes)) f g at bt one two = point_once schema c (point_in bytes) f g at bt one two

pub one_fault : (schema : Schema) (c : Contents) (f g : FileId) (at bt : ℕ) → IsDamaged schema c f at → IsDamaged schema c g bt → (f ≡ g) × (at ≡ bt)
one_fault schema c f g at bt one two = once schema c (control_of (c file.EngineCtl)) f g at bt one two

-- ---- and none where the content stands
not_short : (schema : Schema) (bytes : List ℕ) (e : EngineState) (at : ℕ) → IsRedo schema bytes e → IsLongest schema bytes at → at < length bytes → ⊥
not_short schema bytes e at redo longest short =
    no (compared schema longest.made e (take at bytes) bytes (drop at bytes) [] longest.redo redo (take-append-drop at bytes ∙ sym (append-nil bytes)))
  where
    no : Compared schema (take at bytes) bytes longest.made e (drop at bytes) [] → ⊥
    no (inl is) = let long = long_so at bytes longest.within in let same : length (take at bytes) ≡ length bytes = ap length is.0 in omega (arith, long, same, short)
    no (inr (inl on)) = continues schema bytes at longest on
    no (inr (inr on)) = ends_there schema e on

undamaged_read : (schema : Schema) (e : EngineState) (c : Contents) (said : Option (Option (List ℕ))) (f : FileId) (at : ℕ) → EngineRead schema e c said
    → ControlDamaged schema c said f at → ⊥
undamaged_read schema e c None f at stands damaged = stands
undamaged_read schema e c (Some None) f at stands damaged = damaged
undamaged_read schema e c (Some (Some bytes)) f at stands damaged =
    let known : point_in bytes ≡ Some stands.point = ap point_in stands.named ∙ point_read stands.point stands.fits in
    let redo : RedoDamaged schema stands.point c f at = subst (λ (o : Option RedoPoint). PointDamaged schema c o f at) known damaged in
    let text = take stands.point.end (c (file.Redo stands.point.number)) in
    let long = long_so stands.point.end (c (file.Redo stands.point.number)) stands.reaches in
    not_short schema text e at stands.redo redo.longest (omega (arith, long, redo.short))

pub undamaged : (schema : Schema) (e : EngineState) (c : Contents) (f : FileId) (at : ℕ) → EngineStands schema e c → IsDamaged schema c f at → ⊥
undamaged schema e c f at stands damaged = undamaged_read schema e c (control_of (c file.EngineCtl)) f at stands damaged
