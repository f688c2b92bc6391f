-- A fault that is handed on is the same fault.
use Rattle.std.proofs.Common.{◌≡◌, ℕ, Option, Some, None, Result, Ok, Err, refl, subst, sym}
use Rattle.std.specs.Prelude.{IfOk, OnOk}
use Rattle.binlog_store.specs.Following.{Answers}
use Rattle.std.specs.Result.{IsErrAnd}
use Rattle.edge_traits.specs.declared.disks.FileId.{FileId}
use Rattle.binlog_store.specs.Faults.{IfDamaged}
use Rattle.binlog_store.specs.declared.faults.StoreFault.{StoreFault}
use Rattle.binlog_store.specs.declared.faults.StoreFault.TheVariants as fault

pub handed_on : {T : Type 0} (U : Type 0) (r : Result T StoreFault) (e : StoreFault) (P : FileId → ℕ → Type 0) → IsErrAnd r (λ (f : StoreFault). f ≡ e)
    → IfDamaged {T = U} P (Err e) → IfDamaged P r
handed_on U (Ok x) e P is there = absurd is
handed_on U (Err fault.Disk) e P is there = tt
handed_on U (Err fault.Memory) e P is there = tt
handed_on U (Err (fault.Damaged f at)) e P is there = subst (λ (g : StoreFault). IfDamaged {T = U} P (Err g)) (sym is) there

-- what the damage that is named has, it has that too
pub damaged_more : {T : Type 0} (r : Result T StoreFault) (P Q : FileId → ℕ → Type 0) → ((f : FileId) (at : ℕ) → P f at → Q f at) → IfDamaged P r → IfDamaged Q r
damaged_more (Ok x) P Q more h = tt
damaged_more (Err fault.Disk) P Q more h = tt
damaged_more (Err fault.Memory) P Q more h = tt
damaged_more (Err (fault.Damaged f at)) P Q more h = more f at h

-- ---- what an answer says that names a place, or none
pub answers_ok : (o : Option (FileId × ℕ)) (r : Result (Unit {0}) StoreFault) (P : Type 0) → Answers o r → (o ≡ None → P) → OnOk r P
answers_ok None r P is told = subst (λ (x : Result (Unit {0}) StoreFault). OnOk x P) (sym is) (told refl)
answers_ok (Some place) r P is told = subst (λ (x : Result (Unit {0}) StoreFault). OnOk x P) (sym is) tt

pub answers_damaged : (o : Option (FileId × ℕ)) (r : Result (Unit {0}) StoreFault) (P : FileId → ℕ → Type 0) → Answers o r
    → ((f : FileId) (at : ℕ) → o ≡ Some (f, at) → P f at) → IfDamaged P r
answers_damaged None r P is there = subst (λ (x : Result (Unit {0}) StoreFault). IfDamaged P x) (sym is) tt
answers_damaged (Some place) r P is there = subst (λ (x : Result (Unit {0}) StoreFault). IfDamaged P x) (sym is) (there place.0 place.1 refl)

-- ---- what an answer brings with it
pub ok_more : {T E : Type 0} (r : Result T E) {P Q : Type 0} → OnOk r P → (P → Q) → OnOk r Q
ok_more (Ok x) p more = more p
ok_more (Err e) p more = tt

pub ok_both : {T E : Type 0} (r : Result T E) {P Q R : Type 0} → OnOk r P → OnOk r Q → (P → Q → R) → OnOk r R
ok_both (Ok x) p q more = more p q
ok_both (Err e) p q more = tt

pub ok_map : {T E : Type 0} (r : Result T E) {P Q : T → Type 0} → IfOk r P → ((x : T) → P x → Q x) → IfOk r Q
ok_map (Ok x) p more = more x p
ok_map (Err e) p more = tt
