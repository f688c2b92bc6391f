-- the first conflict is the first locked change
use Rattle.std.proofs.Common.{◌≡◌, ℕ, zero, suc, ◌+◌, ◌<◌, List, [], ◌∷◌, length, Option, Some, None, slice_get, refl, sym, ap, ap₂, subst, arith}
use Rattle.ring_types.specs.declared.entries.Opid.{Opid}
use Rattle.ring_types.specs.declared.entries.Pair.{Pair}
use Rattle.ring_types.specs.declared.values.Change.{Change}
use Rattle.ring_types.specs.Rows.{table_name, change_key}
use Rattle.ring_model.specs.Actions.{holder_of}
use Rattle.ring_model.specs.Writes.{lock_of}
use Rattle.ring_model.specs.declared.effects.Cause.{Cause}
use Rattle.ring_model.specs.declared.effects.Cause.TheVariants as cause
use Rattle.ring_types.specs.declared.entries.Conflict.{Conflict}
use Rattle.prepared_txns.specs.Conflicts.{conflict_from}

abbrev cause_of : Conflict → Change → Option Cause
cause_of k c = Some (cause.Locked (table_name c) (change_key c) k.holder)

abbrev Locked : ℕ → Option Cause → List Change → Conflict → Type 0
Locked n lock changes k = (i : ℕ) × (k.change ≡ n + i) × (i < length changes) × ((c : Change) → Some c ≡ slice_get changes i → lock ≡ cause_of k c)

none_from : (n : ℕ) (pairs : List Pair) (changes : List Change) → None ≡ conflict_from n pairs changes → None ≡ lock_of pairs changes
none_from n pairs [] h = refl
none_from n pairs (c ∷ changes) h = go (holder_of pairs c) h (none_from (suc n) pairs changes)
  where
    go : (o : Option Pair) → ◌≡◌ {A = Option Conflict} None (elim o [ Some p ↦ Some (record { change = n; holder = p.opid }) | None ↦ conflict_from (suc n) pairs changes ])
        → (None ≡ conflict_from (suc n) pairs changes → None ≡ lock_of pairs changes) → ◌≡◌ {A = Option Cause} None (elim o [ Some p ↦ Some (cause.Locked (table_name c) (change_key c) p.opid) | None ↦ lock_of pairs changes ])
    go (Some p) is rest = absurd cc
    go None is rest = rest is

pub lock_none : (pairs : List Pair) (changes : List Change) → None ≡ conflict_from 0 pairs changes → None ≡ lock_of pairs changes
lock_none = none_from 0

cause_is : (c x : Change) (p : Pair) (k : Conflict) → x ≡ c → k.holder ≡ p.opid → ◌≡◌ {A = Option Cause} (Some (cause.Locked (table_name c) (change_key c) p.opid)) (cause_of k x)
cause_is c x p k same by = ap₂ (λ (y : Change) (o : Opid). Some (cause.Locked (table_name y) (change_key y) o)) (sym same) (sym by)

some_from : (n : ℕ) (pairs : List Pair) (changes : List Change) (k : Conflict) → Some k ≡ conflict_from n pairs changes → Locked n (lock_of pairs changes) changes k
some_from n pairs [] k h = absurd cc
some_from n pairs (c ∷ changes) k h = go (holder_of pairs c) h (some_from (suc n) pairs changes k)
  where
    go : (o : Option Pair) → ◌≡◌ {A = Option Conflict} (Some k) (elim o [ Some p ↦ Some (record { change = n; holder = p.opid }) | None ↦ conflict_from (suc n) pairs changes ])
        → (Some k ≡ conflict_from (suc n) pairs changes → Locked (suc n) (lock_of pairs changes) changes k)
        → Locked n (elim o [ Some p ↦ Some (cause.Locked (table_name c) (change_key c) p.opid) | None ↦ lock_of pairs changes ]) (c ∷ changes) k
    go (Some p) is rest =
        let same : k ≡ record { change = n; holder = p.opid } = cc in
        let at : k.change ≡ n = ap (λ (x : Conflict). x.change) same in
        let by : k.holder ≡ p.opid = ap (λ (x : Conflict). x.holder) same in
        (0, (let z : k.change ≡ n + 0 = omega arith in z), omega arith, λ x there. cause_is c x p k (let z : x ≡ c = cc in z) by)
    go None is rest =
        let (i, at, inside, then) = rest is in
        (suc i, (let z : k.change ≡ n + suc i = omega arith in z), omega arith, then)

pub lock_some : (pairs : List Pair) (changes : List Change) (k : Conflict) (c : Change) → Some k ≡ conflict_from 0 pairs changes → Some c ≡ slice_get changes k.change → lock_of pairs changes ≡ cause_of k c
lock_some pairs changes k c is there =
    let (i, at, inside, then) = some_from 0 pairs changes k is in
    let same : k.change ≡ i = omega arith in
    then c (subst (λ (n : ℕ). Some c ≡ slice_get changes n) same there)

get_none : (changes : List Change) (i : ℕ) → i < length changes → None ≡ slice_get changes i → ⊥
get_none [] i h is = absurd (omega arith)
get_none (c ∷ changes) zero h is = cc
get_none (c ∷ changes) (suc i) h is = get_none changes i (omega arith) is

pub lock_inside : (pairs : List Pair) (changes : List Change) (k : Conflict) → Some k ≡ conflict_from 0 pairs changes → None ≡ slice_get changes k.change → None ≡ lock_of pairs changes
lock_inside pairs changes k is there =
    let (i, at, inside, then) = some_from 0 pairs changes k is in
    let same : k.change ≡ i = omega arith in
    absurd (get_none changes i inside (subst (λ (n : ℕ). None ≡ slice_get changes n) same there))
