-- A key has a holder exactly where some pair writes it, so a transaction without a conflict is one of which no key is held.
use Rattle.std.proofs.Common.{◌≡◌, ℕ, suc, Bool, true, false, cond, List, [], ◌∷◌, Option, Some, None, refl, ◌||◌}
use Rattle.std.specs.List.{list_any}
use Rattle.ring_types.specs.declared.entries.Conflict.{Conflict}
use Rattle.ring_types.specs.declared.entries.Pair.{Pair}
use Rattle.ring_types.specs.declared.values.Change.{Change}
use Rattle.ring_model.specs.Actions.{writes_key, holder_of, is_held}
use Rattle.prepared_txns.specs.Conflicts.{conflict_from}
use Rattle.prepared_txns.specs.Laws.{IsFreeWithoutConflict}

unheld : (c : Change) (pairs : List Pair) → is_held pairs c ≡ false → holder_of pairs c ≡ None
unheld c [] is = refl
unheld c (p ∷ pairs) is = go (writes_key c p) is (unheld c pairs)
  where
    go : (b : Bool) → (b || is_held pairs c) ≡ false → (is_held pairs c ≡ false → holder_of pairs c ≡ None)
        → ◌≡◌ {A = Option Pair} (cond b (Some p) (holder_of pairs c)) None
    go true is more = absurd cc
    go false is more = more is

no_holder : (c : Change) (pairs : List Pair) → holder_of pairs c ≡ None → is_held pairs c ≡ false
no_holder c [] is = refl
no_holder c (p ∷ pairs) is = go (writes_key c p) is (no_holder c pairs)
  where
    go : (b : Bool) → ◌≡◌ {A = Option Pair} (cond b (Some p) (holder_of pairs c)) None → (holder_of pairs c ≡ None → is_held pairs c ≡ false)
        → (b || is_held pairs c) ≡ false
    go true is more = absurd cc
    go false is more = more is

free : (n : ℕ) (pairs : List Pair) (changes : List Change) → conflict_from n pairs changes ≡ None → list_any (is_held pairs) changes ≡ false
free n pairs [] is = refl
free n pairs (c ∷ changes) is = go (holder_of pairs c) (no_holder c pairs) is (free (suc n) pairs changes)
  where
    both : (b : Bool) → b ≡ false → list_any (is_held pairs) changes ≡ false → (b || list_any (is_held pairs) changes) ≡ false
    both true is more = absurd cc
    both false is more = more

    go : (o : Option Pair) → (o ≡ None → is_held pairs c ≡ false)
        → ◌≡◌ {A = Option Conflict} (elim o [ Some p ↦ Some (record { change = n; holder = p.opid }) | None ↦ conflict_from (suc n) pairs changes ]) None
        → (conflict_from (suc n) pairs changes ≡ None → list_any (is_held pairs) changes ≡ false)
        → (is_held pairs c || list_any (is_held pairs) changes) ≡ false
    go None here is more = both (is_held pairs c) (here refl) (more is)
    go (Some p) here is more = absurd cc

no_conflict : (n : ℕ) (pairs : List Pair) (changes : List Change) → list_any (is_held pairs) changes ≡ false → conflict_from n pairs changes ≡ None
no_conflict n pairs [] is = refl
no_conflict n pairs (c ∷ changes) is = go (is_held pairs c) (unheld c pairs) is (no_conflict (suc n) pairs changes)
  where
    next : (o : Option Pair) → o ≡ None → conflict_from (suc n) pairs changes ≡ None
        → ◌≡◌ {A = Option Conflict} (elim o [ Some p ↦ Some (record { change = n; holder = p.opid }) | None ↦ conflict_from (suc n) pairs changes ]) None
    next None is more = more
    next (Some p) is more = absurd cc

    go : (b : Bool) → (b ≡ false → holder_of pairs c ≡ None) → (b || list_any (is_held pairs) changes) ≡ false
        → (list_any (is_held pairs) changes ≡ false → conflict_from (suc n) pairs changes ≡ None) → conflict_from n pairs (c ∷ changes) ≡ None
    go true here is more = absurd cc
    go false here is more = next (holder_of pairs c) (here refl) (more is)

pub free_without_conflict : IsFreeWithoutConflict
free_without_conflict pairs changes = (free 0 pairs changes, no_conflict 0 pairs changes)
