-- The map stands for the pairs before and after each change of them, since a key has at most one holder.
use Rattle.std.proofs.Common.{◌≡◌, ℕ, suc, Bool, true, false, cond, List, [], ◌∷◌, ◌++◌, map, filter, option_to_list, Option, Some, None, refl, sym, ◌∙◌, ap, ap₂, ◌&&◌, ◌||◌}
use Rattle.std.specs.Prelude.{bytes_eq}
use Rattle.std.specs.List.{list_any}
use Rattle.std.specs.Map.{lookup}
use Rattle.std.specs.Option.{option_map}
use Rattle.std.proofs.lemmas.List.{append-nil}
use Rattle.ring_types.specs.Rows.{table_name, change_key, same_value}
use Rattle.ring_types.specs.declared.entries.Conflict.{Conflict}
use Rattle.ring_types.specs.declared.entries.Opid.{Opid}
use Rattle.ring_types.specs.declared.entries.Pair.{Pair}
use Rattle.ring_types.specs.declared.values.Change.{Change}
use Rattle.ring_types.specs.declared.values.Value.{Value}
use Rattle.ring_model.specs.Actions.{same_key, writes_key, holder_of}
use Rattle.prepared_txns.specs.Conflicts.{conflict_from}
use Rattle.prepared_txns.specs.Holders.{Holders, held_in, held_by, first_conflict, ArePut, AreFree, AreHeld}
use Rattle.prepared_txns.proofs.Ties.{texts_same, values_same}

abbrev opid_of : Pair → Opid
opid_of p = p.opid

abbrev holders_among : Change → List Pair → List Opid
holders_among c pairs = map (λ (p : Pair). p.opid) (filter (writes_key c) pairs)

-- ---- the map's holder is the pairs'
abbrev first_opid : List Opid → Option Opid
first_opid [] = None
first_opid (o ∷ os) = Some o

first_is : (c : Change) (pairs : List Pair) → option_map opid_of (holder_of pairs c) ≡ first_opid (holders_among c pairs)
first_is c [] = refl
first_is c (p ∷ pairs) = go (writes_key c p) (first_is c pairs)
  where
    go : (b : Bool) → option_map opid_of (holder_of pairs c) ≡ first_opid (holders_among c pairs)
        → option_map opid_of (cond b (Some p) (holder_of pairs c))
        ≡ first_opid (map opid_of (cond b (p ∷ filter (writes_key c) pairs) (filter (writes_key c) pairs)))
    go true more = refl
    go false more = more

listed : (o : Option Opid) → first_opid (option_to_list o) ≡ o
listed None = refl
listed (Some o) = refl

pub holder_is : (pairs : List Pair) (holders : Holders) → AreHeld pairs holders → (c : Change) → held_by holders c ≡ option_map opid_of (holder_of pairs c)
holder_is pairs holders held c = sym (first_is c pairs ∙ (ap first_opid (held c) ∙ listed (held_by holders c)))

pub conflict_is : (n : ℕ) (pairs : List Pair) (holders : Holders) (changes : List Change) → AreHeld pairs holders
    → first_conflict n holders changes ≡ conflict_from n pairs changes
conflict_is n pairs holders [] held = refl
conflict_is n pairs holders (c ∷ changes) held =
    go (held_by holders c) (holder_of pairs c) (holder_is pairs holders held c) (conflict_is (suc n) pairs holders changes held)
  where
    go : (o : Option Opid) (p : Option Pair) → o ≡ option_map opid_of p → first_conflict (suc n) holders changes ≡ conflict_from (suc n) pairs changes
        → ◌≡◌ {A = Option Conflict} (elim o [ Some o ↦ Some (record { change = n; holder = o }) | None ↦ first_conflict (suc n) holders changes ])
        (elim p [ Some p ↦ Some (record { change = n; holder = p.opid }) | None ↦ conflict_from (suc n) pairs changes ])
    go None None is more = more
    go None (Some p) is more = absurd cc
    go (Some o) None is more = absurd cc
    go (Some o) (Some p) is more = let same : o ≡ p.opid = cc in ap (λ (x : Opid). Some (record { change = n; holder = x })) same

-- ---- without a conflict the keys are free
same_holder : (holders : Holders) (d c : Change) → same_key d c ≡ true → held_by holders d ≡ held_by holders c
same_holder holders d c is = go (bytes_eq (table_name d) (table_name c)) (same_value (change_key d) (change_key c)) refl refl is
  where
    go : (a b : Bool) → bytes_eq (table_name d) (table_name c) ≡ a → same_value (change_key d) (change_key c) ≡ b → (a && b) ≡ true
        → held_by holders d ≡ held_by holders c
    go true true table key both =
        ap₂ (λ (t : List ℕ) (k : Value). held_in k (lookup (bytes_eq t) holders.entries)) (texts_same (table_name d) (table_name c) table)
        (values_same (change_key d) (change_key c) key)
    go true false table key both = absurd cc
    go false b table key both = absurd cc

pub free_from : (n : ℕ) (pairs : List Pair) (holders : Holders) (changes : List Change) → AreHeld pairs holders → conflict_from n pairs changes ≡ None
    → AreFree changes holders
free_from n pairs holders [] held none d is = absurd cc
free_from n pairs holders (c ∷ changes) held none d is =
    go (holder_of pairs c) (holder_is pairs holders held c) none (λ rest. free_from (suc n) pairs holders changes held rest d)
  where
    here : held_by holders c ≡ None → (list_any (same_key d) changes ≡ true → held_by holders d ≡ None) → (b : Bool) → same_key d c ≡ b
        → (b || list_any (same_key d) changes) ≡ true → held_by holders d ≡ None
    here free more true same any = same_holder holders d c same ∙ free
    here free more false same any = more any

    go : (p : Option Pair) → held_by holders c ≡ option_map opid_of p
        → ◌≡◌ {A = Option Conflict} (elim p [ Some p ↦ Some (record { change = n; holder = p.opid }) | None ↦ conflict_from (suc n) pairs changes ]) None
        → (conflict_from (suc n) pairs changes ≡ None → list_any (same_key d) changes ≡ true → held_by holders d ≡ None) → held_by holders d ≡ None
    go None free rest more = here free (more rest) (same_key d c) refl is
    go (Some p) free rest more = absurd cc

-- ---- one pair more, one pair less
among : (c : Change) (xs ys : List Pair) → holders_among c (xs ++ ys) ≡ holders_among c xs ++ holders_among c ys
among c [] ys = refl
among c (x ∷ xs) ys = go (writes_key c x) (among c xs ys)
  where
    go : (b : Bool) → holders_among c (xs ++ ys) ≡ holders_among c xs ++ holders_among c ys
        → map opid_of (cond b (x ∷ filter (writes_key c) (xs ++ ys)) (filter (writes_key c) (xs ++ ys)))
        ≡ map opid_of (cond b (x ∷ filter (writes_key c) xs) (filter (writes_key c) xs)) ++ holders_among c ys
    go true more = ap (λ (os : List Opid). x.opid ∷ os) more
    go false more = more

pub held_more : (pairs : List Pair) (p : Pair) (old new : Holders) → AreHeld pairs old → AreFree p.txn.changes old
    → ArePut p.txn.changes (Some p.opid) old new → AreHeld (pairs ++ p ∷ []) new
held_more pairs p old new held free put c = among c pairs (p ∷ []) ∙ (go (writes_key c p) refl ∙ ap option_to_list (sym (put c)))
  where
    go : (b : Bool) → writes_key c p ≡ b → holders_among c pairs ++ map opid_of (cond b (p ∷ []) []) ≡ option_to_list (cond b (Some p.opid) (held_by old c))
    go true is = ap (λ (os : List Opid). os ++ p.opid ∷ []) (held c ∙ ap option_to_list (free c is))
    go false is = append-nil (holders_among c pairs) ∙ held c

-- a list of at most one that has this one in its middle has nothing before and nothing behind it
alone : (xs ys : List Opid) (o : Opid) (held : Option Opid) → xs ++ o ∷ ys ≡ option_to_list held → xs ++ ys ≡ []
alone [] [] o held is = refl
alone [] (y ∷ ys) o None is = absurd cc
alone [] (y ∷ ys) o (Some h) is = absurd cc
alone (x ∷ xs) ys o None is = absurd cc
alone (x ∷ []) ys o (Some h) is = absurd cc
alone (x ∷ (z ∷ xs)) ys o (Some h) is = absurd cc

pub held_less : (xs ys : List Pair) (p : Pair) (old new : Holders) → AreHeld (xs ++ p ∷ ys) old → ArePut p.txn.changes None old new → AreHeld (xs ++ ys) new
held_less xs ys p old new held put c = among c xs ys ∙ (go (writes_key c p) (sym (among c xs (p ∷ ys)) ∙ held c) ∙ ap option_to_list (sym (put c)))
  where
    go : (b : Bool) → holders_among c xs ++ map opid_of (cond b (p ∷ filter (writes_key c) ys) (filter (writes_key c) ys)) ≡ option_to_list (held_by old c)
        → holders_among c xs ++ holders_among c ys ≡ option_to_list (cond b None (held_by old c))
    go true is = alone (holders_among c xs) (holders_among c ys) p.opid (held_by old c) is
    go false is = is
