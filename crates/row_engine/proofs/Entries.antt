-- A map's entries ascend by their keys, and each is a row under its key: so a walk that stops at the place of a key meets what a walk over all rows meets.
use Rattle.std.proofs.Common.{◌≡◌, ◌∙◌, Bool, List, [], ◌∷◌, ◌++◌, Ordering, true, false, cond, map, refl, ap, subst, sym}
use Rattle.std.proofs.lemmas.Cmp.{eq_by_cmp_equiv}
use Rattle.std.proofs.lemmas.List.{append_assoc}
use Rattle.std.proofs.lemmas.Map.{NonePasses, none_passes_from_lookup}
use Rattle.std.proofs.lemmas.Map.Entries.{none_below_head, none_past_head}
use Rattle.std.proofs.lemmas.Map.Keys.{IsDistinct-from_sorted, sorted_head, sorted_tail}
use Rattle.std.specs.BTreeMap.{insert_entry, is_at}
use Rattle.std.specs.Cmp.{IsTotalOrder}
use Rattle.std.specs.List.{AllByRecursion}
use Rattle.std.specs.List.Sorted.{IsStrictlySortedBy}
use Rattle.std.specs.Map.{keys_of, lookup, remove_entry, values_of}
use Rattle.std.specs.Ordering.{is_eq, is_lt, match_ordering}
use Rattle.std.specs.declared.cmp.Ordering.TheVariants.{Less, Equal, Greater}
use Rattle.std.specs.Prelude.{None}
use Rattle.ring_types.specs.Rows.{Rows, comes_before, key_of, placed, row_of, same_value, with_row, without_key}
use Rattle.ring_types.specs.declared.values.Value.{Value}
use Rattle.row_engine.specs.Keyed.{IsKeyed}
use Rattle.row_engine.proofs.Keys.{Agrees, one_value, same_back}

-- the rows' keys are the entries' keys
pub keys_of_rows : (es : List (Value × List Value)) → IsKeyed es → map key_of (values_of es) ≡ keys_of es
keys_of_rows [] h = refl
keys_of_rows (e ∷ es) h = let key = h.0 in let rest = keys_of_rows es h.1 in cc

module _ (R : Value → Value → Ordering) (o : IsTotalOrder R) (g : Agrees R) where
  -- the test of a query against an entry's key is the definitions' test of the row's key
  tested : (key k : Value) (row : List Value) → k ≡ key_of row → is_eq (R key k) ≡ same_value (key_of row) key
  tested key k row h = g.same key k ∙ same_back key k ∙ ap (λ (x : Value). same_value x key) h

  pub found : (es : List (Value × List Value)) (key : Value) → IsKeyed es → lookup (is_at (R key)) es ≡ row_of (values_of es) key
  found [] key h = refl
  found (e ∷ es) key h = let t = tested key e.0 e.1 h.0 in let rest = found es key h.1 in rw (t, rest) refl

  -- rows of other keys stay
  none_gone : (es : List (Value × List Value)) (key : Value) → NonePasses (is_at (R key)) es → IsKeyed es → without_key (values_of es) key ≡ values_of es
  none_gone [] key none h = refl
  none_gone (e ∷ es) key none h =
      let t : same_value (key_of e.1) key ≡ false = sym (tested key e.0 e.1 h.0) ∙ none.0 in
      let rest = none_gone es key none.1 h.1 in
      rw (t, rest) refl

  -- a row stands before the rows of greater keys
  placed_before : (key : Value) (es : List (Value × List Value)) (row : List Value) → R (key_of row) key ≡ Equal
      → AllByRecursion (λ y. R key y ≡ Less) (keys_of es) → IsKeyed es
      → placed (values_of es) row ≡ row ∷ values_of es
  placed_before key [] row h above k = refl
  placed_before key (e ∷ es) row h above k =
      let t : comes_before (key_of row) (key_of e.1) ≡ true =
      sym (g.before (key_of row) (key_of e.1)) ∙ ap is_lt (ap (R (key_of row)) (sym k.0) ∙ o.congr (key_of row) key e.0 h ∙ above.0) in
      rw t refl

  past : (key : Value) (e : Value × List Value) (es : List (Value × List Value)) → IsStrictlySortedBy R (keys_of (e ∷ es)) → is_eq (R key e.0) ≡ true
      → NonePasses (is_at (R key)) es
  past key e es s h = none_past_head (eq_by_cmp_equiv o) key e es (IsDistinct-from_sorted R (keys_of (e ∷ es)) s) h

  inserted_at : (es : List (Value × List Value)) (row : List Value) → IsStrictlySortedBy R (keys_of es) → IsKeyed es
      → values_of (insert_entry R es (key_of row) row) ≡ with_row (values_of es) row
  inserted_at [] row s h = refl
  inserted_at (e ∷ es) row s h = go (R (key_of row) e.0) refl (inserted_at es row (sorted_tail R e.0 (keys_of es) s) h.1)
    where
      Rest : Type 0
      Rest = values_of (insert_entry R es (key_of row) row) ≡ with_row (values_of es) row

      Goal : Ordering → Type 0
      Goal r =
          values_of (match_ordering r ((key_of row, row) ∷ e ∷ es) ((e.0, row) ∷ es) (e ∷ insert_entry R es (key_of row) row))
          ≡ placed (without_key (e.1 ∷ values_of es) (key_of row)) row

      go : (r : Ordering) → R (key_of row) e.0 ≡ r → Rest → Goal r
      go Less x rest =
          let gone : without_key (e.1 ∷ values_of es) (key_of row) ≡ e.1 ∷ values_of es =
          none_gone (e ∷ es) (key_of row) (none_below_head o (key_of row) e es s x) h in
          let t : comes_before (key_of row) (key_of e.1) ≡ true = sym (g.before (key_of row) (key_of e.1)) ∙ ap is_lt (ap (R (key_of row)) (sym h.0) ∙ x) in
          rw gone (rw t refl)
      go Equal x rest =
          let t : same_value (key_of e.1) (key_of row) ≡ true = sym (tested (key_of row) e.0 e.1 h.0) ∙ ap is_eq x in
          let gone : without_key (values_of es) (key_of row) ≡ values_of es = none_gone es (key_of row) (past (key_of row) e es s (ap is_eq x)) h.1 in
          rw t (rw gone (sym (placed_before e.0 es row x (sorted_head R e.0 (keys_of es) s) h.1)))
      go Greater x rest =
          let t : same_value (key_of e.1) (key_of row) ≡ false = sym (tested (key_of row) e.0 e.1 h.0) ∙ ap is_eq x in
          let b : comes_before (key_of row) (key_of e.1) ≡ false = sym (g.before (key_of row) (key_of e.1)) ∙ ap is_lt (ap (R (key_of row)) (sym h.0) ∙ x) in
          rw t (rw b (ap (λ (rows : List (List Value)). e.1 ∷ rows) rest))

  -- `none`: the map says that it has no entry of the key left
  pub removed : (es : List (Value × List Value)) (key : Value) → lookup (is_at (R key)) (remove_entry (is_at (R key)) es) ≡ None → IsKeyed es
      → values_of (remove_entry (is_at (R key)) es) ≡ without_key (values_of es) key
  removed [] key none h = refl
  removed (e ∷ es) key none h = go (is_eq (R key e.0)) refl none (λ x. removed es key x h.1)
    where
      left : List (Value × List Value)
      left = remove_entry (is_at (R key)) es

      go : (b : Bool) → is_eq (R key e.0) ≡ b → lookup (is_at (R key)) (cond b es (e ∷ left)) ≡ None
          → (lookup (is_at (R key)) left ≡ None → values_of left ≡ without_key (values_of es) key)
          → values_of (cond b es (e ∷ left)) ≡ without_key (e.1 ∷ values_of es) key
      go true x none rest =
          let t : same_value (key_of e.1) key ≡ true = sym (tested key e.0 e.1 h.0) ∙ x in
          rw t (sym (none_gone es key (none_passes_from_lookup (is_at (R key)) es none) h.1))
      go false x none rest =
          let t : same_value (key_of e.1) key ≡ false = sym (tested key e.0 e.1 h.0) ∙ x in
          let gone : lookup (is_at (R key)) left ≡ None = rw x at none in
          rw t (ap (λ (rows : List (List Value)). e.1 ∷ rows) (rest gone))

  keyed_at : (es : List (Value × List Value)) (row : List Value) → IsKeyed es → IsKeyed (insert_entry R es (key_of row) row)
  keyed_at [] row h = (refl, tt)
  keyed_at (e ∷ es) row h = go (R (key_of row) e.0) refl (keyed_at es row h.1)
    where
      go : (r : Ordering) → R (key_of row) e.0 ≡ r → IsKeyed (insert_entry R es (key_of row) row)
          → IsKeyed (match_ordering r ((key_of row, row) ∷ e ∷ es) ((e.0, row) ∷ es) (e ∷ insert_entry R es (key_of row) row))
      go Less x rest = (refl, h)
      go Equal x rest = (sym (one_value (key_of row) e.0 (sym (g.same (key_of row) e.0) ∙ ap is_eq x)), h.1)
      go Greater x rest = (h.0, rest)

  -- what the map says after a row is put under its key
  pub inserted : (es new : List (Value × List Value)) (key : Value) (row : List Value) → new ≡ insert_entry R es key row → key ≡ key_of row
      → IsStrictlySortedBy R (keys_of es) → IsKeyed es
      → values_of new ≡ with_row (values_of es) row
  inserted es new key row made is s h = ap values_of (made ∙ ap (λ (k : Value). insert_entry R es k row) is) ∙ inserted_at es row s h

  pub keyed_inserted : (es new : List (Value × List Value)) (key : Value) (row : List Value) → new ≡ insert_entry R es key row → key ≡ key_of row
      → IsKeyed es → IsKeyed new
  keyed_inserted es new key row made is h = subst IsKeyed (sym (made ∙ ap (λ (k : Value). insert_entry R es k row) is)) (keyed_at es row h)

  pub keyed_removed : (es : List (Value × List Value)) (test : Value → Bool) → IsKeyed es → IsKeyed (remove_entry test es)
  keyed_removed [] test h = tt
  keyed_removed (e ∷ es) test h = go (test e.0) (keyed_removed es test h.1)
    where
      go : (b : Bool) → IsKeyed (remove_entry test es) → IsKeyed (cond b es (e ∷ remove_entry test es))
      go true rest = h.1
      go false rest = (h.0, rest)

  in_middle : (P : Value → Type 0) (front : Rows) (row : List Value) (rest : Rows) → AllByRecursion P (map key_of (front ++ row ∷ rest)) → P (key_of row)
  in_middle P [] row rest h = h.0
  in_middle P (f ∷ front) row rest h = in_middle P front row rest h.1

  -- a row of a key above all goes to the end
  put_last : (front : Rows) (row : List Value) (rest : Rows) → IsStrictlySortedBy R (map key_of (front ++ row ∷ rest)) → with_row front row ≡ front ++ row ∷ []
  put_last [] row rest s = refl
  put_last (f ∷ front) row rest s =
      let k = key_of row in
      let below : R (key_of f) k ≡ Less = in_middle (λ y. R (key_of f) y ≡ Less) front row rest (sorted_head R (key_of f) (map key_of (front ++ row ∷ rest)) s) in
      let above : R k (key_of f) ≡ Greater = rw (o.antisymm k (key_of f), below) refl in
      let apart : same_value (key_of f) k ≡ false = sym (g.same (key_of f) k) ∙ ap is_eq below in
      let after : comes_before k (key_of f) ≡ false = sym (g.before k (key_of f)) ∙ ap is_lt above in
      rw apart (rw after (ap (λ (rows : Rows). f ∷ rows) (put_last front row rest (sorted_tail R (key_of f) (map key_of (front ++ row ∷ rest)) s))))

  -- one more row of a copy
  pub copied_more : (all front left rest new : Rows) (row : List Value) → IsStrictlySortedBy R (map key_of all) → front ++ left ≡ all
      → left ≡ row ∷ rest → new ≡ with_row front row → new ++ rest ≡ all
  copied_more all front left rest new row s whole step made =
      let split : front ++ row ∷ rest ≡ all = ap (λ (rows : Rows). front ++ rows) (sym step) ∙ whole in
      let sorted : IsStrictlySortedBy R (map key_of (front ++ row ∷ rest)) = subst (λ (rows : Rows). IsStrictlySortedBy R (map key_of rows)) (sym split) s in
      ap (λ (rows : Rows). rows ++ rest) (made ∙ put_last front row rest sorted) ∙ append_assoc front (row ∷ []) rest ∙ split
