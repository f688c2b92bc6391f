-- A change writes or takes the row of its own key alone: a row of another key is neither among those that leave nor the one that comes.
use Rattle.std.proofs.Common.{◌≡◌, ◌∙◌, Bool, List, [], ◌∷◌, true, false, cond, not, refl, ap, sym}
use Rattle.std.specs.Prelude.{◌||◌, None, Some, is_some}
use Rattle.ring_types.specs.Rows.{Rows, change_key, comes_before, has_key, key_of, placed, row_of, rows_after, same_value, without_key}
use Rattle.ring_types.specs.declared.values.Change.{Change}
use Rattle.ring_types.specs.declared.values.Change.TheVariants.{Insert, Update, Delete}
use Rattle.ring_types.specs.declared.values.Value.{Value}
use Rattle.row_engine.specs.LastChange.{row_left}
use Rattle.row_engine.proofs.Keys.{one_value, same_itself}

pub has_row : (rows : Rows) (key : Value) → has_key rows key ≡ is_some (row_of rows key)
has_row [] key = refl
has_row (r ∷ rows) key = go (same_value (key_of r) key) (has_row rows key)
  where
    go : (b : Bool) → has_key rows key ≡ is_some (row_of rows key) → (b || has_key rows key) ≡ is_some (cond b (Some r) (row_of rows key))
    go true rest = refl
    go false rest = rest

none_left : (rows : Rows) (key : Value) → row_of (without_key rows key) key ≡ None
none_left [] key = refl
none_left (r ∷ rows) key = go (same_value (key_of r) key) refl (none_left rows key)
  where
    go : (b : Bool) → same_value (key_of r) key ≡ b → row_of (without_key rows key) key ≡ None
        → row_of (cond (not b) (r ∷ without_key rows key) (without_key rows key)) key ≡ None
    go true x rest = rest
    go false x rest = rw x rest

others_left : (rows : Rows) (key other : Value) → same_value key other ≡ false → row_of (without_key rows key) other ≡ row_of rows other
others_left [] key other h = refl
others_left (r ∷ rows) key other h = go (same_value (key_of r) key) refl (others_left rows key other h)
  where
    go : (b : Bool) → same_value (key_of r) key ≡ b → row_of (without_key rows key) other ≡ row_of rows other
        → row_of (cond (not b) (r ∷ without_key rows key) (without_key rows key)) other ≡ cond (same_value (key_of r) other) (Some r) (row_of rows other)
    go true x rest =
        let t : same_value (key_of r) other ≡ false = ap (λ (k : Value). same_value k other) (one_value (key_of r) key x) ∙ h in
        rw t rest
    go false x rest = rw rest refl

put_there : (rows : Rows) (row : List Value) → row_of rows (key_of row) ≡ None → row_of (placed rows row) (key_of row) ≡ Some row
put_there [] row h = rw (same_itself (key_of row)) refl
put_there (r ∷ rows) row h = go (comes_before (key_of row) (key_of r)) (same_value (key_of r) (key_of row)) refl h (put_there rows row)
  where
    go : (b t : Bool) → same_value (key_of r) (key_of row) ≡ t → cond t (Some r) (row_of rows (key_of row)) ≡ None
        → (row_of rows (key_of row) ≡ None → row_of (placed rows row) (key_of row) ≡ Some row)
        → row_of (cond b (row ∷ r ∷ rows) (r ∷ placed rows row)) (key_of row) ≡ Some row
    go true t x y rest = rw (same_itself (key_of row)) refl
    go false true x y rest = absurd cc
    go false false x y rest = rw x (rest y)

others_stay : (rows : Rows) (row : List Value) (other : Value) → same_value (key_of row) other ≡ false → row_of (placed rows row) other ≡ row_of rows other
others_stay [] row other h = rw h refl
others_stay (r ∷ rows) row other h = go (comes_before (key_of row) (key_of r)) (others_stay rows row other h)
  where
    go : (b : Bool) → row_of (placed rows row) other ≡ row_of rows other
        → row_of (cond b (row ∷ r ∷ rows) (r ∷ placed rows row)) other ≡ cond (same_value (key_of r) other) (Some r) (row_of rows other)
    go true rest = rw h refl
    go false rest = rw rest refl

put_row : (rows : Rows) (row : List Value) (key : Value)
    → row_of (placed (without_key rows (key_of row)) row) key ≡ cond (same_value (key_of row) key) (Some row) (row_of rows key)
put_row rows row key = go (same_value (key_of row) key) refl
  where
    go : (b : Bool) → same_value (key_of row) key ≡ b → row_of (placed (without_key rows (key_of row)) row) key ≡ cond b (Some row) (row_of rows key)
    go true x =
        let there = put_there (without_key rows (key_of row)) row (none_left rows (key_of row)) in
        ap (row_of (placed (without_key rows (key_of row)) row)) (sym (one_value (key_of row) key x)) ∙ there
    go false x = others_stay (without_key rows (key_of row)) row key x ∙ others_left rows (key_of row) key x

taken_row : (rows : Rows) (gone key : Value) → row_of (without_key rows gone) key ≡ cond (same_value gone key) None (row_of rows key)
taken_row rows gone key = go (same_value gone key) refl
  where
    go : (b : Bool) → same_value gone key ≡ b → row_of (without_key rows gone) key ≡ cond b None (row_of rows key)
    go true x = ap (row_of (without_key rows gone)) (sym (one_value gone key x)) ∙ none_left rows gone
    go false x = others_left rows gone key x

pub row_after_one : (rows : Rows) (c : Change) (key : Value)
    → row_of (rows_after rows c) key ≡ cond (same_value (change_key c) key) (row_left c) (row_of rows key)
row_after_one rows (Insert table row) key = put_row rows row key
row_after_one rows (Update table row) key = put_row rows row key
row_after_one rows (Delete table gone) key = taken_row rows gone key
