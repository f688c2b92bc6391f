-- A change reaches the table of its name alone, so of many the last that names a table and a key decides the row there.
use Rattle.std.proofs.Common.{◌≡◌, ◌∙◌, ℕ, ◌<◌, Bool, List, [], ◌∷◌, Option, true, false, cond, length, refl, ap, sym, arith}
use Rattle.std.proofs.lemmas.List.{get_or-set_other, get_or_default, get_or-set_same, length-set, reverse-append}
use Rattle.std.proofs.lemmas.List.Folds.{find-append}
use Rattle.std.proofs.lemmas.List.Quantifiers.{position-Some}
use Rattle.std.proofs.lemmas.Option.{unwrap_or-slice_get}
use Rattle.std.proofs.lemmas.Slice.Eq.{bytes_eq-Decides}
use Rattle.std.specs.Option.{option_map_or, option_or}
use Rattle.std.specs.Prelude.{◌&&◌, None, Some, bytes_eq, find, get_or, reverse, slice_set}
use Rattle.ring_types.specs.Rows.{Rows, Tables, all_changed, change_key, changed, place_in, row_of, rows_after, rows_at, same_value, table_name}
use Rattle.ring_types.specs.declared.schemas.Schema.{Schema}
use Rattle.ring_types.specs.declared.schemas.Table.{Table}
use Rattle.ring_types.specs.declared.values.Change.{Change}
use Rattle.ring_types.specs.declared.values.Value.{Value}
use Rattle.row_engine.specs.LastChange.{last_change, names, row_after, row_left}
use Rattle.row_engine.proofs.RowAfter.{row_after_one}

no_table : Table
no_table = record { name = []; columns = [] }

pub place_within : (schema : Schema) (name : List ℕ) (place : ℕ) → place_in schema name ≡ Some place → place < length schema.tables
place_within schema name place h = (position-Some (λ (t : Table). bytes_eq t.name name) schema.tables place no_table h).0

-- a place has one name
one_name : (schema : Schema) (m n : List ℕ) (place : ℕ) → place_in schema m ≡ Some place → place_in schema n ≡ Some place → m ≡ n
one_name schema m n place h k =
    let first = (position-Some (λ (t : Table). bytes_eq t.name m) schema.tables place no_table h).1 in
    let other = (position-Some (λ (t : Table). bytes_eq t.name n) schema.tables place no_table k).1 in
    let t = get_or schema.tables place no_table in
    sym ((bytes_eq-Decides t.name m).0 first) ∙ (bytes_eq-Decides t.name n).0 other

-- the rows that are read at a place within
pub rows_read : (tables : Tables) (place : ℕ) (rows : Rows) → place < length tables → rows ≡ get_or tables place rows → rows ≡ rows_at tables place
rows_read tables place rows h is = is ∙ get_or_default tables place rows [] h ∙ sym (unwrap_or-slice_get tables place [])

rows_set_here : (tables : Tables) (place : ℕ) (rows : Rows) → place < length tables → rows_at (slice_set tables place rows) place ≡ rows
rows_set_here tables place rows h = unwrap_or-slice_get (slice_set tables place rows) place [] ∙ get_or-set_same tables place rows [] h

rows_set_there : (tables : Tables) (place other : ℕ) (rows : Rows) → (other ≡ place → ⊥) → rows_at (slice_set tables place rows) other ≡ rows_at tables other
rows_set_there tables place other rows h =
    unwrap_or-slice_get (slice_set tables place rows) other [] ∙ get_or-set_other tables place other rows [] h ∙ sym (unwrap_or-slice_get tables other [])

pub same_length : (schema : Schema) (tables : Tables) (c : Change) → length (changed schema tables c) ≡ length tables
unfolding changed
same_length schema tables c = go (place_in schema (table_name c))
  where
    go : (o : Option ℕ) → length (option_map_or (λ place. slice_set tables place (rows_after (rows_at tables place) c)) o tables) ≡ length tables
    go None = refl
    go (Some place) = length-set tables place (rows_after (rows_at tables place) c)

row_changed : (schema : Schema) (tables : Tables) (c : Change) (name : List ℕ) (place : ℕ) (key : Value) → length tables ≡ length schema.tables
    → place_in schema name ≡ Some place
    → row_of (rows_at (changed schema tables c) place) key ≡ cond (names name key c) (row_left c) (row_of (rows_at tables place) key)
unfolding changed
row_changed schema tables c name place key len at = go (bytes_eq (table_name c) name) refl (place_in schema (table_name c)) refl
  where
    After : Option ℕ → Rows
    After o = rows_at (option_map_or (λ p. slice_set tables p (rows_after (rows_at tables p) c)) o tables) place

    within : place < length tables
    within = omega (arith, place_within schema name place at)

    go : (b : Bool) → bytes_eq (table_name c) name ≡ b → (o : Option ℕ) → place_in schema (table_name c) ≡ o
        → row_of (After o) key ≡ cond (b && same_value (change_key c) key) (row_left c) (row_of (rows_at tables place) key)
    go true x o y =
        let here : o ≡ Some place = sym y ∙ ap (place_in schema) ((bytes_eq-Decides (table_name c) name).0 x) ∙ at in
        ap (λ (w : Option ℕ). row_of (After w) key) here
        ∙ ap (λ (rows : Rows). row_of rows key) (rows_set_here tables place (rows_after (rows_at tables place) c) within)
        ∙ row_after_one (rows_at tables place) c key
    go false x None y = refl
    go false x (Some p) y =
        let apart : place ≡ p → ⊥ =
        λ e. let one = one_name schema (table_name c) name place (y ∙ ap Some (sym e)) at in
        let t = (bytes_eq-Decides (table_name c) name).1 one in absurd cc in
        ap (λ (rows : Rows). row_of rows key) (rows_set_there tables p place (rows_after (rows_at tables p) c) apart)

pub last_first : (name : List ℕ) (key : Value) (c : Change) (changes : List Change)
    → last_change name key (c ∷ changes) ≡ option_or (last_change name key changes) (cond (names name key c) (Some c) None)
last_first name key c changes =
    ap (find (names name key)) (reverse-append (c ∷ []) changes) ∙ find-append (names name key) (reverse changes) (c ∷ [])

pub decided : (schema : Schema) (tables : Tables) (changes : List Change) (name : List ℕ) (place : ℕ) (key : Value)
    → length tables ≡ length schema.tables → place_in schema name ≡ Some place
    → row_of (rows_at (all_changed schema tables changes) place) key ≡ row_after (last_change name key changes) (row_of (rows_at tables place) key)
decided schema tables [] name place key len at = refl
decided schema tables (c ∷ changes) name place key len at =
    decided schema (changed schema tables c) changes name place key (same_length schema tables c ∙ len) at
    ∙ ap (row_after (last_change name key changes)) (row_changed schema tables c name place key len at)
    ∙ split (last_change name key changes) (names name key c)
    ∙ ap (λ (w : Option Change). row_after w (row_of (rows_at tables place) key)) (sym (last_first name key c changes))
  where
    before : Option (List Value)
    before = row_of (rows_at tables place) key

    split : (o : Option Change) (b : Bool) → row_after o (cond b (row_left c) before) ≡ row_after (option_or o (cond b (Some c) None)) before
    split None true = refl
    split None false = refl
    split (Some d) b = refl
