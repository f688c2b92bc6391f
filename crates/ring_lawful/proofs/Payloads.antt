-- A write that is not refused fits the schema: its changes were checked, and its GTID has a next number.
use Rattle.std.proofs.Common.{◌≡◌, ℕ, ◌+◌, ◌-◌, ◌^◌, [], ◌∷◌, ◌∙◌, if◌then◌else◌, Bool, List, None, Option, Some, ap, arith, false, length, refl, true}
use Rattle.std.proofs.lemmas.Bool.Decides.{nat_tests}
use Rattle.std.proofs.lemmas.List.Folds.{find_at}
use Rattle.std.specs.Prelude.{bytes_eq, is_none, nat_le, nat_lt, slice_get, unwrap_or}
use Rattle.std.specs.List.{list_all, position_or_len}
use Rattle.std.specs.Option.{option_map_or}
use Rattle.ring_types.specs.declared.schemas.Schema.{Schema}
use Rattle.ring_types.specs.declared.schemas.Table.{Table}
use Rattle.ring_types.specs.declared.values.Change.{Change}
use Rattle.ring_types.specs.declared.values.RowRefusal.{RowRefusal}
use Rattle.ring_types.specs.declared.values.RowRefusal.TheVariants.{BadRow}
use Rattle.ring_types.specs.Rows.{Tables, change_fits, changed, check, fits_table, is_number, key_refusal, refusal_of, rows_at, table_name}

change_is_fit : (schema : Schema) (tables : Tables) (c : Change) → refusal_of schema tables c ≡ None → change_fits schema c ≡ true
unfolding refusal_of
change_is_fit schema tables c is = go (nat_lt (position_or_len (λ (t : Table). bytes_eq t.name (table_name c)) schema.tables) (length schema.tables)) refl
  where
    fits : (o : Option Table) → slice_get schema.tables (position_or_len (λ (t : Table). bytes_eq t.name (table_name c)) schema.tables) ≡ o → (b : Bool) → option_map_or (λ (t : Table). fits_table t c) o false ≡ b
        → ◌≡◌ {A = Option RowRefusal} (if b then key_refusal (rows_at tables (position_or_len (λ (t : Table). bytes_eq t.name (table_name c)) schema.tables)) c else Some BadRow) None → change_fits schema c ≡ true
    fits o at true y z = ap (λ (w : Option Table). option_map_or (λ (t : Table). fits_table t c) w false) (find_at (λ (t : Table). bytes_eq t.name (table_name c)) schema.tables ∙ at) ∙ y
    fits o at false y z = absurd cc

    go : (b : Bool) → nat_lt (position_or_len (λ (t : Table). bytes_eq t.name (table_name c)) schema.tables) (length schema.tables) ≡ b → change_fits schema c ≡ true
    go true x = fits (slice_get schema.tables (position_or_len (λ (t : Table). bytes_eq t.name (table_name c)) schema.tables)) refl
        (option_map_or (λ (t : Table). fits_table t c) (slice_get schema.tables (position_or_len (λ (t : Table). bytes_eq t.name (table_name c)) schema.tables)) false) refl (let u = rw x at is in u)
    go false x = absurd (let u = rw x at is in cc)

pub checked_fit : (schema : Schema) (tables : Tables) (changes : List Change) → check schema tables changes ≡ None → list_all (change_fits schema) changes ≡ true
checked_fit schema tables [] is = refl
checked_fit schema tables (c ∷ changes) is = go (refusal_of schema tables c) refl is (checked_fit schema (changed schema tables c) changes)
  where
    go : (o : Option RowRefusal) → refusal_of schema tables c ≡ o → ◌≡◌ {A = Option RowRefusal} (elim o [ None ↦ check schema (changed schema tables c) changes | Some r ↦ Some r ]) None
        → (check schema (changed schema tables c) changes ≡ None → list_all (change_fits schema) changes ≡ true) → list_all (change_fits schema) (c ∷ changes) ≡ true
    go (Some r) x y rest = absurd cc
    go None x y rest = let here = change_is_fit schema tables c x in rw here (rest y)

pub number_fits : (g : ℕ) → is_none (if nat_lt g (2 ^ 63 - 2) then Some (g + 1) else None) ≡ false → is_number (unwrap_or (if nat_lt g (2 ^ 63 - 2) then Some (g + 1) else None) 0) ≡ true
number_fits g is = go (nat_lt g (2 ^ 63 - 2)) refl is
  where
    go : (b : Bool) → nat_lt g (2 ^ 63 - 2) ≡ b → is_none (if b then Some (g + 1) else None) ≡ false → is_number (unwrap_or (if b then Some (g + 1) else None) 0) ≡ true
    go true x y = let a : nat_le 1 (g + 1) ≡ true = grind (arith, nat_tests) in let b : nat_le (g + 1) (2 ^ 63 - 2) ≡ true = grind (arith, nat_tests, x) in rw (a, b) refl
    go false x y = absurd (let z : true ≡ false = y in cc)
