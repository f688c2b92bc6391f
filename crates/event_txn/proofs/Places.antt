-- The table that a change names is found at a place: the first table that passes a test is the one at the first place that does.
use Rattle.std.proofs.Common.{◌≡◌, ℕ, ◌<◌, Bool, true, false, cond, List, [], ◌∷◌, length, Option, Some, None, refl, sym, ap, ◌∙◌, inl, inr}
use Rattle.std.specs.Prelude.{find, slice_get, unwrap_or, bytes_eq}
use Rattle.std.specs.List.{position_or_len}
use Rattle.std.specs.Option.{option_map_or}
use Rattle.std.proofs.lemmas.Bool.{cases_lt, lt-ltb}
use Rattle.std.proofs.lemmas.List.Folds.{find_at}
use Rattle.std.proofs.lemmas.Option.{slice_get_past}
use Rattle.std.proofs.lemmas.Slice.Eq.{bytes_eq-Decides}
use Rattle.ring_types.specs.Rows.{place_in, table_of, table_name, change_fits, fits_table}
use Rattle.ring_types.specs.declared.values.Change.{Change}
use Rattle.ring_types.specs.declared.schemas.Table.{Table}
use Rattle.ring_types.specs.declared.schemas.Schema.{Schema}
use Rattle.event_txn.specs.Tables.{table_at, no_table}

passes : {X : Type 0} (P : X → Bool) (o : Option X) (d : X) → option_map_or P o false ≡ true → P (unwrap_or o d) ≡ true
passes P (Some x) d h = h
passes P None d h = absurd cc

is_there : {X : Type 0} (P : X → Bool) (o : Option X) → option_map_or P o false ≡ true → o ≡ None → ⊥
is_there P (Some x) h e = cc
is_there P None h e = cc

there : {X : Type 0} (P : X → Bool) (o : Option X) (d : X) → option_map_or P o false ≡ true → o ≡ Some (unwrap_or o d)
there P (Some x) d h = refl
there P None d h = absurd cc

abbrev has_name : List ℕ → Table → Bool
has_name name t = bytes_eq t.name name

abbrev first_place : Schema → Change → ℕ
first_place schema c = position_or_len (has_name (table_name c)) schema.tables

first_passes : {X : Type 0} (b : Bool) (test : X → Bool) (x : X) (o : Option X) (d : X) → test x ≡ b → (cond b (Some x) o ≡ None → ⊥) → ((o ≡ None → ⊥) → test (unwrap_or o d) ≡ true) → test (unwrap_or (cond b (Some x) o) d) ≡ true
first_passes true test x o d e some rest = e
first_passes false test x o d e some rest = rest some

-- what is found passes
found_passes : {X : Type 0} (test : X → Bool) (xs : List X) (d : X) → (find test xs ≡ None → ⊥) → test (unwrap_or (find test xs) d) ≡ true
found_passes test [] d some = absurd (some refl)
found_passes test (x ∷ xs) d some = first_passes (test x) test x (find test xs) d refl some (found_passes test xs d)

pub record HasPlace (schema : Schema) (c : Change) : Type 0 where
  pub place : ℕ
  pub found : place_in schema (table_name c) ≡ Some place
  pub within : place < length schema.tables
  pub fits : fits_table (table_at schema place) c ≡ true
  pub name : (table_at schema place).name ≡ table_name c
  pub table : table_of schema (table_name c) ≡ Some (table_at schema place)

pub has_place : (schema : Schema) (c : Change) → change_fits schema c ≡ true → HasPlace schema c
has_place schema c h =
    let k : ℕ = first_place schema c in
    let at : option_map_or (λ (t : Table). fits_table t c) (slice_get schema.tables k) false ≡ true = rw (← find_at (has_name (table_name c)) schema.tables) h in
    let lt : k < length schema.tables = elim (cases_lt k (length schema.tables)) [
      | inl within ↦ within
      | inr past ↦ absurd (is_there (λ (t : Table). fits_table t c) (slice_get schema.tables k) at (slice_get_past schema.tables k past))
    ] in
    let some : find (has_name (table_name c)) schema.tables ≡ None → ⊥ = λ e. is_there (λ (t : Table). fits_table t c) (find (has_name (table_name c)) schema.tables) h e in
    let named : has_name (table_name c) (table_at schema k) ≡ true =
    ap (λ (o : Option Table). has_name (table_name c) (unwrap_or o no_table)) (sym (find_at (has_name (table_name c)) schema.tables)) ∙ found_passes (has_name (table_name c)) schema.tables no_table some in
    record {
      place = k;
      found = rw (lt-ltb k (length schema.tables) lt) refl;
      within = lt;
      fits = passes (λ (t : Table). fits_table t c) (slice_get schema.tables k) no_table at;
      table = there (λ (t : Table). fits_table t c) (find (has_name (table_name c)) schema.tables) no_table h ∙ ap (λ (o : Option Table). Some (unwrap_or o no_table)) (find_at (has_name (table_name c)) schema.tables);
      name = (bytes_eq-Decides (table_at schema k).name (table_name c)).0 named;
    }

some_is : (o : Option ℕ) (a b : ℕ) → o ≡ Some a → o ≡ Some b → a ≡ b
some_is o a b h k = cc

pub record IsPlace (schema : Schema) (c : Change) (place : ℕ) : Type 0 where
  pub within : place < length schema.tables
  pub fits : fits_table (table_at schema place) c ≡ true

pub is_place : (schema : Schema) (c : Change) (place : ℕ) → change_fits schema c ≡ true → place_in schema (table_name c) ≡ Some place → IsPlace schema c place
is_place schema c place h found =
    let p = has_place schema c h in
    let e : p.place ≡ place = some_is (place_in schema (table_name c)) p.place place p.found found in
    rw (← e) (record { within = p.within; fits = p.fits })

differ : (o : Option ℕ) (a : ℕ) → o ≡ Some a → o ≡ None → ⊥
differ o a h k = cc

pub no_place : (schema : Schema) (c : Change) → change_fits schema c ≡ true → place_in schema (table_name c) ≡ None → ⊥
no_place schema c h none = let p = has_place schema c h in differ (place_in schema (table_name c)) p.place p.found none
