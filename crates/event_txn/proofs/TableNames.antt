-- A table of a schema is found by its name, at its own place, since no two tables have one name.
use Rattle.std.proofs.Common.{◌≡◌, ℕ, zero, suc, ◌+◌, ◌<◌, Bool, true, false, List, [], ◌∷◌, length, Some, refl, sym, ap, ◌∙◌, arith}
use Rattle.std.specs.Prelude.{◌&&◌, not, nat_le, nat_lt, map, bytes_eq, slice_get, unwrap_or}
use Rattle.std.specs.List.{list_any, position_or_len}
use Rattle.std.proofs.lemmas.Bool.{lt-ltb}
use Rattle.std.proofs.lemmas.List.Folds.{find_at}
use Rattle.std.proofs.lemmas.Slice.Eq.{bytes_eq-Decides}
use Rattle.ring_types.specs.Names.{has_text_twice}
use Rattle.ring_types.specs.Rings.{is_schema, schema_fits, bad_schema, bad_table}
use Rattle.ring_types.specs.Rows.{place_in, table_of}
use Rattle.ring_types.specs.declared.limits.TheConstants.{MOST_TABLES}
use Rattle.ring_types.specs.declared.schemas.Table.{Table}
use Rattle.ring_types.specs.declared.schemas.Schema.{Schema}
use Rattle.event_txn.specs.Tables.{table_at, no_table}
use Rattle.event_txn.proofs.KeyImages.{both}
use Rattle.event_txn.proofs.Lawful.{either, negated}

abbrev named : List ℕ → Table → Bool
named name t = bytes_eq t.name name

differ : (b : Bool) → b ≡ true → b ≡ false → ⊥
differ b h k = cc

turned : (b : Bool) (x y : List ℕ) → bytes_eq x y ≡ b → bytes_eq y x ≡ false → bytes_eq x y ≡ false
turned true x y e f = absurd (differ (bytes_eq y x) ((bytes_eq-Decides y x).1 (sym ((bytes_eq-Decides x y).0 e))) f)
turned false x y e f = e

other_name : (b : Bool) (x y : List ℕ) → bytes_eq y x ≡ b → b ≡ false → bytes_eq x y ≡ false
other_name b x y e f = turned (bytes_eq x y) x y refl (e ∙ f)

none_named : (tables : List Table) (name : List ℕ) (place : ℕ) → list_any (λ y. bytes_eq y name) (map (λ (x : Table). x.name) tables) ≡ false → place < length tables → bytes_eq (unwrap_or (slice_get tables place) no_table).name name ≡ false
none_named [] name place h lt = absurd (omega (arith, lt))
none_named (t ∷ tables) name zero h lt = (either (bytes_eq t.name name) _ h).0
none_named (t ∷ tables) name (suc place) h lt = none_named tables name place (either (bytes_eq t.name name) _ h).1 (omega (arith, lt))

first_at : (tables : List Table) (place : ℕ) → has_text_twice (map (λ (t : Table). t.name) tables) ≡ false → place < length tables → position_or_len (named (unwrap_or (slice_get tables place) no_table).name) tables ≡ place
first_at [] place h lt = absurd (omega (arith, lt))
first_at (t ∷ tables) zero h lt = rw ((bytes_eq-Decides t.name t.name).1 refl) refl
first_at (t ∷ tables) (suc place) h lt =
    let p = either (list_any (λ y. bytes_eq y t.name) (map (λ (x : Table). x.name) tables)) _ h in
    let less : place < length tables = omega (arith, lt) in
    let other : bytes_eq t.name (unwrap_or (slice_get tables place) no_table).name ≡ false = other_name _ t.name _ refl (none_named tables t.name place p.0 less) in
    rw other (ap (λ (n : ℕ). 1 + n) (first_at tables place p.1 less) ∙ omega arith)

there : (tables : List Table) (place : ℕ) → place < length tables → slice_get tables place ≡ Some (unwrap_or (slice_get tables place) no_table)
there [] place lt = absurd (omega (arith, lt))
there (t ∷ tables) zero lt = refl
there (t ∷ tables) (suc place) lt = there tables place (omega (arith, lt))

pub record IsNamed (schema : Schema) (place : ℕ) (name : List ℕ) : Type 0 where
  pub found : place_in schema name ≡ Some place
  pub table : table_of schema name ≡ Some (table_at schema place)

pub is_named : (schema : Schema) (place : ℕ) → is_schema schema ≡ true → place < length schema.tables → IsNamed schema place (table_at schema place).name
is_named schema place h lt =
    let s = both (schema_fits schema && nat_le (length schema.tables) MOST_TABLES) (not (bad_schema schema)) h in
    let apart = (either _ (list_any bad_table schema.tables) (negated (bad_schema schema) s.1)).0 in
    let name : List ℕ = (table_at schema place).name in
    let first : position_or_len (named name) schema.tables ≡ place = first_at schema.tables place apart lt in
    let test : nat_lt place (length schema.tables) ≡ true = lt-ltb place (length schema.tables) lt in
    record {
      found = rw (first, test) refl;
      table = find_at (named name) schema.tables ∙ ap (slice_get schema.tables) first ∙ there schema.tables place lt;
    }
