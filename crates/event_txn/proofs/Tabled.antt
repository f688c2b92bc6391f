-- What a change of a transaction that fits has: its table's place, and that its two bodies are due and short.
use Rattle.std.proofs.Common.{◌≡◌, ℕ, zero, suc, ◌^◌, ◌<◌, ◌≤◌, true, false, List, [], ◌∷◌, length, Some, arith}
use Rattle.std.specs.Prelude.{◌&&◌, ◌||◌, not, slice_get, unwrap_or, nat_le, nat_lt}
use Rattle.std.specs.List.{list_all, list_any}
use Rattle.event_frame.specs.Forms.{Spells}
use Rattle.event_frame.specs.Events.{size_of}
use Rattle.std.proofs.lemmas.Bool.{ltb-false, leb-true}
use Rattle.ring_types.specs.Names.{is_name}
use Rattle.ring_types.specs.Rings.{is_schema, schema_fits, table_fits, column_fits, bad_table, bad_schema}
use Rattle.ring_types.specs.declared.limits.TheConstants.{MOST_COLUMNS, MOST_TABLES, NAME_BYTES}
use Rattle.ring_types.specs.Rows.{place_in, table_name, change_fits}
use Rattle.ring_types.specs.declared.values.Change.{Change}
use Rattle.ring_types.specs.declared.schemas.Table.{Table}
use Rattle.ring_types.specs.declared.schemas.Schema.{Schema}
use Rattle.event_txn.specs.Tables.{table_at, no_table, map_form, map_body}
use Rattle.event_txn.specs.Rows.{kind_of, rows_body}
use Rattle.event_txn.specs.Txns.{IsDue, due_rows}
use Rattle.event_txn.specs.Laws.{FitsChange}
use Rattle.event_txn.proofs.KeyImages.{both}
use Rattle.event_txn.proofs.Lengths.{map_length, map_small, row_length, row_small, metadata_few}
use Rattle.event_txn.proofs.Places.{has_place}
use Rattle.event_txn.proofs.Lawful.{either, negated}
use Rattle.event_txn.proofs.SpelledBodies.{map_spelled}
use Rattle.event_txn.proofs.SpelledRows.{row_due}

pub record Tabled (schema : Schema) (c : Change) : Type 0 where
  pub place : ℕ
  pub within : place < length schema.tables
  pub found : place_in schema (table_name c) ≡ Some place
  pub row : IsDue (due_rows schema place (kind_of c) 0) (rows_body place (table_at schema place) c) c
  pub small : size_of (rows_body place (table_at schema place) c) < 2 ^ 32
  pub map : Spells (map_form schema) (map_body schema place) place
  pub map_small : size_of (map_body schema place) < 2 ^ 32

-- a table of a schema
pub record FitsTable (t : Table) : Type 0 where
  pub name : length t.name ≤ 64
  pub columns : list_all column_fits t.columns ≡ true
  pub some : 1 ≤ length t.columns
  pub few : length t.columns ≤ 64

name_short : (name : List ℕ) → is_name name ≡ true → length name ≤ 64
name_short name h = leb-true _ _ (both (nat_le 1 (length name)) (nat_le (length name) NAME_BYTES) (both (nat_le 1 (length name) && nat_le (length name) NAME_BYTES) _ h).0).1

one_table : (t : Table) → table_fits t ≡ true → bad_table t ≡ false → FitsTable t
one_table t h k =
    let p = both (is_name t.name) (list_all column_fits t.columns) h in
    let a = either (nat_lt (length t.columns) 1 || nat_lt MOST_COLUMNS (length t.columns)) _ k in
    let b = either (nat_lt (length t.columns) 1) (nat_lt MOST_COLUMNS (length t.columns)) a.0 in
    record { name = name_short t.name p.0; columns = p.1; some = ltb-false _ _ b.0; few = ltb-false _ _ b.1 }

table_facts : (tables : List Table) (place : ℕ) → list_all table_fits tables ≡ true → list_any bad_table tables ≡ false → place < length tables → FitsTable (unwrap_or (slice_get tables place) no_table)
table_facts [] place h k lt = absurd (omega (arith, lt))
table_facts (t ∷ tables) zero h k lt = one_table t (both (table_fits t) (list_all table_fits tables) h).0 (either (bad_table t) (list_any bad_table tables) k).0
table_facts (t ∷ tables) (suc place) h k lt =
    table_facts tables place (both (table_fits t) (list_all table_fits tables) h).1 (either (bad_table t) (list_any bad_table tables) k).1 (omega (arith, lt))

-- a built ring's schema
pub record FitsSchema (schema : Schema) : Type 0 where
  pub database : length schema.database ≤ 64
  pub few : length schema.tables ≤ 256
  pub table : (place : ℕ) → place < length schema.tables → FitsTable (table_at schema place)

pub schema_facts : (schema : Schema) → is_schema schema ≡ true → FitsSchema schema
schema_facts schema h =
    let s = both (schema_fits schema && nat_le (length schema.tables) MOST_TABLES) (not (bad_schema schema)) h in
    let p = both (schema_fits schema) (nat_le (length schema.tables) MOST_TABLES) s.0 in
    let q = both (is_name schema.database) (list_all table_fits schema.tables) p.0 in
    let bad = either _ (list_any bad_table schema.tables) (negated (bad_schema schema) s.1) in
    record {
      database = name_short schema.database q.0;
      few = leb-true _ _ p.1;
      table = λ place lt. table_facts schema.tables place q.1 bad.1 lt;
    }

pub tabled : (schema : Schema) (c : Change) → is_schema schema ≡ true → change_fits schema c ≡ true → FitsChange c → Tabled schema c
tabled schema c h k fits =
    let p = has_place schema c k in
    let s = schema_facts schema h in
    let t : Table = table_at schema p.place in
    let f = s.table p.place p.within in
    let small = row_small t c f.columns f.some f.few p.fits in
    let size = row_length p.place t c f.columns f.some f.few p.fits in
    let map_size = map_length schema p.place f.few in
    let map_most = map_small schema t s.database f.name f.few in
    record {
      place = p.place;
      within = p.within;
      found = p.found;
      row = row_due schema p.place c (record { columns = f.columns; some = f.some; few = f.few; fits = p.fits }) p.name fits;
      small = omega (arith, size, small);
      map = map_spelled schema p.place p.within (omega (arith, p.within, s.few)) (omega (arith, f.few)) (omega (arith, metadata_few t.columns, f.few));
      map_small = omega (arith, map_size, map_most);
    }
