-- The definitions walk the changes from the front, so what the first of them make of the tables is where the check of the others begins.
use Rattle.std.proofs.Common.{◌≡◌, ◌∙◌, ℕ, zero, suc, ◌+◌, ◌<◌, List, [], ◌∷◌, ◌++◌, Option, length, get_or, take, drop, refl, ap, sym, arith}
use native.Mathlib.Numerals.{unary_clauses}
use Rattle.std.specs.Prelude.{None, Some, is_some}
use Rattle.ring_types.specs.Rows.{Rows, Tables, all_changed, change_key, changed, check, has_key, key_refusal, place_in, refusal_of, row_of, rows_at}
use Rattle.ring_types.specs.declared.schemas.Schema.{Schema}
use Rattle.ring_types.specs.declared.values.Change.{Change}
use Rattle.ring_types.specs.declared.values.Change.TheVariants.{Insert, Update, Delete}
use Rattle.ring_types.specs.declared.values.Value.{Value}
use Rattle.row_engine.specs.LastChange.{last_change, refused_key, row_after, row_left}
use Rattle.row_engine.proofs.Decided.{decided}
use Rattle.row_engine.proofs.RowAfter.{has_row}

pub all_changed_both : (schema : Schema) (tables : Tables) (first rest : List Change)
    → all_changed schema tables (first ++ rest) ≡ all_changed schema (all_changed schema tables first) rest
all_changed_both schema tables [] rest = refl
all_changed_both schema tables (c ∷ first) rest = all_changed_both schema (changed schema tables c) first rest

-- ---- one step of a check
pub accepted_more : (schema : Schema) (tables : Tables) (changes : List Change) (i : ℕ) (c : Change) → i < length changes
    → refusal_of schema (all_changed schema tables (take i changes)) (get_or changes i c) ≡ None
    → check schema (all_changed schema tables (take i changes)) (drop i changes)
    ≡ check schema (all_changed schema tables (take (i + 1) changes)) (drop (i + 1) changes)
accepted_more schema tables [] i c within h = absurd (omega arith)
accepted_more schema tables (d ∷ changes) zero c within h = rw (h, check) refl
accepted_more schema tables (d ∷ changes) (suc i) c within h =
    let rest = accepted_more schema (changed schema tables d) changes i c (omega arith) h in simp unary_clauses (simp unary_clauses at rest)

-- ---- what a change meets at its key
pub key_decides : (rows : Rows) (c : Change) → key_refusal rows c ≡ refused_key (has_key rows (change_key c)) c
key_decides rows (Insert table row) = refl
key_decides rows (Update table row) = refl
key_decides rows (Delete table key) = refl

pub there_by_last : (schema : Schema) (tables : Tables) (earlier : List Change) (name : List ℕ) (place : ℕ) (key : Value) (c : Change)
    → length tables ≡ length schema.tables → place_in schema name ≡ Some place
    → last_change name key earlier ≡ Some c → is_some (row_left c) ≡ has_key (rows_at (all_changed schema tables earlier) place) key
there_by_last schema tables earlier name place key c len at last =
    let d = decided schema tables earlier name place key len at in
    let h = has_row (rows_at (all_changed schema tables earlier) place) key in
    sym (h ∙ ap is_some (d ∙ ap (λ (o : Option Change). row_after o (row_of (rows_at tables place) key)) last))

pub there_by_rows : (schema : Schema) (tables : Tables) (earlier : List Change) (name : List ℕ) (place : ℕ) (key : Value)
    → length tables ≡ length schema.tables → place_in schema name ≡ Some place
    → last_change name key earlier ≡ None → has_key (rows_at tables place) key ≡ has_key (rows_at (all_changed schema tables earlier) place) key
there_by_rows schema tables earlier name place key len at last =
    let d = decided schema tables earlier name place key len at in
    let h = has_row (rows_at (all_changed schema tables earlier) place) key in
    has_row (rows_at tables place) key ∙ sym (h ∙ ap is_some (d ∙ ap (λ (o : Option Change). row_after o (row_of (rows_at tables place) key)) last))
