-- A valid log refuses no transaction, so its rows are what all its changes make of empty tables, and there the last change decides.
use Rattle.std.proofs.Common.{◌≡◌, ◌∙◌, ℕ, zero, suc, List, [], ◌∷◌, true, map, refl, ap, sym}
use Rattle.std.proofs.lemmas.Bool.{and_parts}
use Rattle.std.proofs.lemmas.List.{length-map}
use Rattle.std.specs.Prelude.{slice_get, unwrap_or}
use Rattle.ring_types.specs.Rows.{Tables, after_payload, all_changed, empty_tables, is_valid, is_valid_from, no_rows, payload_is_accepted, row_of, rows, rows_at, rows_from}
use Rattle.ring_types.specs.declared.entries.Entry.{Entry}
use Rattle.ring_types.specs.declared.entries.Payload.{Payload}
use Rattle.ring_types.specs.declared.entries.Payload.TheVariants as payload
use Rattle.ring_types.specs.declared.schemas.Schema.{Schema}
use Rattle.ring_types.specs.declared.schemas.Table.{Table}
use Rattle.ring_types.specs.declared.values.Value.{Value}
use Rattle.row_engine.specs.Laws.{LastChangeDecides}
use Rattle.row_engine.specs.LastChange.{changes_in, changes_of, last_change, row_after}
use Rattle.row_engine.proofs.Checked.{all_changed_both}
use Rattle.row_engine.proofs.Decided.{decided}

-- an accepted payload makes all its changes
payload_changes : (schema : Schema) (tables : Tables) (p : Payload) → payload_is_accepted schema tables p ≡ true
    → after_payload schema tables p ≡ all_changed schema tables (changes_in p)
payload_changes schema tables payload.NoOp h = refl
payload_changes schema tables payload.Rotate h = refl
payload_changes schema tables (payload.Txn t) h = rw h refl

log_changes : (schema : Schema) (tables : Tables) (log : List Entry) → is_valid_from schema tables log ≡ true
    → rows_from schema tables log ≡ all_changed schema tables (changes_of log)
log_changes schema tables [] h = refl
log_changes schema tables (e ∷ log) h =
    let parts = and_parts (payload_is_accepted schema tables e.payload) (is_valid_from schema (after_payload schema tables e.payload) log) h in
    log_changes schema (after_payload schema tables e.payload) log parts.1
    ∙ ap (λ (t : Tables). all_changed schema t (changes_of log)) (payload_changes schema tables e.payload parts.0)
    ∙ sym (all_changed_both schema tables (changes_in e.payload) (changes_of log))

empty_at : (tables : List Table) (place : ℕ) → unwrap_or (slice_get (map no_rows tables) place) [] ≡ []
empty_at [] place = refl
empty_at (t ∷ tables) zero = refl
empty_at (t ∷ tables) (suc place) = empty_at tables place

pub last_change_decides : LastChangeDecides
unfolding is_valid rows
last_change_decides schema log valid table place at key =
    ap (λ (t : Tables). row_of (rows_at t place) key) (log_changes schema (empty_tables schema) log valid)
    ∙ decided schema (empty_tables schema) (changes_of log) table place key (length-map schema.tables no_rows) at
    ∙ ap (λ (r : List (List Value)). row_after (last_change table key (changes_of log)) (row_of r key)) (empty_at schema.tables place)
