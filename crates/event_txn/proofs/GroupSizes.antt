-- The events of a transaction have the size that is told of its group, but for the opid event: each change has the sizes of its two events.
use Rattle.std.proofs.Common.{◌≡◌, ℕ, ◌+◌, true, List, [], ◌∷◌, length, ap, arith}
use Rattle.std.specs.Prelude.{nat_le}
use Rattle.std.specs.List.{list_all}
use Rattle.std.specs.Option.{option_map_or}
use Rattle.std.proofs.lemmas.List.Sums.{sum_by-cons}
use Rattle.event_frame.specs.Events.{size_of}
use Rattle.ring_types.specs.Rings.{is_schema}
use Rattle.ring_types.specs.Rows.{change_fits}
use Rattle.ring_types.specs.Sizes.{table_map_size, rows_event_size, change_size, changes_size}
use Rattle.ring_types.specs.declared.values.Change.{Change}
use Rattle.ring_types.specs.declared.schemas.Table.{Table}
use Rattle.ring_types.specs.declared.schemas.Schema.{Schema}
use Rattle.event_txn.specs.Bodies.{gtid_body, xid_body}
use Rattle.event_txn.specs.Tables.{table_at, map_body}
use Rattle.event_txn.specs.Rows.{rows_body}
use Rattle.event_txn.specs.Txns.{Typed, change_bodies, changes_bodies, txn_bodies, behind, txn_events}
use Rattle.event_txn.specs.Laws.{EventsHaveSize}
use Rattle.event_txn.proofs.KeyImages.{both}
use Rattle.event_txn.proofs.Lengths.{gtid_length, map_length, row_length}
use Rattle.event_txn.proofs.Places.{has_place}
use Rattle.event_txn.proofs.Events.{bodies_at, behind-append}
use Rattle.event_txn.proofs.Tabled.{schema_facts}
use Rattle.event_txn.proofs.SpelledTxns.{behind_length}

change_behind : (schema : Schema) (c : Change) (n : ℕ) → is_schema schema ≡ true → change_fits schema c ≡ true → behind n (change_bodies schema c) ≡ n + change_size schema c
change_behind schema c n h k =
    let p = has_place schema c k in
    let t : Table = table_at schema p.place in
    let f = (schema_facts schema h).table p.place p.within in
    let size : change_size schema c ≡ table_map_size schema t + rows_event_size t c = ap (λ o. option_map_or (λ (x : Table). table_map_size schema x + rows_event_size x c) o 0) p.table in
    let map = map_length schema p.place f.few in
    let row = row_length p.place t c f.columns f.some f.few p.fits in
    let these : behind n (change_bodies schema c) ≡ n + size_of (map_body schema p.place) + size_of (rows_body p.place t c) = ap (behind n) (bodies_at schema c p.place p.found) in
    omega (arith, these, size, map, row)

changes_behind : (schema : Schema) (changes : List Change) (n : ℕ) → is_schema schema ≡ true → list_all (change_fits schema) changes ≡ true → behind n (changes_bodies schema changes) ≡ n + changes_size schema changes
changes_behind schema [] n h k = omega arith
changes_behind schema (c ∷ changes) n h k =
    let p = both (change_fits schema c) (list_all (change_fits schema) changes) k in
    let parts : behind n (changes_bodies schema (c ∷ changes)) ≡ behind (behind n (change_bodies schema c)) (changes_bodies schema changes) = behind-append n (change_bodies schema c) (changes_bodies schema changes) in
    let rest = changes_behind schema changes (behind n (change_bodies schema c)) h p.1 in
    omega (arith, parts, rest, change_behind schema c n h p.0, sum_by-cons (change_size schema) c changes)

pub txn_length : EventsHaveSize
unfolding txn_events
txn_length schema txn position place h fit =
    let p = both (nat_le 1 (length txn.changes)) (list_all (change_fits schema) txn.changes) fit in
    let bodies : List Typed = txn_bodies schema txn position place.sequence in
    let n : ℕ = 0 + size_of (gtid_body place.sequence txn.gtid) + 42 in
    let last : List Typed = (16, xid_body position) ∷ [] in
    let all : behind 0 bodies ≡ behind (behind n (changes_bodies schema txn.changes)) last = behind-append n (changes_bodies schema txn.changes) last in
    omega (arith, behind_length place.at 0 bodies, all, changes_behind schema txn.changes n h p.1, gtid_length place.sequence txn.gtid)
