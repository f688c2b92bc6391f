-- The events of a transaction are spelled by its form: one event behind another, by induction over the changes.
use Rattle.std.proofs.Common.{◌≡◌, ℕ, zero, suc, ◌+◌, ◌^◌, ◌<◌, ◌≤◌, true, List, [], ◌∷◌, ◌++◌, length, Some, None, Result, Ok, refl, sym, ap, ◌∙◌, zero-add, arith}
use Rattle.std.specs.Prelude.{nat_le}
use Rattle.std.specs.List.{list_all}
use Rattle.std.proofs.lemmas.Bool.{leb-true, le-leb}
use Rattle.std.proofs.lemmas.List.{append-nil, length-append}
use Rattle.event_frame.specs.Forms.{Spells, front_of}
use Rattle.event_frame.proofs.Forms.{spelled_is_read}
use Rattle.event_frame.specs.Events.{event, size_of}
use Rattle.ring_types.specs.Rings.{is_schema}
use Rattle.ring_types.specs.Rows.{change_fits}
use Rattle.ring_types.specs.declared.limits.TheConstants.{LAST_GTID}
use Rattle.ring_types.specs.declared.values.Gtid.{Gtid}
use Rattle.ring_types.specs.declared.values.Change.{Change}
use Rattle.ring_types.specs.declared.values.Txn.{Txn}
use Rattle.ring_types.specs.declared.entries.Place.{Place}
use Rattle.ring_types.specs.declared.schemas.Schema.{Schema}
use Rattle.event_txn.specs.declared.faults.TxnError.{TxnError}
use Rattle.event_txn.specs.declared.faults.TxnError.TheVariants as error
use Rattle.event_txn.specs.declared.reading.TxnRead.{TxnRead}
use Rattle.event_txn.specs.Bodies.{gtid_body, begin_body, xid_body}
use Rattle.event_txn.specs.Tables.{table_at, map_body}
use Rattle.event_txn.specs.Rows.{kind_of, rows_body}
use Rattle.event_txn.specs.Txns.{Due, Typed, IsDue, IsEvent, due_gtid, due_begin, due_table, due_rows, due_more, changes_form, txn_form, change_bodies, changes_bodies, txn_bodies, events_from, behind, txn_events, txn_at, value_of}
use Rattle.event_txn.specs.Laws.{FitsChanges, IsTxn, WrittenIsRead, NoneBeginsAnother}
use Rattle.event_txn.proofs.KeyImages.{both}
use Rattle.event_txn.proofs.Lengths.{gtid_length}
use Rattle.event_txn.proofs.Events.{bodies_at}
use Rattle.event_txn.proofs.Lawful.{txn_fields}
use Rattle.event_txn.proofs.OneEvent.{event_length}
use Rattle.event_txn.proofs.Tabled.{Tabled, tabled}
use Rattle.event_txn.proofs.SpelledBodies.{gtid_spelled, begin_spelled}

-- an event that is due
event_spelled : {A : Type 0} (at offset kind : ℕ) (due : ℕ → ℕ → Due A) (body : List ℕ) (a : A) → IsDue (due kind 0) body a → size_of body < 2 ^ 32 → IsEvent at offset due (event kind 0 body (at + offset)) (a, offset + size_of body)
event_spelled at offset kind due body a h small = (kind, 0, body, h, refl, refl, omega arith, small)

abbrev pub ending : Schema → ℕ → List Change → List Typed
ending schema position changes = changes_bodies schema changes ++ (16, xid_body position) ∷ []

-- the row of a change, and all that stands behind it
abbrev pub from_row : Schema → ℕ → Change → ℕ → List Change → List Typed
from_row schema position c place changes = (kind_of c, rows_body place (table_at schema place) c) ∷ ending schema position changes

pub moved : (at offset size : ℕ) (es : List Typed) → events_from (at + offset + size) es ≡ events_from (at + (offset + size)) es
moved at offset size es = let e : at + offset + size ≡ at + (offset + size) = omega arith in ap (λ (n : ℕ). events_from n es) e

-- each change, with the table that it names
abbrev AllTabled : Schema → List Change → Type 0
AllTabled schema [] = Unit {0}
AllTabled schema (c ∷ changes) = Tabled schema c × AllTabled schema changes

changes_spelled : (count : ℕ) (schema : Schema) (position at : ℕ) (c : Change) (changes : List Change) (offset : ℕ) (t : Tabled schema c) → AllTabled schema changes → length changes < count
    → Spells (changes_form count schema position at t.place offset) (events_from (at + offset) (from_row schema position c t.place changes)) (c ∷ changes, behind offset (from_row schema position c t.place changes))
changes_spelled zero schema position at c changes offset t ts lt = absurd (omega (arith, lt))
changes_spelled (suc n) schema position at c [] offset t ts lt =
    let body : List ℕ = rows_body t.place (table_at schema t.place) c in
    let o2 : ℕ = offset + size_of body in
    let last : List ℕ = event 16 0 (xid_body position) (at + o2) in (
      (c, o2),
      event (kind_of c) 0 body (at + offset),
      last ++ [],
      event_spelled at offset (kind_of c) (due_rows schema t.place) body c t.row t.small,
      ((None, o2 + 31), last, [], event_spelled at o2 16 (due_more schema position) (xid_body position) None (tt, (tt, refl), refl) (omega arith), (([], o2 + 31), [], [], (refl, refl), (refl, refl), refl), refl),
      ap (λ (x : List ℕ). event (kind_of c) 0 body (at + offset) ++ x) (moved at offset (size_of body) ((16, xid_body position) ∷ [])),
    )
changes_spelled (suc n) schema position at c (d ∷ changes) offset t ts lt =
    let body : List ℕ = rows_body t.place (table_at schema t.place) c in
    let u = ts.0 in
    let map : List ℕ = map_body schema u.place in
    let o2 : ℕ = offset + size_of body in
    let o3 : ℕ = o2 + size_of map in
    let rest : List ℕ = events_from (at + o3) (from_row schema position d u.place changes) in
    let first : List ℕ = event (kind_of c) 0 body (at + offset) in
    let table : List ℕ = event 19 0 map (at + o2) in
    let these : ending schema position (d ∷ changes) ≡ (19, map) ∷ from_row schema position d u.place changes =
    ap (λ (es : List Typed). es ++ changes_bodies schema changes ++ (16, xid_body position) ∷ []) (bodies_at schema d u.place u.found) in
    let text : events_from (at + offset) (from_row schema position c t.place (d ∷ changes)) ≡ first ++ (table ++ rest) =
    ap (λ (x : List ℕ). first ++ x) (moved at offset (size_of body) (ending schema position (d ∷ changes)) ∙ ap (events_from (at + o2)) these ∙ ap (λ (x : List ℕ). table ++ x) (moved at o2 (size_of map) (from_row schema position d u.place changes))) in
    let end : behind o3 (from_row schema position d u.place changes) ≡ behind offset (from_row schema position c t.place (d ∷ changes)) = ap (behind o2) (sym these) in
    let others = changes_spelled n schema position at d changes o3 u ts.1 (omega (arith, lt)) in (
      (c, o2),
      first,
      table ++ rest,
      event_spelled at offset (kind_of c) (due_rows schema t.place) body c t.row t.small,
      (
        (Some u.place, o3),
        table,
        rest,
        event_spelled at o2 19 (due_more schema position) map (Some u.place) (u.place, u.map, refl) u.map_small,
        ((d ∷ changes, behind o3 (from_row schema position d u.place changes)), rest, [], others, (refl, ap (λ (e : ℕ). (c ∷ d ∷ changes, e)) end), sym (append-nil rest)),
        refl,
      ),
      text,
    )

-- ---- the whole

gtid_due : (schema : Schema) (txn : Txn) (sequence : ℕ) → IsTxn schema txn → 1 ≤ sequence → 1 ≤ length schema.tables → IsDue (due_gtid schema sequence 33 0) (gtid_body sequence txn.gtid) txn.gtid
gtid_due schema txn sequence is some tables =
    let a : nat_le 1 sequence ≡ true = le-leb 1 sequence some in
    let b : nat_le 1 (length schema.tables) ≡ true = le-leb 1 (length schema.tables) tables in
    let n = both (nat_le 1 txn.gtid.number) (nat_le txn.gtid.number LAST_GTID) is.number in
    rw (a, b) (txn.gtid, gtid_spelled sequence txn.gtid is.server (omega (arith, leb-true _ _ n.1)) is.number, refl)

-- the transaction of this GTID and these changes
abbrev made : Gtid → Change → List Change → Txn
made g c changes = record { gtid = g; changes = c ∷ changes }

pub start : (at : ℕ) (es : List Typed) → events_from at es ≡ events_from (at + 0) es
start at es = let e : at ≡ at + 0 = omega arith in ap (λ (n : ℕ). events_from n es) e

txn_spelled : (count : ℕ) (schema : Schema) (g : Gtid) (c : Change) (changes : List Change) (position : ℕ) (place : Place) (t : Tabled schema c) → IsTxn schema (made g c changes) → 1 ≤ place.sequence → 1 ≤ length schema.tables
    → AllTabled schema changes → length changes < count
    → Spells (txn_form count schema position place) (txn_events schema (made g c changes) position place) (record { txn = made g c changes; size = behind 0 (txn_bodies schema (made g c changes) position place.sequence) })
unfolding txn_events
txn_spelled count schema g c changes position place t is some tables ts lt =
    let at : ℕ = place.at in
    let gb : List ℕ = gtid_body place.sequence g in
    let map : List ℕ = map_body schema t.place in
    let rows : List Typed = from_row schema position c t.place changes in
    let o1 : ℕ = 0 + size_of gb in
    let o2 : ℕ = o1 + size_of begin_body in
    let o3 : ℕ = o2 + size_of map in
    let e1 : List ℕ = event 33 0 gb (at + 0) in
    let e2 : List ℕ = event 2 0 begin_body (at + o1) in
    let e3 : List ℕ = event 19 0 map (at + o2) in
    let rest : List ℕ = events_from (at + o3) rows in
    let these : ending schema position (c ∷ changes) ≡ (19, map) ∷ rows = ap (λ (es : List Typed). es ++ changes_bodies schema changes ++ (16, xid_body position) ∷ []) (bodies_at schema c t.place t.found) in
    let all : txn_bodies schema (made g c changes) position place.sequence ≡ (33, gb) ∷ (2, begin_body) ∷ (19, map) ∷ rows = ap (λ (es : List Typed). (33, gb) ∷ (2, begin_body) ∷ es) these in
    let text : txn_events schema (made g c changes) position place ≡ e1 ++ (e2 ++ (e3 ++ rest)) =
    ap (events_from at) all ∙ start at ((33, gb) ∷ (2, begin_body) ∷ (19, map) ∷ rows)
    ∙ ap (λ (x : List ℕ). e1 ++ x) (moved at 0 (size_of gb) ((2, begin_body) ∷ (19, map) ∷ rows)
    ∙ ap (λ (x : List ℕ). e2 ++ x) (moved at o1 (size_of begin_body) ((19, map) ∷ rows) ∙ ap (λ (x : List ℕ). e3 ++ x) (moved at o2 (size_of map) rows))) in
    let end : behind o3 rows ≡ behind 0 (txn_bodies schema (made g c changes) position place.sequence) = ap (behind 0) (sym all) in
    let changes_are = changes_spelled count schema position at c changes o3 t ts lt in
    let short : size_of gb < 2 ^ 32 = omega (arith, gtid_length place.sequence g) in (
      (g, o1),
      e1,
      e2 ++ (e3 ++ rest),
      event_spelled at 0 33 (due_gtid schema place.sequence) gb g (gtid_due schema (made g c changes) place.sequence is some tables) short,
      (
        (tt, o2),
        e2,
        e3 ++ rest,
        event_spelled at o1 2 due_begin begin_body tt (tt, begin_spelled, refl) (omega arith),
        (
          (t.place, o3),
          e3,
          rest,
          event_spelled at o2 19 (due_table schema) map t.place (t.place, t.map, refl) t.map_small,
          ((c ∷ changes, behind o3 rows), rest, [], changes_are, (refl, ap (λ (n : ℕ). record { txn = made g c changes; size = n }) end), sym (append-nil rest)),
          refl,
        ),
        refl,
      ),
      text,
    )

-- ---- sizes

pub behind_length : (at offset : ℕ) (es : List Typed) → offset + length (events_from at es) ≡ behind offset es
behind_length at offset [] = omega arith
behind_length at offset (e ∷ es) =
    let one = event_length e.0 0 at e.1 in
    let more = behind_length (at + size_of e.1) (offset + size_of e.1) es in
    let sum : offset + length (events_from at (e ∷ es)) ≡ offset + size_of e.1 + length (events_from (at + size_of e.1) es) = omega (arith, length-append (event e.0 0 e.1 at) (events_from (at + size_of e.1) es), one) in
    sum ∙ more

many_events : (at : ℕ) (es : List Typed) → length es ≤ length (events_from at es)
many_events at [] = omega arith
many_events at (e ∷ es) = omega (arith, length-append (event e.0 0 e.1 at) (events_from (at + size_of e.1) es), event_length e.0 0 at e.1, many_events (at + size_of e.1) es)

many_bodies : (schema : Schema) (changes : List Change) → AllTabled schema changes → length changes ≤ length (changes_bodies schema changes)
many_bodies schema [] ts = omega arith
many_bodies schema (c ∷ changes) ts =
    let two : length (change_bodies schema c) ≡ 2 = ap length (bodies_at schema c ts.0.place ts.0.found) in
    omega (arith, length-append (change_bodies schema c) (changes_bodies schema changes), two, many_bodies schema changes ts.1)

all_tabled : (schema : Schema) (changes : List Change) → is_schema schema ≡ true → list_all (change_fits schema) changes ≡ true → FitsChanges changes → AllTabled schema changes
all_tabled schema [] h k fits = tt
all_tabled schema (c ∷ changes) h k fits =
    let p = both (change_fits schema c) (list_all (change_fits schema) changes) k in
    (tabled schema c h p.0 fits.0, all_tabled schema changes h p.1 fits.1)

abbrev read_of : Schema → Txn → ℕ → Place → TxnRead
read_of schema txn position place = record { txn = txn; size = length (txn_events schema txn position place) }

front_again : (schema : Schema) (g : Gtid) (changes : List Change) (position : ℕ) (place : Place) (rest : List ℕ) → IsTxn schema (record { gtid = g; changes = changes }) → 1 ≤ place.sequence
    → front_of (error.Order 0) (txn_form (length (txn_events schema (record { gtid = g; changes = changes }) position place ++ rest)) schema position place) (txn_events schema (record { gtid = g; changes = changes }) position place ++ rest)
    ≡ Ok (read_of schema (record { gtid = g; changes = changes }) position place, rest)
unfolding txn_events
front_again schema g [] position place rest is some = absurd (let h = is.fit in cc)
front_again schema g (c ∷ changes) position place rest is some =
    let p = both (nat_le 1 (length (c ∷ changes))) (list_all (change_fits schema) (c ∷ changes)) is.fit in
    let ts = all_tabled schema (c ∷ changes) is.tables p.1 is.values in
    let txn : Txn = made g c changes in
    let text : List ℕ = txn_events schema txn position place in
    let count : ℕ = length (text ++ rest) in
    let bodies : List Typed = txn_bodies schema txn position place.sequence in
    let within : ts.0.place < length schema.tables = ts.0.within in
    let lt : length changes < count = omega (arith, length-append text rest, many_events place.at bodies, many_bodies schema (c ∷ changes) ts, length-append (changes_bodies schema (c ∷ changes)) ((16, xid_body position) ∷ [])) in
    let spelled = txn_spelled count schema g c changes position place ts.0 is some (omega (arith, within)) ts.1 lt in
    let size : behind 0 bodies ≡ length text = sym (behind_length place.at 0 bodies) ∙ zero-add (length text) in
    spelled_is_read (error.Order 0) (txn_form count schema position place) text (record { txn = txn; size = behind 0 bodies }) rest (txn_fields count schema position place is.tables) spelled
    ∙ ap (λ (n : ℕ). Ok (record { txn = txn; size = n }, rest)) size

pub txn_again : WrittenIsRead
unfolding txn_at
txn_again schema txn position place rest is some = ap value_of (front_again schema txn.gtid txn.changes position place rest is some)

abbrev fine : TxnRead × List ℕ → Result (TxnRead × List ℕ) TxnError
fine p = Ok p

same_read : (p q : TxnRead × List ℕ) → fine p ≡ fine q → p ≡ q
same_read p q h = cc

pub none_begins_another : NoneBeginsAnother
none_begins_another schema a b position place x y isa isb some e =
    let fa = front_again schema a.gtid a.changes position place x isa some in
    let fb = front_again schema b.gtid b.changes position place y isb some in
    let read : List ℕ → Result (TxnRead × List ℕ) TxnError = λ bytes. front_of (error.Order 0) (txn_form (length bytes) schema position place) bytes in
    let same : (read_of schema a position place, x) ≡ (read_of schema b position place, y) = same_read _ _ (sym fa ∙ ap read e ∙ fb) in
    (ap (λ (p : TxnRead × List ℕ). p.0.txn) same, ap (λ (p : TxnRead × List ℕ). p.1) same)
