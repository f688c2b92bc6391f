-- What is read is the events of a transaction that fits: each event is the only spelling of what is due there.
use Rattle.std.proofs.Common.{◌≡◌, ℕ, zero, suc, ◌+◌, ◌^◌, ◌<◌, ◌≤◌, true, false, List, [], ◌∷◌, ◌++◌, length, Option, Some, None, Result, Ok, Err, refl, sym, ap, ap₂, subst, ◌∙◌, zero-add, arith, inl, inr, ◌⊎◌}
use Rattle.std.specs.Prelude.{◌&&◌, ◌==◌, nat_le}
use Rattle.std.specs.List.{list_all}
use Rattle.std.specs.Option.{option_map_or}
use Rattle.std.proofs.lemmas.Bool.{leb-true, le-leb}
use Rattle.std.proofs.lemmas.List.{append-nil}
use Rattle.event_frame.specs.Forms.{Spells, front_of}
use Rattle.event_frame.specs.Events.{event, size_of}
use Rattle.event_frame.proofs.Forms.{read_is_spelled}
use Rattle.ring_types.specs.Rings.{is_schema}
use Rattle.ring_types.specs.Rows.{change_fits, is_number, place_in, table_name, table_of, fits_table}
use Rattle.ring_types.specs.declared.values.Gtid.{Gtid}
use Rattle.ring_types.specs.declared.values.Change.{Change}
use Rattle.ring_types.specs.declared.values.Txn.{Txn}
use Rattle.ring_types.specs.declared.entries.Place.{Place}
use Rattle.ring_types.specs.declared.schemas.Table.{Table}
use Rattle.ring_types.specs.declared.schemas.Schema.{Schema}
use Rattle.event_txn.specs.declared.faults.TxnError.{TxnError}
use Rattle.event_txn.specs.declared.faults.TxnError.TheVariants as error
use Rattle.event_txn.specs.declared.reading.TxnRead.{TxnRead}
use Rattle.event_txn.specs.Bodies.{gtid_form, gtid_body, begin_form, begin_body, xid_form, xid_body}
use Rattle.event_txn.specs.Tables.{table_at, map_form, map_body}
use Rattle.event_txn.specs.Rows.{kind_of, rows_body}
use Rattle.event_txn.specs.Txns.{Due, Nothing, Bodies, due_if, Typed, IsEvent, due_gtid, due_begin, due_table, due_rows, due_more, changes_behind, changes_form, txn_form, changes_bodies, txn_bodies, events_from, behind, txn_events, txn_at, value_of}
use Rattle.event_txn.specs.Laws.{FitsChange, FitsChanges, IsTxn, ReadIsAtFront}
use Rattle.event_txn.proofs.KeyImages.{both}
use Rattle.event_txn.proofs.Bitmaps.{both_true}
use Rattle.event_txn.proofs.Lawful.{txn_fields}
use Rattle.event_txn.proofs.Events.{bodies_at}
use Rattle.event_txn.proofs.TableNames.{is_named}
use Rattle.event_txn.proofs.Tabled.{schema_facts}
use Rattle.event_txn.proofs.SpelledTxns.{ending, from_row, moved, start, behind_length}
use Rattle.event_txn.proofs.TakenBodies.{gtid_is, begin_is, map_is}
use Rattle.event_txn.proofs.TakenRows.{due_of, typed, row_taken}

-- ---- events

record EventIs (at offset kind : ℕ) (body text : List ℕ) (end : ℕ) : Type 0 where
  pub text_is : text ≡ event kind 0 body (at + offset)
  pub end_is : end ≡ offset + size_of body

-- what an event is, once its type, its flags and its body are known
known_event : (at offset end kind flags n : ℕ) (body known text : List ℕ) → kind ≡ n → flags ≡ 0 → body ≡ known → text ≡ event kind flags body (at + offset) → end ≡ offset + size_of body → EventIs at offset n known text end
known_event at offset end kind flags n body known text k f b t e =
    record { text_is = t ∙ ap (λ (x : ℕ). event x flags body (at + offset)) k ∙ ap (λ (x : ℕ). event n x body (at + offset)) f ∙ ap (λ (x : List ℕ). event n 0 x (at + offset)) b; end_is = e ∙ ap (λ (x : List ℕ). offset + size_of x) b }

chain : (at offset end kind : ℕ) (body text rest : List ℕ) (es : List Typed) → EventIs at offset kind body text end → rest ≡ events_from (at + end) es → text ++ rest ≡ events_from (at + offset) ((kind, body) ∷ es)
chain at offset end kind body text rest es e r =
    ap₂ (λ (x y : List ℕ). x ++ y) e.text_is (r ∙ ap (λ (o : ℕ). events_from (at + o) es) e.end_is ∙ sym (moved at offset (size_of body) es))

-- ---- what stands behind a change

record TableNext (schema : Schema) (at offset : ℕ) (text : List ℕ) (next : Option ℕ × ℕ) : Type 0 where
  pub place : ℕ
  pub is : next.0 ≡ Some place
  pub within : place < length schema.tables
  pub event_is : EventIs at offset 19 (map_body schema place) text next.1

record EndNext (position at offset : ℕ) (text : List ℕ) (next : Option ℕ × ℕ) : Type 0 where
  pub is : next.0 ≡ None
  pub event_is : EventIs at offset 16 (xid_body position) text next.1

next_is : (schema : Schema) (position at offset : ℕ) (text : List ℕ) (next : Option ℕ × ℕ) → IsEvent at offset (due_more schema position) text next → TableNext schema at offset text next ⊎ EndNext position at offset text next
next_is schema position at offset text next h =
    let (kind, flags, body, is_due, text_is, size_is, small, few) = h in
    let end : Due (Option ℕ) = due_if (kind == 16 && flags == 0) (Bodies (xid_form position) (λ u. None)) Nothing in
    elim (due_of (kind == 19 && flags == 0) (Bodies (map_form schema) (λ place. Some place)) end body next.0 is_due) [
      | inl w ↦
          let k = typed kind flags 19 w.0 in
          let (place, s, e) = w.1 in
          let m = map_is schema body place s in
          inl (record { place = place; is = sym e; within = m.within; event_is = known_event at offset next.1 kind flags 19 body (map_body schema place) text k.0 k.1 m.text_is text_is size_is })
      | inr more ↦ elim (due_of (kind == 16 && flags == 0) (Bodies (xid_form position) (λ u. None)) Nothing body next.0 more) [
        | inl w ↦
            let k = typed kind flags 16 w.0 in
            let (u, s, e) = w.1 in
            inr (record { is = sym e; event_is = known_event at offset next.1 kind flags 16 body (xid_body position) text k.0 k.1 s.1 text_is size_is })
        | inr none ↦ absurd none
      ]
    ]

record ChangesAre (schema : Schema) (position at place offset : ℕ) (text : List ℕ) (p : List Change × ℕ) : Type 0 where
  pub first : Change
  pub others : List Change
  pub all : p.0 ≡ first ∷ others
  pub found : place_in schema (table_name first) ≡ Some place
  pub text_is : text ≡ events_from (at + offset) (from_row schema position first place others)
  pub end_is : p.1 ≡ behind offset (from_row schema position first place others)
  pub fit : list_all (change_fits schema) (first ∷ others) ≡ true
  pub values : FitsChanges (first ∷ others)

-- a change, and what stands behind its row
record RowAt (schema : Schema) (at place offset : ℕ) (text : List ℕ) (change : Change × ℕ) : Type 0 where
  pub event_is : EventIs at offset (kind_of change.0) (rows_body place (table_at schema place) change.0) text change.1
  pub found : place_in schema (table_name change.0) ≡ Some place
  pub fits : change_fits schema change.0 ≡ true
  pub values : FitsChange change.0

row_at : (schema : Schema) (at place offset : ℕ) (text : List ℕ) (change : Change × ℕ) → is_schema schema ≡ true → place < length schema.tables → IsEvent at offset (due_rows schema place) text change → RowAt schema at place offset text change
row_at schema at place offset text change h lt e =
    let (kind, flags, body, is_due, text_is, size_is, small, few) = e in
    let t : Table = table_at schema place in
    let r = row_taken schema place kind flags body change.0 ((schema_facts schema h).table place lt).some is_due in
    let n = is_named schema place h lt in
    let fits : option_map_or (λ (x : Table). fits_table x change.0) (table_of schema (table_name change.0)) false ≡ true =
    ap (λ (x : List ℕ). option_map_or (λ (y : Table). fits_table y change.0) (table_of schema x) false) r.row.name ∙ ap (λ (o : Option Table). option_map_or (λ (y : Table). fits_table y change.0) o false) n.table ∙ r.row.fits in
    record {
      event_is = known_event at offset change.1 kind flags (kind_of change.0) body (rows_body place t change.0) text r.kind_is r.flags_is r.row.body_is text_is size_is;
      found = ap (place_in schema) r.row.name ∙ n.found;
      fits = fits;
      values = r.row.values;
    }

changes_are : (count : ℕ) (schema : Schema) (position at place offset : ℕ) (text : List ℕ) (p : List Change × ℕ) → is_schema schema ≡ true → place < length schema.tables → Spells (changes_form count schema position at place offset) text p
    → ChangesAre schema position at place offset text p
changes_are zero schema position at place offset text p h lt s = absurd s
changes_are (suc n) schema position at place offset text p h lt s =
    let (change, t0, m0, f0, s1, e0) = s in
    let (next, t1, m1, f1, s2, e1) = s1 in
    let (others, t2, m2, f2, w, e2) = s2 in
    let r = row_at schema at place offset t0 change h lt f0 in
    let last : m1 ≡ t2 = e2 ∙ ap (λ (x : List ℕ). t2 ++ x) w.0 ∙ append-nil t2 in
    elim (next_is schema position at change.1 t1 next f1) [
      | inl table ↦
          let spelled = subst (λ (o : Option ℕ). Spells (changes_behind (λ x o. changes_form n schema position at x o) next.1 o) t2 others) table.is f2 in
          let rest = changes_are n schema position at table.place next.1 t2 others h table.within spelled in
          let d : Change = rest.first in
          let ds : List Change = rest.others in
          let rows : List Typed = from_row schema position d table.place ds in
          let these : ending schema position (d ∷ ds) ≡ (19, map_body schema table.place) ∷ rows = ap (λ (es : List Typed). es ++ changes_bodies schema ds ++ (16, xid_body position) ∷ []) (bodies_at schema d table.place rest.found) in
          let behind_row : m0 ≡ events_from (at + change.1) (ending schema position (d ∷ ds)) =
          e1 ∙ chain at change.1 next.1 19 (map_body schema table.place) t1 m1 rows table.event_is (last ∙ rest.text_is) ∙ ap (events_from (at + change.1)) (sym these) in
          let end : others.1 ≡ behind offset (from_row schema position change.0 place (d ∷ ds)) =
          rest.end_is ∙ ap (λ (o : ℕ). behind o rows) table.event_is.end_is ∙ ap (behind change.1) (sym these) ∙ ap (λ (o : ℕ). behind o (ending schema position (d ∷ ds))) r.event_is.end_is in
          record {
            first = change.0;
            others = d ∷ ds;
            all = ap (λ (q : List Change × ℕ). q.0) (sym w.1) ∙ ap (λ (x : List Change). change.0 ∷ x) rest.all;
            found = r.found;
            text_is = e0 ∙ chain at offset change.1 (kind_of change.0) (rows_body place (table_at schema place) change.0) t0 m0 (ending schema position (d ∷ ds)) r.event_is behind_row;
            end_is = ap (λ (q : List Change × ℕ). q.1) (sym w.1) ∙ end;
            fit = both_true _ _ r.fits rest.fit;
            values = (r.values, rest.values);
          }
      | inr end ↦
          let spelled = subst (λ (o : Option ℕ). Spells (changes_behind (λ x o. changes_form n schema position at x o) next.1 o) t2 others) end.is f2 in
          let behind_row : m0 ≡ events_from (at + change.1) (ending schema position []) = e1 ∙ chain at change.1 next.1 16 (xid_body position) t1 m1 [] end.event_is (last ∙ spelled.0) in
          let stop : others.1 ≡ behind offset (from_row schema position change.0 place []) =
          ap (λ (q : List Change × ℕ). q.1) (sym spelled.1) ∙ end.event_is.end_is ∙ ap (λ (o : ℕ). o + size_of (xid_body position)) r.event_is.end_is in
          record {
            first = change.0;
            others = [];
            all = ap (λ (q : List Change × ℕ). q.0) (sym w.1) ∙ ap (λ (q : List Change × ℕ). change.0 ∷ q.0) (sym spelled.1);
            found = r.found;
            text_is = e0 ∙ chain at offset change.1 (kind_of change.0) (rows_body place (table_at schema place) change.0) t0 m0 (ending schema position []) r.event_is behind_row;
            end_is = ap (λ (q : List Change × ℕ). q.1) (sym w.1) ∙ stop;
            fit = both_true _ _ r.fits refl;
            values = (r.values, tt);
          }
    ]

-- ---- the whole

record GtidAt (schema : Schema) (sequence at : ℕ) (text : List ℕ) (p : Gtid × ℕ) : Type 0 where
  pub event_is : EventIs at 0 33 (gtid_body sequence p.0) text p.1
  pub server : p.0.server < 2 ^ 128
  pub number : is_number p.0.number ≡ true
  pub sequence_is : 1 ≤ sequence

gtid_at : (schema : Schema) (sequence at : ℕ) (text : List ℕ) (p : Gtid × ℕ) → IsEvent at 0 (due_gtid schema sequence) text p → GtidAt schema sequence at text p
gtid_at schema sequence at text p h =
    let (kind, flags, body, is_due, text_is, size_is, small, few) = h in
    elim (due_of (kind == 33 && flags == 0 && nat_le 1 sequence && nat_le 1 (length schema.tables)) (Bodies (gtid_form sequence) (λ g. g)) Nothing body p.0 is_due) [
      | inl w ↦
          let a = both (kind == 33 && flags == 0 && nat_le 1 sequence) (nat_le 1 (length schema.tables)) w.0 in
          let b = both (kind == 33 && flags == 0) (nat_le 1 sequence) a.0 in
          let k = typed kind flags 33 b.0 in
          let (g, s, e) = w.1 in
          let is = gtid_is sequence body g s in
          let known : body ≡ gtid_body sequence p.0 = is.text_is ∙ ap (gtid_body sequence) e in
          record {
            event_is = known_event at 0 p.1 kind flags 33 body (gtid_body sequence p.0) text k.0 k.1 known text_is size_is;
            server = subst (λ (x : Gtid). x.server < 2 ^ 128) e is.server;
            number = subst (λ (x : Gtid). is_number x.number ≡ true) e is.number;
            sequence_is = leb-true _ _ b.1;
          }
      | inr none ↦ absurd none
    ]

begin_at : (at offset : ℕ) (text : List ℕ) (p : Unit {0} × ℕ) → IsEvent at offset due_begin text p → EventIs at offset 2 begin_body text p.1
begin_at at offset text p h =
    let (kind, flags, body, is_due, text_is, size_is, small, few) = h in
    elim (due_of (kind == 2 && flags == 0) (Bodies begin_form (λ u. u)) Nothing body p.0 is_due) [
      | inl w ↦
          let k = typed kind flags 2 w.0 in
          let (u, s, e) = w.1 in
          known_event at offset p.1 kind flags 2 body begin_body text k.0 k.1 (begin_is body u s) text_is size_is
      | inr none ↦ absurd none
    ]

record TableAt (schema : Schema) (at offset : ℕ) (text : List ℕ) (p : ℕ × ℕ) : Type 0 where
  pub within : p.0 < length schema.tables
  pub event_is : EventIs at offset 19 (map_body schema p.0) text p.1

table_event : (schema : Schema) (at offset : ℕ) (text : List ℕ) (p : ℕ × ℕ) → IsEvent at offset (due_table schema) text p → TableAt schema at offset text p
table_event schema at offset text p h =
    let (kind, flags, body, is_due, text_is, size_is, small, few) = h in
    elim (due_of (kind == 19 && flags == 0) (Bodies (map_form schema) (λ place. place)) Nothing body p.0 is_due) [
      | inl w ↦
          let k = typed kind flags 19 w.0 in
          let (place, s, e) = w.1 in
          let m = map_is schema body place s in
          record {
            within = subst (λ (x : ℕ). x < length schema.tables) e m.within;
            event_is = known_event at offset p.1 kind flags 19 body (map_body schema p.0) text k.0 k.1 (m.text_is ∙ ap (map_body schema) e) text_is size_is;
          }
      | inr none ↦ absurd none
    ]

record TxnIs (schema : Schema) (position : ℕ) (place : Place) (text : List ℕ) (read : TxnRead) : Type 0 where
  pub text_is : text ≡ txn_events schema read.txn position place
  pub size_is : read.size ≡ behind 0 (txn_bodies schema read.txn position place.sequence)
  pub txn : IsTxn schema read.txn
  pub sequence : 1 ≤ place.sequence

one_more : (n : ℕ) → nat_le 1 (suc n) ≡ true
one_more n = le-leb 1 (suc n) (omega arith)

txn_is : (count : ℕ) (schema : Schema) (position : ℕ) (place : Place) (text : List ℕ) (read : TxnRead) → is_schema schema ≡ true → Spells (txn_form count schema position place) text read → TxnIs schema position place text read
unfolding txn_events
txn_is count schema position place text read h s =
    let at : ℕ = place.at in
    let (gtid, t0, m0, f0, s1, e0) = s in
    let (begin, t1, m1, f1, s2, e1) = s1 in
    let (table, t2, m2, f2, s3, e2) = s2 in
    let (changes, t3, m3, f3, w, e3) = s3 in
    let g = gtid_at schema place.sequence at t0 gtid f0 in
    let b = begin_at at gtid.1 t1 begin f1 in
    let t = table_event schema at begin.1 t2 table f2 in
    let c = changes_are count schema position at table.0 table.1 t3 changes h t.within f3 in
    let rows : List Typed = from_row schema position c.first table.0 c.others in
    let these : ending schema position (c.first ∷ c.others) ≡ (19, map_body schema table.0) ∷ rows = ap (λ (es : List Typed). es ++ changes_bodies schema c.others ++ (16, xid_body position) ∷ []) (bodies_at schema c.first table.0 c.found) in
    let last : m2 ≡ t3 = e3 ∙ ap (λ (x : List ℕ). t3 ++ x) w.0 ∙ append-nil t3 in
    let a2 : m1 ≡ events_from (at + begin.1) ((19, map_body schema table.0) ∷ rows) = e2 ∙ chain at begin.1 table.1 19 (map_body schema table.0) t2 m2 rows t.event_is (last ∙ c.text_is) in
    let a1 : m0 ≡ events_from (at + gtid.1) ((2, begin_body) ∷ (19, map_body schema table.0) ∷ rows) = e1 ∙ chain at gtid.1 begin.1 2 begin_body t1 m1 ((19, map_body schema table.0) ∷ rows) b a2 in
    let gb : List ℕ = gtid_body place.sequence gtid.0 in
    let bodies : List Typed = (33, gb) ∷ (2, begin_body) ∷ (19, map_body schema table.0) ∷ rows in
    let a0 : text ≡ events_from (at + 0) bodies = e0 ∙ chain at 0 gtid.1 33 gb t0 m0 ((2, begin_body) ∷ (19, map_body schema table.0) ∷ rows) g.event_is a1 in
    let txn : Txn = record { gtid = gtid.0; changes = changes.0 } in
    let all : bodies ≡ txn_bodies schema txn position place.sequence = ap (λ (es : List Typed). (33, gb) ∷ (2, begin_body) ∷ es) (sym these) ∙ ap (λ (cs : List Change). txn_bodies schema (record { gtid = gtid.0; changes = cs }) position place.sequence) (sym c.all) in
    let size : changes.1 ≡ behind 0 bodies =
    c.end_is ∙ ap (λ (o : ℕ). behind o rows) t.event_is.end_is ∙ ap (λ (o : ℕ). behind (o + size_of (map_body schema table.0)) rows) b.end_is ∙ ap (λ (o : ℕ). behind (o + size_of begin_body + size_of (map_body schema table.0)) rows) g.event_is.end_is in
    let fit : list_all (change_fits schema) changes.0 ≡ true = ap (list_all (change_fits schema)) c.all ∙ c.fit in
    let some : nat_le 1 (length changes.0) ≡ true = ap (λ (cs : List Change). nat_le 1 (length cs)) c.all ∙ one_more (length c.others) in
    subst (TxnIs schema position place text) w.1 (record {
      text_is = a0 ∙ sym (start at bodies) ∙ ap (events_from at) all;
      size_is = size ∙ ap (behind 0) all;
      txn = record { tables = h; fit = both_true _ _ some fit; number = g.number; server = g.server; values = subst FitsChanges (sym c.all) c.values };
      sequence = g.sequence_is;
    })

sized : (schema : Schema) (txn : Txn) (position : ℕ) (place : Place) → length (events_from place.at (txn_bodies schema txn position place.sequence)) ≡ length (txn_events schema txn position place)
unfolding txn_events
sized schema txn position place = refl

record ValueIs (r : Result (TxnRead × List ℕ) TxnError) (read : TxnRead) : Type 0 where
  pub rest : List ℕ
  pub is : r ≡ Ok (read, rest)

value_is : (r : Result (TxnRead × List ℕ) TxnError) (read : TxnRead) → value_of r ≡ Ok read → ValueIs r read
value_is (Ok p) read h = let e : p.0 ≡ read = cc in record { rest = p.1; is = ap (λ (x : TxnRead). Ok (x, p.1)) e }
value_is (Err e) read h = absurd cc

pub txn_takes : ReadIsAtFront
unfolding txn_at
txn_takes schema bytes position place read h fits e =
    let form = txn_form (length bytes) schema position place in
    let v = value_is (front_of (error.Order 0) form bytes) read e in
    let taken = read_is_spelled (error.Order 0) form bytes read v.rest (txn_fields (length bytes) schema position place h) fits v.is in
    let t = txn_is (length bytes) schema position place taken.text read h taken.spelled in
    record {
      rest = v.rest;
      parts = taken.parts ∙ ap (λ (x : List ℕ). x ++ v.rest) t.text_is;
      size = t.size_is ∙ sym (behind_length place.at 0 (txn_bodies schema read.txn position place.sequence)) ∙ zero-add _ ∙ sized schema read.txn position place;
      txn = t.txn;
      sequence = t.sequence;
    }
