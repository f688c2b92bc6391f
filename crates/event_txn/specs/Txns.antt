-- A transaction's events: GTID, QUERY with BEGIN, for each change the description of its table and its row, XID. How they are spelled, and which events are due at each place.
use Rattle.std.specs.Prelude.{◌≡◌, ℕ, zero, suc, ◌+◌, ◌^◌, ◌<◌, ◌==◌, Bool, true, false, ◌&&◌, List, [], ◌∷◌, ◌++◌, length, take, drop, nat_le, if◌then◌else◌, Option, Some, None, Result, Ok, Err}
use Rattle.std.specs.Option.{option_map_or}
use Rattle.event_frame.specs.Forms.{Form, Whole, Any, ◌>>=◌, and_then, front_of, body_of, Spells}
use Rattle.event_frame.specs.Events.{event, event_at, size_of}
use Rattle.event_frame.specs.declared.frames.Event.{Event}
use Rattle.event_frame.specs.declared.frames.FrameError.{FrameError}
use Rattle.ring_types.specs.Rows.{place_in, table_name}
use Rattle.ring_types.specs.declared.values.Change.{Change}
use Rattle.ring_types.specs.declared.values.Change.TheVariants.{Insert, Update, Delete}
use Rattle.ring_types.specs.declared.values.Gtid.{Gtid}
use Rattle.ring_types.specs.declared.values.Txn.{Txn}
use Rattle.ring_types.specs.declared.entries.Place.{Place}
use Rattle.ring_types.specs.declared.schemas.Schema.{Schema}
use Rattle.ring_types.specs.declared.schemas.Table.{Table as TableOf}
use Rattle.event_txn.specs.declared.faults.BodyFault.{BodyFault}
use Rattle.event_txn.specs.declared.faults.BodyFault.TheVariants as fault
use Rattle.event_txn.specs.declared.faults.RowError.{RowError}
use Rattle.event_txn.specs.declared.faults.RowError.TheVariants as row
use Rattle.event_txn.specs.declared.faults.TxnError.{TxnError}
use Rattle.event_txn.specs.declared.faults.TxnError.TheVariants as error
use Rattle.event_txn.specs.declared.reading.TxnRead.{TxnRead}
use Rattle.event_txn.specs.Bodies.{gtid_form, gtid_body, begin_form, begin_body, xid_form, xid_body}
use Rattle.event_txn.specs.Tables.{map_form, map_body, table_at}
use Rattle.event_txn.specs.Rows.{write_form, update_form, delete_form, kind_of, rows_body}

-- ---- how a transaction is spelled
--   type  event      body
--   33    GTID       the transaction's GTID and its number within the file
--   2     QUERY      BEGIN
--   19    TABLE_MAP  for each change: its table
--   30    WRITE      .. and its row: an insert
--   31    UPDATE     .. an update
--   32    DELETE     .. a delete
--   16    XID        the entry's position

-- an event's type and its body
abbrev pub Typed : Type 0
Typed = ℕ × List ℕ

abbrev pub change_bodies : Schema → Change → List Typed
change_bodies schema c = option_map_or (λ place. (19, map_body schema place) ∷ (kind_of c, rows_body place (table_at schema place) c) ∷ []) (place_in schema (table_name c)) []

abbrev pub changes_bodies : Schema → List Change → List Typed
changes_bodies schema [] = []
changes_bodies schema (c ∷ changes) = change_bodies schema c ++ changes_bodies schema changes

abbrev pub txn_bodies : Schema → Txn → ℕ → ℕ → List Typed
txn_bodies schema txn position sequence = (33, gtid_body sequence txn.gtid) ∷ (2, begin_body) ∷ [] ++ changes_bodies schema txn.changes ++ (16, xid_body position) ∷ []

-- the events one behind another, from this offset of the file on
abbrev pub events_from : ℕ → List Typed → List ℕ
events_from at [] = []
events_from at (e ∷ more) = event e.0 0 e.1 at ++ events_from (at + size_of e.1) more

-- the offset behind them
abbrev pub behind : ℕ → List Typed → ℕ
behind at [] = at
behind at (e ∷ more) = behind (at + size_of e.1) more

-- the events of a transaction whose entry has this position
unfoldable pub txn_events : Schema → Txn → ℕ → Place → List ℕ
txn_events schema txn position place = events_from place.at (txn_bodies schema txn position place.sequence)

-- ---- one event, for a reader
abbrev pub fault_at : ℕ → BodyFault → TxnError
fault_at offset fault.Field = error.Field offset
fault_at offset fault.Table = error.Table offset
fault_at offset fault.Value = error.Value offset

abbrev pub refusal_of : ℕ → RowError → TxnError
refusal_of offset row.Memory = error.Memory
refusal_of offset (row.Fault f) = fault_at offset f

-- what may stand there for an event's type and flags: nothing, or bodies of a form
pub data Due (A : Type 0) : Type 1 where
  Nothing : Due A
  Bodies : {X : Type 0} → Form BodyFault X → (X → A) → Due A

abbrev pub due_if : {A : Type 0} → Bool → Due A → Due A → Due A
due_if true this other = this
due_if false this other = other

abbrev pub named : {X : Type 0} → ℕ → Result X BodyFault → Result X TxnError
named offset (Ok x) = Ok x
named offset (Err k) = Err (fault_at offset k)

abbrev pub within : {A : Type 0} → ℕ → Due A → Event → List ℕ → Result ((A × ℕ) × List ℕ) TxnError
within offset Nothing e bytes = Err (error.Order offset)
within offset (Bodies form value) e bytes =
    and_then (named offset (body_of fault.Field form (take e.body_len (drop 19 bytes)))) (λ x. Ok ((value x, offset + e.size), drop e.size bytes))

abbrev pub framed : {A : Type 0} → ℕ → (ℕ → ℕ → Due A) → Result Event FrameError → List ℕ → Result ((A × ℕ) × List ℕ) TxnError
framed offset due (Err f) bytes = Err (error.Frame offset f)
framed offset due (Ok e) bytes = within offset (due e.kind e.flags) e bytes

-- the event at this offset of all the bytes, which stand at `at` in their file: its value and the offset behind it. The frame is tested first, then whether the event is due, then its body
abbrev pub event_of : {A : Type 0} → ℕ → ℕ → (ℕ → ℕ → Due A) → List ℕ → Result ((A × ℕ) × List ℕ) TxnError
event_of at offset due bytes = framed offset due (event_at bytes (at + offset)) bytes

abbrev pub IsDue : {A : Type 0} → Due A → List ℕ → A → Type 0
IsDue Nothing body a = ⊥
IsDue (Bodies {X} form value) body a = (x : X) × Spells form body x × (value x ≡ a)

-- the text is such an event
abbrev pub IsEvent : {A : Type 0} → ℕ → ℕ → (ℕ → ℕ → Due A) → List ℕ → A × ℕ → Type 0
IsEvent at offset due text p =
    (kind : ℕ) × (flags : ℕ) × (body : List ℕ) × IsDue (due kind flags) body p.0 × (text ≡ event kind flags body (at + offset))
    × (p.1 ≡ offset + size_of body) × (flags < 2 ^ 16) × (size_of body < 2 ^ 32)

abbrev pub one_event : {A : Type 0} → ℕ → ℕ → (ℕ → ℕ → Due A) → Form TxnError (A × ℕ)
one_event at offset due = Any (event_of at offset due) (IsEvent at offset due)

-- no event can stand there
abbrev pub none : {A : Type 0} → ℕ → Form TxnError A
none offset = Any (λ bytes. Err (error.Order offset)) (λ text a. ⊥)

-- ---- what is due

-- the GTID of a transaction. There is none without a table to change, and none with the number 0 within its file
abbrev pub due_gtid : Schema → ℕ → ℕ → ℕ → Due Gtid
due_gtid schema sequence kind flags =
    due_if (kind == 33 && flags == 0 && nat_le 1 sequence && nat_le 1 (length schema.tables)) (Bodies (gtid_form sequence) (λ gtid. gtid)) Nothing

abbrev pub due_begin : ℕ → ℕ → Due (Unit {0})
due_begin kind flags = due_if (kind == 2 && flags == 0) (Bodies begin_form (λ u. u)) Nothing

-- after BEGIN: the description of a table, whose place is the value
abbrev pub due_table : Schema → ℕ → ℕ → Due ℕ
due_table schema kind flags = due_if (kind == 19 && flags == 0) (Bodies (map_form schema) (λ place. place)) Nothing

-- after the description of a table: a row of it
abbrev pub due_rows : Schema → ℕ → ℕ → ℕ → Due Change
due_rows schema place kind flags =
    due_if (kind == 30 && flags == 0) (Bodies (write_form place (table_at schema place)) (λ row. Insert (table_at schema place).name row))
    (due_if (kind == 31 && flags == 0) (Bodies (update_form place (table_at schema place)) (λ row. Update (table_at schema place).name row))
    (due_if (kind == 32 && flags == 0) (Bodies (delete_form place (table_at schema place)) (λ key. Delete (table_at schema place).name key)) Nothing))

-- the change that a body makes, if its type is one of these
unfoldable pub change_in : ℕ → List ℕ → ℕ → TableOf → Result (Option Change) BodyFault
change_in kind body place table =
    if kind == 30 then and_then (body_of fault.Field (write_form place table) body) (λ row. Ok (Some (Insert table.name row)))
    else if kind == 31 then and_then (body_of fault.Field (update_form place table) body) (λ row. Ok (Some (Update table.name row)))
    else if kind == 32 then and_then (body_of fault.Field (delete_form place table) body) (λ key. Ok (Some (Delete table.name key)))
    else Ok None

-- after a change: the description of a table, or the end
abbrev pub due_more : Schema → ℕ → ℕ → ℕ → Due (Option ℕ)
due_more schema position kind flags =
    due_if (kind == 19 && flags == 0) (Bodies (map_form schema) (λ place. Some place))
    (due_if (kind == 16 && flags == 0) (Bodies (xid_form position) (λ u. None)) Nothing)

-- ---- a transaction, for a reader

abbrev pub changes_behind : (ℕ → ℕ → Form TxnError (List Change × ℕ)) → ℕ → Option ℕ → Form TxnError (List Change × ℕ)
changes_behind more offset None = Whole ([], offset)
changes_behind more offset (Some place) = more place offset

-- the changes from the row of the table at `place` on, at most `count`, and the offset behind XID
abbrev pub changes_form : ℕ → Schema → ℕ → ℕ → ℕ → ℕ → Form TxnError (List Change × ℕ)
changes_form zero schema position at place offset = none offset
changes_form (suc count) schema position at place offset = do
  change ← one_event at offset (due_rows schema place)
  next ← one_event at change.1 (due_more schema position)
  others ← changes_behind (λ p o. changes_form count schema position at p o) next.1 next.0
  Whole (change.0 ∷ others.0, others.1)

abbrev pub txn_form : ℕ → Schema → ℕ → Place → Form TxnError TxnRead
txn_form count schema position place = do
  gtid ← one_event place.at 0 (due_gtid schema place.sequence)
  begin ← one_event place.at gtid.1 due_begin
  table ← one_event place.at begin.1 (due_table schema)
  changes ← changes_form count schema position place.at table.0 table.1
  Whole (record { txn = record { gtid = gtid.0; changes = changes.0 }; size = changes.1 })

-- without the bytes behind
abbrev pub value_of : {A : Type 0} → Result (A × List ℕ) TxnError → Result A TxnError
value_of (Ok p) = Ok p.0
value_of (Err e) = Err e

-- the transaction whose events the bytes begin with, and the size of these; else the refusal of the first event with which none goes on. Each change takes more than a byte, so the count of bytes never cuts the changes short
unfoldable pub txn_at : Schema → List ℕ → ℕ → Place → Result TxnRead TxnError
txn_at schema bytes position place = value_of (front_of (error.Order 0) (txn_form (length bytes) schema position place) bytes)
