-- The group of an entry: the event that tells its opid, and behind it what its payload adds. How it is spelled, and what reading one at the front of some bytes means.
--   entry        events
--   NoOp         opid
--   Rotate       opid, ROTATE
--   transaction  opid, GTID, QUERY, for each change TABLE_MAP and its row, XID
use Rattle.std.specs.Prelude.{ℕ, ◌+◌, ◌%◌, ◌^◌, ◌==◌, Bool, ◌&&◌, ◌||◌, List, [], ◌++◌, length, drop, nat_lt, nat_le, Result, Ok, Err, if◌then◌else◌}
use Rattle.event_frame.specs.Forms.{and_then}
use Rattle.event_control.specs.ControlEvents.{rotate_event, rotation_at, opid_event, opid_event_at}
use Rattle.event_control.specs.declared.faults.ControlError.{ControlError}
use Rattle.event_control.specs.declared.opid_events.OpidEvent.{OpidEvent}
use Rattle.event_control.specs.declared.rotations.Rotation.{Rotation}
use Rattle.event_txn.specs.Txns.{txn_events, txn_at}
use Rattle.event_txn.specs.declared.faults.TxnError.{TxnError}
use Rattle.event_txn.specs.declared.faults.TxnError.TheVariants as txn
use Rattle.event_txn.specs.declared.reading.TxnRead.{TxnRead}
use Rattle.ring_types.specs.declared.entries.Entry.{Entry}
use Rattle.ring_types.specs.declared.entries.Payload.{Payload}
use Rattle.ring_types.specs.declared.entries.Payload.TheVariants as payload
use Rattle.ring_types.specs.declared.entries.Place.{Place}
use Rattle.ring_types.specs.declared.limits.TheConstants.{LAST_FILE}
use Rattle.ring_types.specs.declared.schemas.Schema.{Schema}
use Rattle.entry_group.specs.declared.groups.EntryError.{EntryError}
use Rattle.entry_group.specs.declared.groups.EntryError.TheVariants.{NotAnEntry, Memory}
use Rattle.entry_group.specs.declared.groups.EntryRead.{EntryRead}

-- ---- how a group is spelled

-- what the opid event says that the entry holds
abbrev pub kind_of : Payload → ℕ
kind_of payload.NoOp = 1
kind_of payload.Rotate = 2
kind_of (payload.Txn t) = 3

-- the place so many bytes further in the same file; an offset has 64 bits, of which an event tells the low 32
abbrev pub further : ℕ → Place → Place
further size p = record p { at = (p.at + size) % 2 ^ 64 }

abbrev pub opid_size : ℕ
opid_size = 42

-- the events behind the opid, from this place on
abbrev pub behind_opid : Schema → ℕ → Payload → Place → List ℕ
behind_opid schema position payload.NoOp p = []
behind_opid schema position payload.Rotate p = rotate_event (p.file + 1) p.at
behind_opid schema position (payload.Txn t) p = txn_events schema t position p

unfoldable pub group : Schema → Entry → Place → List ℕ
group schema e p = opid_event (kind_of e.payload) e.opid e.region p.at ++ behind_opid schema e.opid.position e.payload (further opid_size p)

-- ---- what is read

-- whether an entry of this kind can stand there: a Rotate wants a number for the next file; a transaction wants a table, and a number within its file
abbrev pub can_stand : Schema → Place → ℕ → Bool
can_stand schema p kind = kind == 1 || (kind == 2 && nat_lt p.file LAST_FILE) || (kind == 3 && nat_le 1 p.sequence && nat_le 1 (length schema.tables))

-- the ROTATE behind an opid event of this size, which names the next file
abbrev pub rotation_of : ℕ → Place → Result Rotation ControlError → Result (Payload × ℕ) EntryError
rotation_of size p (Err fault) = Err (NotAnEntry size 2)
rotation_of size p (Ok r) = if r.next_file == p.file + 1 then Ok (payload.Rotate, r.size) else Err (NotAnEntry size 2)

-- the offset of a transaction's event at fault
abbrev pub fault_in : ℕ → TxnError → EntryError
fault_in size (txn.Order at) = NotAnEntry (size + at) 3
fault_in size (txn.Field at) = NotAnEntry (size + at) 3
fault_in size (txn.Table at) = NotAnEntry (size + at) 3
fault_in size (txn.Value at) = NotAnEntry (size + at) 3
fault_in size (txn.Frame at fault) = NotAnEntry (size + at) 3
fault_in size txn.Memory = Memory

abbrev pub txn_of : ℕ → Result TxnRead TxnError → Result (Payload × ℕ) EntryError
txn_of size (Ok r) = Ok (payload.Txn r.txn, r.size)
txn_of size (Err e) = Err (fault_in size e)

-- what stands behind an opid event of this size
abbrev pub payload_at : Schema → List ℕ → ℕ → OpidEvent → Place → Result (Payload × ℕ) EntryError
payload_at schema bytes size o p =
    if o.kind == 1 then Ok (payload.NoOp, 0)
    else if o.kind == 2 then rotation_of size p (rotation_at bytes p.at)
    else txn_of size (txn_at schema bytes o.opid.position p)

abbrev pub behind : Schema → List ℕ → Place → Result OpidEvent ControlError → Result EntryRead EntryError
behind schema bytes p (Err fault) = Err (NotAnEntry 0 1)
behind schema bytes p (Ok o) =
    if can_stand schema p o.kind
    then and_then (payload_at schema (drop o.size bytes) o.size o (further o.size p)) (λ r. Ok (record { entry = record { opid = o.opid; region = o.region; payload = r.0 }; size = o.size + r.1 }))
    else Err (NotAnEntry 0 1)

-- the entry whose group the bytes begin with, and the group's size; else the offset of the first event that no group has there, and which event was due
unfoldable pub entry_at : Schema → List ℕ → Place → Result EntryRead EntryError
entry_at schema bytes p = behind schema bytes p (opid_event_at bytes p.at)
