-- The bodies of the events around a transaction's changes (the MySQL manual's GTID_EVENT, QUERY_EVENT and XID_EVENT, in this project's profile). Each has its table of fields, its form for a reader and its text for a writer. A field that is no such field is the fault that stands beside it in the form.
use Rattle.std.specs.Prelude.{ℕ, ◌-◌, List, [], ◌∷◌, ◌++◌, codes}
use Rattle.std.specs.Int.{w16, w32, w64, w128, to_le_bytes, to_be_bytes}
use Rattle.event_frame.specs.Forms.{Form, Whole, One, ◌>>=◌}
use Rattle.event_frame.specs.Fields.{constant, number, server}
use Rattle.ring_types.specs.declared.values.Gtid.{Gtid}
use Rattle.ring_types.specs.Rows.{is_number}
use Rattle.event_txn.specs.declared.faults.BodyFault.{BodyFault}
use Rattle.event_txn.specs.declared.faults.BodyFault.TheVariants.{Field}

-- ---- GTID: which transaction it is, and its number within the file
--   flag             1 byte, 0
--   server           16 bytes, highest first: the uuid of the server that made the transaction
--   number           8 bytes: the transaction's number on that server, from 1
--   timestamps       1 byte, 2: two logical timestamps follow
--   last_committed   8 bytes: the number within the file of the transaction before
--   sequence_number  8 bytes: the transaction's number within its file, from 1
abbrev pub gtid_form : ℕ → Form BodyFault Gtid
gtid_form sequence = do
  flag ← One Field (constant (0 ∷ []))
  server ← One Field server
  number ← One Field (number w64 is_number)
  timestamps ← One Field (constant (2 ∷ []))
  last ← One Field (constant (to_le_bytes w64 (sequence - 1)))
  own ← One Field (constant (to_le_bytes w64 sequence))
  Whole (record { server = server; number = number })

unfoldable pub gtid_body : ℕ → Gtid → List ℕ
gtid_body sequence g =
    0 ∷ [] ++ to_be_bytes w128 g.server ++ to_le_bytes w64 g.number ++ 2 ∷ [] ++ to_le_bytes w64 (sequence - 1) ++ to_le_bytes w64 sequence

-- ---- QUERY: the statement that begins the transaction
--   thread              4 bytes, 0
--   seconds             4 bytes, 0: how long the statement ran
--   length of database  1 byte, 0: no database is named
--   error               2 bytes, 0
--   length of status    2 bytes, 0: there are no status variables
--   database            1 byte, 0: the end of the empty name
--   statement           BEGIN
abbrev pub begin_form : Form BodyFault (Unit {0})
begin_form = do
  thread ← One Field (constant (to_le_bytes w32 0))
  seconds ← One Field (constant (to_le_bytes w32 0))
  length ← One Field (constant (0 ∷ []))
  error ← One Field (constant (to_le_bytes w16 0))
  status ← One Field (constant (to_le_bytes w16 0))
  database ← One Field (constant (0 ∷ []))
  One Field (constant (codes "BEGIN"))

abbrev pub begin_body : List ℕ
begin_body = to_le_bytes w32 0 ++ to_le_bytes w32 0 ++ 0 ∷ [] ++ to_le_bytes w16 0 ++ to_le_bytes w16 0 ++ 0 ∷ [] ++ codes "BEGIN"

-- ---- XID: the transaction is committed
--   number  8 bytes: the position of the transaction's entry
abbrev pub xid_form : ℕ → Form BodyFault (Unit {0})
xid_form position = One Field (constant (to_le_bytes w64 position))

abbrev pub xid_body : ℕ → List ℕ
xid_body position = to_le_bytes w64 position
