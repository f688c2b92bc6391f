-- The items of a redo: an action of the engine each. Numbers have their lowest byte first.
--   bytes  value   meaning
--   1      1       a transaction is prepared
--   16     any     .. its opid: term, position
--   4      small   .. how many bytes its events have: with the 42 of an opid event no more than a group may have
--   those  events  .. the transaction's events, as at offset 0 of file 1, the first transaction there
--   1      2       an entry is applied
--   8      any     .. its position
--   1      3       the pairs behind a position are dropped
--   8      any     .. the position
--   1      4       the pairs of some opids are dropped
--   8      any     .. how many opids
--   16     any     .. each of them: term, position
use Rattle.std.specs.Prelude.{◌≡◌, ℕ, zero, suc, ◌+◌, ◌==◌, Bool, true, false, List, [], ◌∷◌, length, drop, nat_le, Result, Ok, Err}
use Rattle.std.specs.Int.{w8, w32, w64}
use Rattle.event_frame.specs.Fields.{agrees, number}
use Rattle.event_frame.specs.Forms.{Any, Form, One, Spells, Whole, ◌>>=◌}
use Rattle.event_frame.specs.declared.field_readers.FieldFault.{FieldFault}
use Rattle.event_frame.specs.declared.field_readers.FieldFault.TheVariants.{Wrong}
use Rattle.event_txn.specs.Laws.{IsTxn}
use Rattle.event_txn.specs.Txns.{txn_at, txn_events}
use Rattle.event_txn.specs.declared.faults.TxnError.{TxnError}
use Rattle.event_txn.specs.declared.reading.TxnRead.{TxnRead}
use Rattle.ring_model.specs.declared.effects.Action.{Action}
use Rattle.ring_model.specs.declared.effects.Action.TheVariants as action
use Rattle.ring_types.specs.Sizes.{group_limit}
use Rattle.ring_types.specs.declared.entries.Opid.{Opid}
use Rattle.ring_types.specs.declared.entries.Place.{Place}
use Rattle.ring_types.specs.declared.schemas.Schema.{Schema}

abbrev pub any : ℕ → Bool
any n = true

abbrev pub opid_form : Form FieldFault Opid
opid_form = do
  term ← One Wrong (number w64 any)
  position ← One Wrong (number w64 any)
  Whole (record { term = term; position = position })

abbrev pub opids_form : ℕ → Form FieldFault (List Opid)
opids_form zero = Whole []
opids_form (suc count) = do
  opid ← opid_form
  others ← opids_form count
  Whole (opid ∷ others)

-- where the events of a prepared transaction would stand
abbrev pub front_place : Place
front_place = record { file = 1; at = 0; sequence = 1 }

abbrev pub taken_off : List ℕ → Result TxnRead TxnError → Result (TxnRead × List ℕ) FieldFault
taken_off bytes (Ok read) = Ok (read, drop read.size bytes)
taken_off bytes (Err refused) = Err Wrong

-- the text is the transaction's events
pub record IsEvents (schema : Schema) (position : ℕ) (text : List ℕ) (read : TxnRead) : Type 0 where
  pub txn : IsTxn schema read.txn
  pub events : text ≡ txn_events schema read.txn position front_place
  pub size : read.size ≡ length text

abbrev pub events_form : Schema → ℕ → Form FieldFault TxnRead
events_form schema position = Any (λ bytes. taken_off bytes (txn_at schema bytes position front_place)) (IsEvents schema position)

-- the bytes of its events and those of the opid event are no more than a group may have
abbrev pub is_small : ℕ → Bool
is_small size = nat_le (size + 42) group_limit

abbrev pub prepare_form : Schema → Form FieldFault Action
prepare_form schema = do
  opid ← opid_form
  size ← One Wrong (number w32 is_small)
  read ← events_form schema opid.position
  told ← One Wrong (agrees (read.size == size))
  Whole (action.Prepare (record { opid = opid; txn = read.txn }))

abbrev pub position_form : (ℕ → Action) → Form FieldFault Action
position_form action_at = do
  position ← One Wrong (number w64 any)
  Whole (action_at position)

abbrev pub drop_form : Form FieldFault Action
drop_form = do
  count ← One Wrong (number w64 any)
  opids ← opids_form count
  Whole (action.DropPairs opids)

-- no item
abbrev pub none_form : Form FieldFault Action
none_form = Any (λ bytes. Err Wrong) (λ text a. ⊥)

abbrev pub form_if : {A : Type 0} → Bool → Form FieldFault A → Form FieldFault A → Form FieldFault A
form_if true this other = this
form_if false this other = other

abbrev pub kind_form : Schema → ℕ → Form FieldFault Action
kind_form schema kind =
    form_if (kind == 1) (prepare_form schema)
    (form_if (kind == 2) (position_form action.Commit)
    (form_if (kind == 3) (position_form action.RollBackAfter)
    (form_if (kind == 4) drop_form none_form)))

abbrev pub item_form : Schema → Form FieldFault Action
item_form schema = do
  kind ← One Wrong (number w8 any)
  kind_form schema kind

-- the text is the item
abbrev pub IsItem : Schema → List ℕ → Action → Type 0
IsItem schema text a = Spells (item_form schema) text a
