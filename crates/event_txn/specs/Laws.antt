-- What holds of every transaction's events: what was written is read, whatever stands behind it, and what is read was written so; no transaction's events begin another's; and how many bytes they take.
use Rattle.std.specs.Prelude.{◌≡◌, ℕ, ◌^◌, ◌<◌, ◌≤◌, ◌+◌, true, List, [], ◌∷◌, ◌++◌, length, Ok, FitsSigned}
use Rattle.std.specs.Int.{w64}
use Rattle.std.specs.Str.{is_utf8}
use Rattle.ring_types.specs.Rings.{is_schema}
use Rattle.ring_types.specs.Rows.{changes_fit, is_number}
use Rattle.ring_types.specs.Sizes.{group_bytes}
use Rattle.ring_types.specs.declared.entries.Payload.TheVariants as payload
use Rattle.ring_types.specs.declared.values.Value.{Value}
use Rattle.ring_types.specs.declared.values.Value.TheVariants as value
use Rattle.ring_types.specs.declared.values.Change.{Change}
use Rattle.ring_types.specs.declared.values.Change.TheVariants.{Insert, Update, Delete}
use Rattle.ring_types.specs.declared.values.Txn.{Txn}
use Rattle.ring_types.specs.declared.entries.Place.{Place}
use Rattle.ring_types.specs.declared.schemas.Schema.{Schema}
use Rattle.event_frame.specs.Laws.{IsBytes}
use Rattle.event_txn.specs.declared.reading.TxnRead.{TxnRead}
use Rattle.event_txn.specs.Txns.{txn_events, txn_at}

-- numbers of 64 bits, and texts of UTF-8
abbrev pub FitsValue : Value → Type 0
FitsValue value.Null = Unit {0}
FitsValue (value.Int n) = FitsSigned w64 n
FitsValue (value.Text t) = is_utf8 t ≡ true

abbrev pub FitsValues : List Value → Type 0
FitsValues [] = Unit {0}
FitsValues (v ∷ row) = FitsValue v × FitsValues row

abbrev pub FitsChange : Change → Type 0
FitsChange (Insert name row) = FitsValues row
FitsChange (Update name row) = FitsValues row
FitsChange (Delete name key) = FitsValue key

abbrev pub FitsChanges : List Change → Type 0
FitsChanges [] = Unit {0}
FitsChanges (c ∷ changes) = FitsChange c × FitsChanges changes

-- what may stand in the log of a ring with this schema: the changes fit the tables, and each number fits its field
pub record IsTxn (schema : Schema) (txn : Txn) : Type 0 where
  pub tables : is_schema schema ≡ true
  pub fit : changes_fit schema txn.changes ≡ true
  pub number : is_number txn.gtid.number ≡ true
  pub server : txn.gtid.server < 2 ^ 128
  pub values : FitsChanges txn.changes

abbrev pub WrittenIsRead : Type 0
WrittenIsRead =
    (schema : Schema) (txn : Txn) (position : ℕ) (place : Place) (rest : List ℕ) → IsTxn schema txn → 1 ≤ place.sequence
    → txn_at schema (txn_events schema txn position place ++ rest) position place ≡ Ok (record { txn = txn; size = length (txn_events schema txn position place) })

abbrev pub NoneBeginsAnother : Type 0
NoneBeginsAnother =
    (schema : Schema) (a b : Txn) (position : ℕ) (place : Place) (x y : List ℕ) → IsTxn schema a → IsTxn schema b → 1 ≤ place.sequence
    → txn_events schema a position place ++ x ≡ txn_events schema b position place ++ y → (a ≡ b) × (x ≡ y)

-- the opid event of a group has 42 bytes, and the events of its transaction the others
abbrev pub EventsHaveSize : Type 0
EventsHaveSize =
    (schema : Schema) (txn : Txn) (position : ℕ) (place : Place) → is_schema schema ≡ true → changes_fit schema txn.changes ≡ true
    → length (txn_events schema txn position place) + 42 ≡ group_bytes schema (payload.Txn txn)

-- the bytes begin with the events of the transaction that was read
pub record IsTxnAtFront (schema : Schema) (bytes : List ℕ) (position : ℕ) (place : Place) (read : TxnRead) : Type 0 where
  pub rest : List ℕ
  pub parts : bytes ≡ txn_events schema read.txn position place ++ rest
  pub size : read.size ≡ length (txn_events schema read.txn position place)
  pub txn : IsTxn schema read.txn
  pub sequence : 1 ≤ place.sequence

abbrev pub ReadIsAtFront : Type 0
ReadIsAtFront =
    (schema : Schema) (bytes : List ℕ) (position : ℕ) (place : Place) (read : TxnRead) → is_schema schema ≡ true → IsBytes bytes → txn_at schema bytes position place ≡ Ok read → IsTxnAtFront schema bytes position place read
