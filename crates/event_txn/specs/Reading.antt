-- What a reader that may want memory returned, seen by a view, is what a form says of the bytes; want of memory is free.
use Rattle.std.specs.Prelude.{◌≡◌, ◌≤◌, ℕ, Result, Ok, Err}
use Rattle.event_frame.specs.declared.field_readers.FieldFault.{FieldFault}
use Rattle.event_frame.specs.declared.field_readers.FieldFault.TheVariants as field
use Rattle.event_txn.specs.declared.faults.BodyFault.{BodyFault}
use Rattle.event_txn.specs.declared.faults.BodyFault.TheVariants as fault
use Rattle.event_txn.specs.declared.faults.RowError.{RowError}
use Rattle.event_txn.specs.declared.faults.RowError.TheVariants as row
use Rattle.event_txn.specs.declared.faults.TxnError.{TxnError}
use Rattle.event_txn.specs.declared.faults.TxnError.TheVariants as error

-- a cut field is one kind of fault; a field with another value is the kind that its table names
abbrev pub fault_of : BodyFault → FieldFault → BodyFault
fault_of wrong field.Cut = fault.Field
fault_of wrong field.Wrong = wrong

abbrev pub Fails : {Y : Type 0} → RowError → Result Y BodyFault → Type 0
Fails row.Memory read = Unit {0}
Fails (row.Fault f) read = read ≡ Err f

abbrev pub Reads : {X Y : Type 0} → (X → Y) → Result X RowError → Result Y BodyFault → Type 0
Reads view (Ok x) read = read ≡ Ok (view x)
Reads view (Err e) read = Fails e read

abbrev pub FailsTxn : {Y : Type 0} → TxnError → Result Y TxnError → Type 0
FailsTxn error.Memory read = Unit {0}
FailsTxn e read = read ≡ Err e

abbrev pub GivesTxn : {X Y : Type 0} → (X → Y) → Result X TxnError → Result Y TxnError → Type 0
GivesTxn view (Ok x) read = read ≡ Ok (view x)
GivesTxn view (Err e) read = FailsTxn e read

-- the offset of the event at fault
abbrev pub offset_of : TxnError → ℕ
offset_of (error.Order at) = at
offset_of (error.Field at) = at
offset_of (error.Table at) = at
offset_of (error.Value at) = at
offset_of (error.Frame at fault) = at
offset_of error.Memory = 0

-- an event at fault begins at this offset or before it
abbrev pub FaultsBy : {X : Type 0} → ℕ → Result X TxnError → Type 0
FaultsBy last (Ok x) = Unit {0}
FaultsBy last (Err e) = offset_of e ≤ last
