-- What a reader that may want memory returned, seen by a view, is what a form says of the bytes. Only private contracts cite this.
use Rattle.std.specs.Prelude.{◌≡◌, Result, Ok, Err}
use Rattle.event_frame.specs.declared.field_readers.FieldFault.{FieldFault}
use Rattle.engine_redo.specs.declared.faults.ItemFault.{ItemFault}
use Rattle.engine_redo.specs.declared.faults.ItemFault.TheVariants as item

abbrev pub Fails : {Y : Type 0} → ItemFault → Result Y FieldFault → Type 0
Fails (item.Field f) read = read ≡ Err f
Fails item.Memory read = Unit {0}

abbrev pub Reads : {X Y : Type 0} → (X → Y) → Result X ItemFault → Result Y FieldFault → Type 0
Reads view (Ok x) read = read ≡ Ok (view x)
Reads view (Err e) read = Fails e read
