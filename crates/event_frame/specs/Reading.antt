-- What a reader of the code returned, seen by a view, is what a form or a field says of the bytes.
use Rattle.std.specs.Prelude.{◌≡◌, Result, Ok, Err}

abbrev pub Gives : {X Y E : Type 0} → (X → Y) → Result X E → Result Y E → Type 0
Gives view (Ok x) read = read ≡ Ok (view x)
Gives view (Err e) read = read ≡ Err e
