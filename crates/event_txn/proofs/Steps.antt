-- A form's fields are read one behind another, so each step goes on with the value of the step before, and the first that fails is the fault of all.
use Rattle.std.proofs.Common.{◌≡◌, Ok, Err, refl}
use Rattle.std.specs.Prelude.{Result}
use Rattle.event_frame.specs.Forms.{and_then}

pub goes_on : {A B E : Type 0} (r : Result A E) (x : A) (f : A → Result B E) (all : Result B E) → r ≡ Ok x → f x ≡ all → and_then r f ≡ all
goes_on r x f all is next = rw is next

pub fails : {A B E : Type 0} (r : Result A E) (e : E) (f : A → Result B E) → r ≡ Err e → and_then r f ≡ Err e
fails r e f is = rw is refl
