-- How readings follow one another, and what a function returned whose reading is known.
use Rattle.std.specs.Prelude.{◌≡◌, Bool, List, [], ◌∷◌, Option, Some, None, Result, Ok, Err, if◌then◌else◌}
use Rattle.schedule_text.specs.declared.faults.LineError.{LineError}
use Rattle.schedule_text.specs.declared.faults.LineError.TheVariants as fault

-- what is read of the first, where it has a form
infixl 10 ◌>>=◌
abbrev pub ◌>>=◌ : {A B : Type 0} → Option A → (A → Option B) → Option B
None >>= f = None
(Some x) >>= f = f x

-- goes on only where the test holds
abbrev pub provided : Bool → Option (Unit {0})
provided b = if b then Some tt else None

-- goes on only where nothing is left
abbrev pub ended : {A : Type 0} → List A → Option (Unit {0})
ended [] = Some tt
ended (x ∷ xs) = None

-- what was returned is, seen by view, what is read, unless memory ran out
abbrev pub Fails : {Y : Type 0} → LineError → Option Y → Type 0
Fails fault.Memory read = Unit {0}
Fails fault.NoForm read = read ≡ None

abbrev pub Gives : {X Y : Type 0} → (X → Y) → Result X LineError → Option Y → Type 0
Gives view (Ok x) read = read ≡ Some (view x)
Gives view (Err e) read = Fails e read
