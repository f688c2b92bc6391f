-- What a reader that may want memory returned is what the definition says of the bytes; want of memory is free.
use Rattle.std.specs.Prelude.{◌≡◌, ℕ, Result, Ok, Err}
use Rattle.entry_group.specs.declared.groups.EntryError.{EntryError}
use Rattle.entry_group.specs.declared.groups.EntryError.TheVariants.{Memory, NotAnEntry}

abbrev pub Fails : {X : Type 0} → EntryError → Result X EntryError → Type 0
Fails Memory read = Unit {0}
Fails e read = read ≡ Err e

abbrev pub Gives : {X Y : Type 0} → (X → Y) → Result X EntryError → Result Y EntryError → Type 0
Gives view (Ok x) read = read ≡ Ok (view x)
Gives view (Err e) read = Fails e read

-- where the first event begins that no group has there
abbrev pub fault_at : EntryError → ℕ
fault_at (NotAnEntry at why) = at
fault_at Memory = 0
