-- A field that a reader finds or misses is found or missed alike by a form, whichever faults the two name: what is found does not depend on them.
use Rattle.std.proofs.Common.{◌≡◌, ℕ, List, Ok, Err, refl}
use Rattle.event_frame.specs.Forms.{Found, Part, Cut, Wrong, found}
use Rattle.event_frame.specs.declared.field_readers.FieldFault.{FieldFault}
use Rattle.event_frame.specs.declared.field_readers.FieldFault.TheVariants as field
use Rattle.event_txn.specs.declared.faults.BodyFault.{BodyFault}
use Rattle.event_txn.specs.declared.faults.BodyFault.TheVariants as fault
use Rattle.event_txn.specs.Reading.{fault_of}

pub found_again : {X : Type 0} (at : Found X) (wrong : BodyFault) (p : X × List ℕ) → found field.Cut field.Wrong at ≡ Ok p → found fault.Field wrong at ≡ Ok p
found_again (Part x rest) wrong p h = let e : (x, rest) ≡ p = cc in rw e refl
found_again Cut wrong p h = absurd cc
found_again Wrong wrong p h = absurd cc

pub fault_again : {X : Type 0} (at : Found X) (wrong : BodyFault) (f : FieldFault) → found field.Cut field.Wrong at ≡ Err f → found fault.Field wrong at ≡ Err (fault_of wrong f)
fault_again (Part x rest) wrong f h = absurd cc
fault_again Cut wrong f h = let e : field.Cut ≡ f = cc in rw (← e) refl
fault_again Wrong wrong f h = let e : field.Wrong ≡ f = cc in rw (← e) refl
