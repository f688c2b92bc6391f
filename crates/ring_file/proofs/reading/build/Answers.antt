-- a refusal that is no want of memory is the one that was to be made
use Rattle.std.proofs.Common.{◌≡◌, Result, Err, refl}
use Rattle.ring_types.specs.Rings.{Layout, Answers}
use Rattle.ring_types.specs.declared.rings.BuildError.{BuildError}
use Rattle.ring_types.specs.declared.rings.BuildError.TheVariants.{TooMany, TwiceNamed, NoRegion, NoVoter, BadSchema, Memory}
use Rattle.ring_file.specs.Documents.{fault_of, as_ring}
use Rattle.ring_file.specs.declared.faults.RingError.TheVariants as fault
use Rattle.ring_file.proofs.reading.build.Goals as goal

refused : (wanted : Result Layout BuildError) (e : BuildError) → Answers wanted (Err e) → ¬ (fault_of e ≡ fault.Memory) → as_ring wanted ≡ Err (fault_of e)
refused wanted TooMany h other = rw h
refused wanted TwiceNamed h other = rw h
refused wanted NoRegion h other = rw h
refused wanted NoVoter h other = rw h
refused wanted BadSchema h other = rw h
refused wanted Memory h other = absurd (other refl)

pub returns-in-Err : goal.returns-in-Err
returns-in-Err c = rw c.fault_of.ensures (refused _ c.in-Err.cause c.in-Err.ensures)
