-- What a ring file is refused for, where the fault is, and how one step follows another.
use Rattle.std.specs.Prelude.{◌≡◌, ℕ, ◌++◌, List, codes, decimal, Option, Some, None, Result, Ok, Err, MatchResult}
use Rattle.ring_file.specs.declared.faults.RingError.{RingError}
use Rattle.ring_file.specs.declared.faults.RingError.TheVariants as fault
use Rattle.ring_file.specs.declared.faults.Within.{Within}
use Rattle.ring_file.specs.declared.faults.Within.TheVariants as within

-- a step, and the next one with what it gave; the first fault ends all
infixl 10 ◌>>=◌
abbrev pub ◌>>=◌ : {A B : Type 0} → Result A RingError → (A → Result B RingError) → Result B RingError
Ok x >>= next = next x
Err e >>= next = Err e

-- what a call answers where this is to be made, with its result as `see` sees it: the same, or want of memory
abbrev pub GivesAs : {A B : Type 0} → (B → A) → Result A RingError → Result B RingError → Type 0
GivesAs see wanted result = MatchResult result (λ x. wanted ≡ Ok (see x)) (λ e. ¬ (e ≡ fault.Memory) → wanted ≡ Err e)

abbrev pub Gives : {A : Type 0} → Result A RingError → Result A RingError → Type 0
Gives wanted result = GivesAs (λ x. x) wanted result

-- ---- places
-- a key of the table of that number in an array
abbrev pub numbered : List ℕ → ℕ → List ℕ → List ℕ
numbered array number key = array ++ codes "[" ++ decimal number ++ codes "]." ++ key

-- how a key of a table is written
abbrev pub place : Within → List ℕ → List ℕ
place within.Top key = key
place (within.Node number) key = numbered (codes "node") number key
place (within.Client number) key = numbered (codes "client") number key
place (within.Table number) key = numbered (codes "table") number key

-- the value that a key was found to have, if it is in its range
abbrev pub in_range : {A : Type 0} → Within → List ℕ → Option A → Result A RingError
in_range table key None = Err (fault.Range (place table key))
in_range table key (Some x) = Ok x
