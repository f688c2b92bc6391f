-- The words of the program: `replay` and the names of the two files.
use Rattle.std.specs.Prelude.{ℕ, ◌==◌, Bool, false, not, ◌||◌, List, [], ◌∷◌, bytes_eq, codes, if◌then◌else◌, Result, Ok, Err}
use Rattle.myraft_run.specs.declared.words.Names.{Names}
use Rattle.myraft_run.specs.declared.stops.Stop.{Stop}
use Rattle.myraft_run.specs.declared.stops.Stop.TheVariants as stop
use Rattle.myraft_run.specs.declared.stops.File.{File}
use Rattle.myraft_run.specs.declared.stops.File.TheVariants as file

-- the name begins with a dash
abbrev pub is_dashed : List ℕ → Bool
is_dashed [] = false
is_dashed (first ∷ name) = first == 45

-- the words are `replay` and two names without a dash in front
abbrev pub named : List ℕ → List ℕ → List ℕ → Result Names Stop
named verb ring schedule =
    if not (bytes_eq verb (codes "replay")) || is_dashed ring || is_dashed schedule then Err stop.Unbuilt else Ok (record { ring = ring; schedule = schedule })

-- the names that the words give
abbrev pub names_of : List (List ℕ) → Result Names Stop
names_of (verb ∷ ring ∷ schedule ∷ []) = named verb ring schedule
names_of _ = Err stop.Unbuilt

-- the name of a file among the words
abbrev pub name_in : List (List ℕ) → File → List ℕ
name_in (verb ∷ ring ∷ schedule ∷ []) file.Ring = ring
name_in (verb ∷ ring ∷ schedule ∷ []) file.Schedule = schedule
name_in _ f = []
