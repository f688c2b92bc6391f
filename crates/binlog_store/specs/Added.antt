-- What more entries make of the files of a log: the last file goes on, and others follow it.
use Rattle.std.specs.Prelude.{◌≡◌, ℕ, ◌+◌, List, [], ◌∷◌, ◌++◌, length}
use Rattle.ring_types.specs.declared.entries.Entry.{Entry}
use Rattle.ring_types.specs.declared.entries.Place.{Place}
use Rattle.ring_types.specs.declared.schemas.Schema.{Schema}
use Rattle.entry_group.specs.Files.{files, files_from, first_place, onto, place_behind}
use Rattle.binlog_store.specs.Stands.{last_length}

-- the last of these files goes on with the first of the others, and the rest of them follow
abbrev pub continued : List (List ℕ) → List (List ℕ) → List (List ℕ)
continued [] more = more
continued (f ∷ []) more = onto f more
continued (f ∷ (g ∷ written)) more = f ∷ continued (g ∷ written) more

-- where the last of these files ends, the first of which goes on from this offset
abbrev pub reach : ℕ → List (List ℕ) → ℕ
reach at [] = at
reach at (f ∷ []) = at + length f
reach at (f ∷ (g ∷ more)) = last_length (g ∷ more)

-- where the entry behind these begins
abbrev pub place_from : Schema → Place → List Entry → List Entry → Place
place_from schema p before [] = p
place_from schema p before (e ∷ log) = place_from schema (place_behind schema before e p) (before ++ e ∷ []) log

abbrev pub end_of : Schema → List Entry → Place
end_of schema log = place_from schema first_place [] log

-- what these entries add to the files of the log
abbrev pub added : Schema → List Entry → List Entry → List (List ℕ)
added schema log entries = files_from schema (end_of schema log) log entries

-- the files of a longer log are those of the log, continued by what the entries add
abbrev pub FilesGoOn : Type 0
FilesGoOn = (schema : Schema) (log entries : List Entry) → files schema (log ++ entries) ≡ continued (files schema log) (added schema log entries)
