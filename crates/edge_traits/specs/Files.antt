use Rattle.std.specs.Prelude.{ℕ, List, Option, option_map, find, nat_eq}
use Rattle.std.specs.Cmp.Lexicographic.{pointwise}
use Rattle.edge_traits.specs.Calls.{Calls}
use Rattle.edge_traits.specs.declared.files.ShelfFile.{ShelfFile}

-- the first file of that name
abbrev pub file_of : List ShelfFile → List ℕ → Option ShelfFile
file_of files name = find (λ (f : ShelfFile). pointwise nat_eq f.name name) files

-- the bytes under a name: where it stands twice, those of the first file
abbrev pub held : List ShelfFile → List ℕ → Option (List ℕ)
held files name = option_map (λ (f : ShelfFile). f.bytes) (file_of files name)

-- what a shelf in memory holds
pub record ShelfState : Type 0 where
  pub files : List ShelfFile
  pub calls : Calls
