-- A schedule cut into lines, and a line cut at a byte outside quotes: into its parts at `;`, and a part into its words at spaces.
use Rattle.std.specs.Prelude.{ℕ, ◌==◌, Bool, false, not, ◌&&◌, List, [], ◌∷◌, if◌then◌else◌, Option, Some, None}
use Rattle.std.specs.List.{onto_first, slice_split}

-- what stands between the line feeds
abbrev pub lines : List ℕ → List (List ℕ)
lines bytes = slice_split (λ b. b == 10) bytes

abbrev pub Word : Type 0
Word = List ℕ

-- a quote begins a quoted text, and the next one ends it
abbrev pub still_quoted : Bool → ℕ → Bool
still_quoted quoted b = if b == 39 then not quoted else quoted

-- the pieces between the bytes `at` that stand outside quotes, where the first byte stands in a quoted text or not
abbrev pub pieces : ℕ → Bool → List ℕ → List (List ℕ)
pieces at quoted [] = [] ∷ []
pieces at quoted (b ∷ bs) = if b == at && not quoted then [] ∷ pieces at false bs else onto_first b (pieces at (still_quoted quoted b) bs)

-- the words of a part, and the parts of a line
abbrev pub words : List ℕ → List Word
words bytes = pieces 32 false bytes

abbrev pub parts : List ℕ → List (List ℕ)
parts line = pieces 59 false line

-- the pieces of what is left after a piece: nothing, or the byte that ended it and what follows
abbrev pub pieces_after : ℕ → List ℕ → List (List ℕ)
pieces_after at [] = []
pieces_after at (b ∷ bs) = pieces at false bs

abbrev pub words_after : List ℕ → List Word
words_after rest = pieces_after 32 rest

abbrev pub parts_after : List ℕ → List (List ℕ)
parts_after rest = pieces_after 59 rest

-- the first of several, and the others
abbrev pub first_of : {A : Type 0} → List A → Option (A × List A)
first_of [] = None
first_of (x ∷ xs) = Some (x, xs)
