-- What a run of the program did to the objects that it was lent: each before and after, in one record.
use Rattle.std.specs.Prelude.{ℕ, List, Option}
use Rattle.edge_traits.specs.Counts.{Rose}

-- the bytes of each file by its name, where the shelf tells its files
abbrev pub Files : Type 0
Files = Option (List ℕ → Option (List ℕ))

-- a shelf: the files that it tells, which no fetch changes, and its count of faults before and after
pub record ShelfSpan : Type 0 where
  pub files : Files
  pub before : ℕ
  pub after : ℕ

-- an output: the bytes that it had taken before and after, where it tells them, and its count of faults before and after
pub record SinkSpan : Type 0 where
  pub old : Option (List ℕ)
  pub new : Option (List ℕ)
  pub before : ℕ
  pub after : ℕ

abbrev pub shelf_span : {S : Type 0} → (S → Files) → (S → ℕ) → S → S → ShelfSpan
shelf_span files faults old new = record { files = files old; before = faults old; after = faults new }

abbrev pub sink_span : {S : Type 0} → (S → Option (List ℕ)) → (S → ℕ) → S → S → SinkSpan
sink_span taken faults old new = record { old = taken old; new = taken new; before = faults old; after = faults new }

-- no fault came
abbrev pub ShelfIsSteady : ShelfSpan → Type 0
ShelfIsSteady s = Rose s.before s.after → ⊥

abbrev pub SinkIsSteady : SinkSpan → Type 0
SinkIsSteady s = Rose s.before s.after → ⊥
