use Rattle.std.specs.Prelude.{◌≡◌, ◌≢◌, ◌⊎◌, ℕ, ◌≤◌, List}
use Rattle.edge_traits.specs.DiskCalls.{Same, Elsewhere}
use Rattle.edge_traits.specs.FileStates.{Contents, Files, MayLeave}
use Rattle.edge_traits.specs.declared.disks.FileId.{FileId}

-- At each moment from old to new, whatever a crash might have left has P, or it might have been left before.
pub record LeavesOnly {D : Type 0} (moment : D → ℕ) (left_since : D → ℕ → Contents → Type 0) (old new : D) (P : Contents → Type 0) : Type 0 where
  pub later : moment old ≤ moment new
  pub each : (t : ℕ) (left : Contents) → t ≤ moment old → left_since new t left → left_since old t left ⊎ P left

-- what a crash might have left before, it might have left since
abbrev pub Remembers : {D : Type 0} → (D → ℕ) → (D → ℕ → Contents → Type 0) → D → D → Type 0
Remembers moment left_since old new = (t : ℕ) (left : Contents) → t ≤ moment old → left_since old t left → left_since new t left

-- the files, the moment, and what a crash might have left at each are the same
pub record IsUnmoved {D : Type 0} (files : D → Files) (moment : D → ℕ) (left_since : D → ℕ → Contents → Type 0) (old new : D) : Type 0 where
  pub same : Same (files old) (files new)
  pub at_once : moment new ≡ moment old
  pub no_more : (t : ℕ) (left : Contents) → left_since new t left → left_since old t left
  pub no_less : (t : ℕ) (left : Contents) → left_since old t left → left_since new t left

-- A crash leaves of this file what has Q, and of every other one what it may leave of these.
pub record LeavesAt (file : FileId) (files : Files) (Q : List ℕ → Type 0) (left : Contents) : Type 0 where
  pub here : Q (left file)
  pub elsewhere : (other : FileId) → other ≢ file → MayLeave (files other) (left other)

-- From old to new this file alone changed, and at each moment of it a crash leaves of this file what has Q.
pub record AtEachMoment {D : Type 0} (files : D → Files) (moment : D → ℕ) (left_since : D → ℕ → Contents → Type 0) (file : FileId) (old new : D)
    (Q : List ℕ → Type 0) : Type 0 where
  pub elsewhere : Elsewhere file (files old) (files new)
  pub now : (left : List ℕ) → MayLeave (files new file) left → Q left
  pub moments : LeavesOnly moment left_since old new (LeavesAt file (files old) Q)
