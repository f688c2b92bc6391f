-- A call that works on some files: what a crash leaves at each moment of it, and what the files hold after it.
use Rattle.std.specs.Prelude.{◌≡◌, ℕ, ◌≤◌, ◌⊎◌, Bool, true, false}
use Rattle.edge_traits.specs.FileStates.{Contents, Files, MayLeave}
use Rattle.edge_traits.specs.declared.disks.FileId.{FileId}

-- some of the files
abbrev pub Group : Type 0
Group = FileId → Bool

abbrev pub all_files : Group
all_files f = true

-- a content of which each file among these is what a crash may leave of it
abbrev pub MayIn : Group → Files → Contents → Type 0
MayIn among files c = (f : FileId) → among f ≡ true → MayLeave (files f) (c f)

-- the other files are what a crash may leave of them
abbrev pub MayOut : Group → Files → Contents → Type 0
MayOut own files c = (f : FileId) → own f ≡ false → MayLeave (files f) (c f)

-- whatever a crash leaves of these files has P
abbrev pub Ensures : Group → Files → (Contents → Type 0) → Type 0
Ensures among files P = (c : Contents) → MayIn among files c → P c

-- P reads only these files
abbrev pub Reads : Group → (Contents → Type 0) → Type 0
Reads among P = (b c : Contents) → ((f : FileId) → among f ≡ true → b f ≡ c f) → P b → P c

-- what a disk tells at a moment
pub record Telling : Type 1 where
  pub files : Files
  pub moment : ℕ
  pub left_since : ℕ → Contents → Type 0

abbrev pub telling : {D : Type 0} → (D → Files) → (D → ℕ) → (D → ℕ → Contents → Type 0) → D → Telling
telling files moment left_since disk = record { files = files disk; moment = moment disk; left_since = left_since disk }

-- what is read
abbrev pub seen : Telling → Contents
seen now f = (now.files f).bytes

-- at each moment from the one to the other a crash leaves what has P, or it might have been left before
pub record LeavesBetween (old new : Telling) (P : Contents → Type 0) : Type 0 where
  pub later : old.moment ≤ new.moment
  pub before : (t : ℕ) (c : Contents) → t ≤ old.moment → new.left_since t c → old.left_since t c ⊎ P c

-- THE clause of a call that works on its own files: at each moment of it a crash leaves own files that have
-- P, and of the others what it might have left of them before; the others are as they were
pub record Works (own : Group) (old new : Telling) (P : Contents → Type 0) : Type 0 where
  pub crash : LeavesBetween old new (λ c. P c × MayOut own old.files c)
  pub others : (f : FileId) → own f ≡ false → new.files f ≡ old.files f

-- these files hold what P says: what is read, and all that a crash may leave
pub record Holds (among : Group) (now : Telling) (P : Contents → Type 0) : Type 0 where
  pub read : P (seen now)
  pub kept : Ensures among now.files P

-- what is read now is among what a crash now may leave; a crash now is one since any earlier moment; and since now there is no other
pub record IsTelling (now : Telling) : Type 0 where
  pub read : (f : FileId) → MayLeave (now.files f) (now.files f).bytes
  pub counts : (t : ℕ) (c : Contents) → t ≤ now.moment → ((f : FileId) → MayLeave (now.files f) (c f)) → now.left_since t c
  pub only : (c : Contents) → now.left_since now.moment c → (f : FileId) → MayLeave (now.files f) (c f)

-- of these files, what a disk reads and all that a crash may leave has P
abbrev pub HoldsOn : {D : Type 0} → Group → (D → Files) → (D → ℕ) → (D → ℕ → Contents → Type 0) → D → (Contents → Type 0) → Type 0
HoldsOn own files moment left_since disk P = Holds own (telling files moment left_since disk) P

-- the clause of a call of a disk
abbrev pub WorksOn : {D : Type 0} → Group → (D → Files) → (D → ℕ) → (D → ℕ → Contents → Type 0) → D → D → (Contents → Type 0) → Type 0
WorksOn own files moment left_since old new P = Works own (telling files moment left_since old) (telling files moment left_since new) P

-- the clause of a switch: a crash leaves of the own files what has P or what has Q
abbrev pub Switches : {D : Type 0} → Group → (D → Files) → (D → ℕ) → (D → ℕ → Contents → Type 0) → D → D → (Contents → Type 0) → (Contents → Type 0) → Type 0
Switches own files moment left_since old new P Q = WorksOn own files moment left_since old new (λ c. P c ⊎ Q c)
