-- Binary log files on a disk. Only private contracts and the store's invariant cite this.
use Rattle.std.specs.Prelude.{◌≡◌, ℕ, suc, ◌+◌, false, List, [], ◌∷◌, ◌++◌, length, take, nat_le}
use Rattle.edge_traits.specs.FileStates.{Contents, FileState, Files, Firm, settled}
use Rattle.edge_traits.specs.Works.{Group}
use Rattle.edge_traits.specs.declared.disks.FileId.TheVariants as file

-- a crash may leave any bytes
abbrev pub IsAny : List ℕ → Type 0
IsAny left = Unit {0}

abbrev pub LeavesAny : Contents → Type 0
LeavesAny c = Unit {0}

-- the files of this number and those that follow
abbrev pub from_file : ℕ → Group
from_file first (file.Binlog n) = nat_le first n
from_file first _ = false

-- file n is synced and the first of these, the next file the second, and so on
abbrev pub AreSettled : Files → ℕ → List (List ℕ) → Type 0
AreSettled files n [] = Unit {0}
AreSettled files n (bytes ∷ more) = (files (file.Binlog n) ≡ settled bytes) × AreSettled files (suc n) more

-- the file ends there, and all its bytes stand, whatever a crash leaves
pub record EndsAt (at : ℕ) (file : FileState) : Type 0 where
  pub long : length file.bytes ≡ at
  pub firm : Firm at file

-- so many bytes at the front are these
abbrev pub Begins : ℕ → List ℕ → List ℕ → Type 0
Begins at bytes left = take at left ≡ bytes

abbrev pub LeavesFront : ℕ → ℕ → List ℕ → Contents → Type 0
LeavesFront n at bytes c = Begins at bytes (c (file.Binlog n))

-- file n goes on with the first of these behind its bytes, and the others follow it
abbrev pub AreAdded : Files → ℕ → List ℕ → List (List ℕ) → Type 0
AreAdded files n bytes [] = Unit {0}
AreAdded files n bytes (first ∷ others) = (files (file.Binlog n) ≡ settled (bytes ++ first)) × AreSettled files (n + 1) others
