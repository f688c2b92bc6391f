-- What a block says of its file, in the words of a store that has the file among its own.
use Rattle.std.proofs.Common.{◌≡◌, ◌≢◌, ℕ, ◌⊎◌, inl, inr, true, List, Option, Some}
use Rattle.edge_traits.specs.FileStates.{Contents, Files}
use Rattle.edge_traits.specs.Moments.{AtEachMoment}
use Rattle.edge_traits.specs.Works.{Group, Telling, Holds, HoldsOn, MayOut, Works, WorksOn, Switches, IsTelling, telling}
use Rattle.edge_traits.specs.declared.disks.FileId.{FileId}
use Rattle.edge_traits.proofs.Working.{AreWithin, false_of, holds_settled, works_at, works_then, works_weaker}
use Rattle.edge_traits.proofs.Rereading.{works_reread}
use Rattle.control_block.specs.ControlFiles.{control_of, IsEither}
use Rattle.control_block.specs.Blocks.{Stands, IsAsBefore}
use Rattle.control_block.specs.declared.blocks.ControlBlock.{ControlBlock}
use Rattle.control_block.proofs.Mounted.{stands_for}

-- a file that stands for a block holds its bytes
pub block_holds : (own : Group) (now : Telling) (file : FileId) (block : ControlBlock) → own file ≡ true → Stands block (now.files file)
    → Holds own now (λ c. control_of (c file) ≡ Some block.bytes)
block_holds own now file block mine stands = holds_settled own now file (now.files file).bytes
    (λ bytes. control_of bytes ≡ Some block.bytes) mine stands.synced (stands_for block (now.files file) stands)

module _ {D : Type 0} {files : D → Files} {moment : D → ℕ} {left_since : D → ℕ → Contents → Type 0} {file : FileId} where
  -- a switch of a block is one of the store
  pub switch_works : {old new : D} (own : Group) (before : Option (List ℕ)) (bytes : List ℕ) → own file ≡ true
      → AtEachMoment files moment left_since file old new (IsEither before bytes)
      → Switches own files moment left_since old new (λ c. control_of (c file) ≡ Some before) (λ c. control_of (c file) ≡ Some (Some bytes))
  switch_works own before bytes mine run = works_at own mine run

  -- a mount of a block leaves what the store's files held, where that reads this file as a control file
  pub mount_works : {old new : D} (own : Group) (P : Contents → Type 0) → own file ≡ true → IsTelling (telling files moment left_since old)
      → ((b c : Contents) → ((f : FileId) → f ≢ file → b f ≡ c f) → control_of (b file) ≡ control_of (c file) → P b → P c)
      → HoldsOn own files moment left_since old P → AtEachMoment files moment left_since file old new (IsAsBefore (files old file))
      → WorksOn own files moment left_since old new P
  mount_works own P mine tells by held run = works_reread own control_of P mine tells by held run

-- ---- a call that works on some of the files, beside what the others hold
pub works_beside : (own more : Group) (a b : Telling) (P Q : Contents → Type 0) → AreWithin own more → ((c : Contents) → P c → MayOut own a.files c → Q c)
    → Works own a b P
    → Works more a b Q
works_beside own more a b P Q within told x = record {
  crash = record { later = x.crash.later; before = λ t c early left. turn t c (x.crash.before t c early left) };
  others = λ f out. x.others f (false_of own more within f out);
}
  where
    turn : (t : ℕ) (c : Contents) → (a.left_since t c ⊎ (P c × MayOut own a.files c)) → a.left_since t c ⊎ (Q c × MayOut more a.files c)
    turn t c (inl old) = inl old
    turn t c (inr new) = inr (told c new.0 new.1, λ f out. new.1 f (false_of own more within f out))

-- ---- one phase and then the other
once : (P Q : Contents → Type 0) (c : Contents) → P c ⊎ (P c ⊎ Q c) → P c ⊎ Q c
once P Q c (inl x) = inl x
once P Q c (inr x) = x

twice : (P Q : Contents → Type 0) (c : Contents) → (P c ⊎ Q c) ⊎ Q c → P c ⊎ Q c
twice P Q c (inl x) = x
twice P Q c (inr x) = inr x

-- what is written first, then the switch
pub write_then_switch : (own : Group) (a b z : Telling) (P Q : Contents → Type 0) → Works own a b P → Works own b z (λ c. P c ⊎ Q c)
    → Works own a z (λ c. P c ⊎ Q c)
write_then_switch own a b z P Q first second =
    works_weaker own a z (λ c. P c ⊎ (P c ⊎ Q c)) (λ c. P c ⊎ Q c) (once P Q) (works_then own a b z P (λ c. P c ⊎ Q c) first second)

-- the switch first, then what is cut
pub switch_then_cut : (own : Group) (a b z : Telling) (P Q : Contents → Type 0) → Works own a b (λ c. P c ⊎ Q c) → Works own b z Q
    → Works own a z (λ c. P c ⊎ Q c)
switch_then_cut own a b z P Q first second =
    works_weaker own a z (λ c. (P c ⊎ Q c) ⊎ Q c) (λ c. P c ⊎ Q c) (twice P Q) (works_then own a b z (λ c. P c ⊎ Q c) Q first second)
