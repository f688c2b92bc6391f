-- Files are read one after the other: each is synced and keeps its bytes, and the others stay as they are.
use Rattle.std.proofs.Common.{◌≡◌, ◌≢◌, ℕ, ◌+◌, ◌<◌, ⊎_elim, sym, ap, ◌∙◌, arith}
use Rattle.std.proofs.Math.Nat.{eq-or-lt_of_le}
use Rattle.edge_traits.specs.DiskCalls.{Elsewhere}
use Rattle.edge_traits.specs.FileStates.{FileState, Files, settled}
use Rattle.edge_traits.specs.declared.disks.FileId.{FileId}
use Rattle.edge_traits.specs.declared.disks.FileId.TheVariants as file
use Rattle.edge_traits.proofs.Rereading.{same_or}
use Rattle.binlog_store.specs.Mounting.{AreRead, HaveTheirBytes}

number_of : ℕ → FileId → ℕ
number_of other (file.Binlog n) = n
number_of other _ = other

pub same_number : (n k : ℕ) → file.Binlog n ≡ file.Binlog k → n ≡ k
unfolding number_of
same_number n k is = ap (number_of n) is

module _ (old mid new : Files) (k : ℕ) (other : Elsewhere (file.Binlog k) mid new) (before : HaveTheirBytes old mid) where
  pub same_then : (new (file.Binlog k)).bytes ≡ (mid (file.Binlog k)).bytes → HaveTheirBytes old new
  same_then here n =
      ⊎_elim
      (λ (is : file.Binlog n ≡ file.Binlog k). ap (λ (f : FileId). (new f).bytes) is ∙ (here ∙ (ap (λ (f : FileId). (mid f).bytes) (sym is) ∙ before n)))
      (λ (apart : file.Binlog n ≢ file.Binlog k). ap (λ (s : FileState). s.bytes) (other (file.Binlog n) apart) ∙ before n)
      (same_or (file.Binlog n) (file.Binlog k))

  pub read_then : new (file.Binlog k) ≡ settled (mid (file.Binlog k)).bytes → AreRead k old mid → AreRead (k + 1) old new
  read_then here read n one less =
      ⊎_elim
      (λ (is : n ≡ k). ap (λ (m : ℕ). new (file.Binlog m)) is ∙ (here ∙ ap settled (ap (λ (m : ℕ). (mid (file.Binlog m)).bytes) (sym is) ∙ before n)))
      (λ (below : n < k). other (file.Binlog n) (λ is. absurd (omega (arith, same_number n k is, below))) ∙ read n one below)
      (eq-or-lt_of_le (omega (arith, less)))

  pub control_then : mid file.LogCtl ≡ old file.LogCtl → new file.LogCtl ≡ old file.LogCtl
  control_then was = other file.LogCtl (λ is. cc) ∙ was
