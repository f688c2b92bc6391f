-- A sync of a file leaves a store mounted: the file reads the same, and all of it stands.
use Rattle.std.proofs.Common.{◌≡◌, ◌≢◌, ℕ, suc, List, [], ◌∷◌, length, ◌⊎◌, inl, inr, ⊎_elim, sym, ap, subst, ◌∙◌, arith}
use Rattle.ring_types.specs.declared.schemas.Schema.{Schema}
use Rattle.edge_traits.specs.DiskCalls.{Elsewhere}
use Rattle.edge_traits.specs.FileStates.{FileState, Files, settled}
use Rattle.edge_traits.specs.declared.disks.FileId.{FileId}
use Rattle.edge_traits.specs.declared.disks.FileId.TheVariants as file
use Rattle.edge_traits.proofs.FileStates.{firm_settled}
use Rattle.edge_traits.proofs.Rereading.{same_or}
use Rattle.control_block.specs.Blocks.{Stands}
use Rattle.entry_group.specs.Files.{files}
use Rattle.binlog_store.specs.Mounted.{AreHeld, IsLast, IsMounted, log_of}
use Rattle.binlog_store.specs.declared.stores.BinlogStore.{BinlogStore}

settled_last : (bytes : List ℕ) (old new : FileState) → new ≡ settled old.bytes → IsLast bytes old → IsLast bytes new
settled_last bytes old new is last =
    subst (IsLast bytes) (sym is)
    (record { reads = last.reads; ends = record { long = last.ends.long; firm = firm_settled (length bytes) old.bytes (omega (arith, last.ends.long)) } })

module _ (old new : Files) (k : ℕ) (here : new (file.Binlog k) ≡ settled (old (file.Binlog k)).bytes) (other : Elsewhere (file.Binlog k) old new) where
  either : (n : ℕ) → (new (file.Binlog n) ≡ settled (old (file.Binlog n)).bytes) ⊎ (new (file.Binlog n) ≡ old (file.Binlog n))
  either n =
      ⊎_elim
      (λ (is : file.Binlog n ≡ file.Binlog k). inl (subst (λ (f : FileId). new f ≡ settled (old f).bytes) (sym is) here))
      (λ (apart : file.Binlog n ≢ file.Binlog k). inr (other (file.Binlog n) apart))
      (same_or (file.Binlog n) (file.Binlog k))

  held_still : (n : ℕ) (written : List (List ℕ)) → AreHeld old n written → AreHeld new n written
  held_still n [] held = held
  held_still n (bytes ∷ []) held =
      ⊎_elim
      (λ (is : new (file.Binlog n) ≡ settled (old (file.Binlog n)).bytes). settled_last bytes (old (file.Binlog n)) (new (file.Binlog n)) is held)
      (λ (is : new (file.Binlog n) ≡ old (file.Binlog n)). subst (IsLast bytes) (sym is) held)
      (either n)
  held_still n (bytes ∷ (next ∷ more)) held = (
    ⊎_elim
        (λ (is : new (file.Binlog n) ≡ settled (old (file.Binlog n)).bytes). is ∙ ap (λ (s : FileState). settled s.bytes) held.0)
        (λ (is : new (file.Binlog n) ≡ old (file.Binlog n)). is ∙ held.0)
        (either n),
    held_still (suc n) (next ∷ more) held.1,
  )

  pub mounted_still : (schema : Schema) (store : BinlogStore) → IsMounted schema store old → IsMounted schema store new
  mounted_still schema store mounted = record {
    control = subst (Stands store.control) (sym (other file.LogCtl (λ is. cc))) mounted.control;
    files = held_still 1 (files schema (log_of store)) mounted.files;
  }
