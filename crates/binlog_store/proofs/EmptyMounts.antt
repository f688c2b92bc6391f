-- While the first file of an empty log is written, the control file still says that the log is empty.
use Rattle.std.proofs.Common.{◌≡◌, ◌≢◌, ℕ, ◌≤◌, ◌⊎◌, inl, inr, Bool, true, false, List, [], ◌∷◌, ◌++◌, length, Some, None, refl, sym, ap, ◌∙◌, arith, append-nil}
use Rattle.std.specs.Prelude.{nat_le, if◌then◌else◌}
use Rattle.std.proofs.lemmas.Bool.Decides.{nat_tests}
use Rattle.event_frame.specs.declared.frames.TheConstants.{MOST_BODY_BYTES}
use Rattle.gtid_set.specs.Bytes.{set_bytes}
use Rattle.ring_types.specs.Gtids.{gtids}
use Rattle.ring_types.specs.declared.gtid_sets.ServerSet.{ServerSet}
use Rattle.ring_types.specs.declared.schemas.Schema.{Schema}
use Rattle.edge_traits.specs.FileStates.{Contents, Files, MayLeave, settled}
use Rattle.edge_traits.specs.Moments.{AtEachMoment, LeavesAt}
use Rattle.edge_traits.specs.Works.{IsTelling, MayOut, telling}
use Rattle.edge_traits.specs.declared.disks.FileId.{FileId}
use Rattle.edge_traits.specs.declared.disks.FileId.TheVariants as file
use Rattle.control_block.specs.Blocks.{Stands}
use Rattle.control_block.specs.ControlFiles.{control_of}
use Rattle.control_block.specs.declared.blocks.ControlBlock.{ControlBlock}
use Rattle.control_block.proofs.Mounted.{stands_for, stands_left}
use Rattle.entry_group.specs.Files.{files, head_after, head_size, set_in_head, file_sizes}
use Rattle.entry_group.proofs.OneLog.{files_have_sizes}
use Rattle.binlog_store.specs.Files.{IsAny}
use Rattle.binlog_store.specs.Groups.{log_files}
use Rattle.binlog_store.specs.Mounted.{AreHeld, IsSaid}
use Rattle.binlog_store.specs.Mounting.{Keeps, ReadsAsLeft}
use Rattle.binlog_store.proofs.HeldFiles.{settled_held}
use Rattle.binlog_store.proofs.LogSets.{short_set}
use Rattle.binlog_store.proofs.Telling.{written_none}

-- ---- the point of the empty log
set_short : (set : List ServerSet) → length (set_in_head set) ≤ MOST_BODY_BYTES
set_short set = go (nat_le (length (set_bytes set)) MOST_BODY_BYTES) refl
  where
    go : (b : Bool) → nat_le (length (set_bytes set)) MOST_BODY_BYTES ≡ b → length (if b then set_bytes set else set_bytes []) ≤ MOST_BODY_BYTES
    go true short = grind (arith, nat_tests, short)
    go false long = short_set [] (set_bytes []) refl refl

first_of : List ℕ → ℕ
first_of [] = 0
first_of (x ∷ more) = x

first_long : (schema : Schema) → length (head_after [] ++ []) ≡ head_size []
unfolding files file_sizes first_of
first_long schema = ap first_of (files_have_sizes schema [] tt)

pub said_empty : (schema : Schema) → IsSaid schema [] 1 None
unfolding files
said_empty schema = record {
  written = written_none schema;
  fits = record { count = omega arith; file = omega arith; end = omega (arith, first_long schema, set_short (gtids [])); highest = omega arith };
  says = (refl, refl);
}

-- ---- its file
pub held_empty : (schema : Schema) (on : Files) (bytes : List ℕ) → on (file.Binlog 1) ≡ settled bytes → bytes ≡ head_after [] → AreHeld on 1 (files schema [])
unfolding files
held_empty schema on bytes there is =
    let made : bytes ≡ head_after [] ++ [] = is ∙ sym (append-nil (head_after [])) in
    settled_held on 1 (head_after [] ++ []) [] (there ∙ ap settled made) tt

-- ---- the control file says all the while that there are no bytes
module _ {D : Type 0} (files : D → Files) (moment : D → ℕ) (left_since : D → ℕ → Contents → Type 0) where
  pub keeps_empty : {a b : D} → IsTelling (telling files moment left_since a) → (block : ControlBlock) → block.bytes ≡ None → Stands block (files a file.LogCtl)
      → AtEachMoment files moment left_since (file.Binlog 1) a b IsAny → Keeps files moment left_since a b
  keeps_empty {a = a} {b = b} tells block none stands run = record {
    crash = record { later = run.moments.later; before = λ t c early left. turn t c (run.moments.each t c early left) };
    others = λ other out. run.elsewhere other (apart other out);
  }
    where
      apart : (other : FileId) → log_files other ≡ false → other ≢ file.Binlog 1
      apart other out is = absurd (let z : true ≡ false = ap log_files (sym is) ∙ out in cc)

      said : control_of (files a file.LogCtl).bytes ≡ Some None
      said = stands_for block (files a file.LogCtl) stands ∙ ap Some none

      still : (c : Contents) → MayLeave (files a file.LogCtl) (c file.LogCtl) → ReadsAsLeft (files a) c
      still c may = record {
        left = λ f. (files a f).bytes;
        may = λ f mine. tells.read f;
        alike = record {
          control = said ∙ sym (stands_left block (files a file.LogCtl) stands (c file.LogCtl) may ∙ ap Some none);
          files = λ bytes p says named n one. absurd (let z : Some (Some bytes) ≡ Some None = sym says ∙ said in cc);
        };
      }

      turn : (t : ℕ) (c : Contents) → (left_since a t c ⊎ LeavesAt (file.Binlog 1) (files a) IsAny c) → left_since a t c ⊎ (ReadsAsLeft (files a) c × MayOut log_files (files a) c)
      turn t c (inl past) = inl past
      turn t c (inr at) = inr (still c (at.elsewhere file.LogCtl (λ is. cc)), λ other out. at.elsewhere other (apart other out))
