-- An append and a truncation each write what one of the logs does not read, and switch the control file: so at each moment the one log stands or the other.
use Rattle.std.proofs.Common.{◌≡◌, ℕ, suc, ◌+◌, ◌<◌, ◌⊎◌, inl, inr, true, false, List, length, Option, Some, None, refl, arith}
use Rattle.std.proofs.lemmas.Bool.Decides.{nat_tests}
use Rattle.ring_types.specs.declared.entries.Entry.{Entry}
use Rattle.ring_types.specs.declared.schemas.Schema.{Schema}
use Rattle.edge_traits.specs.FileStates.{Contents, Files, MayLeave}
use Rattle.edge_traits.specs.Moments.{AtEachMoment}
use Rattle.edge_traits.specs.Works.{Group, Holds, IsTelling, MayIn, MayOut, Switches, Telling, Works, seen, telling}
use Rattle.edge_traits.specs.declared.disks.FileId.TheVariants as file
use Rattle.edge_traits.proofs.Working.{AreWithin, false_of, works_at, works_then, works_weaker}
use Rattle.control_block.specs.Blocks.{Stands}
use Rattle.control_block.specs.ControlFiles.{IsEither, control_of}
use Rattle.control_block.specs.declared.blocks.ControlBlock.{ControlBlock}
use Rattle.control_block.proofs.Mounted.{stands_left}
use Rattle.control_block.proofs.Switching.{works_beside}
use Rattle.entry_group.specs.Files.{files}
use Rattle.binlog_store.specs.Files.{from_file}
use Rattle.binlog_store.specs.Groups.{log_control, log_files}
use Rattle.binlog_store.specs.Mounted.{AreHeld, IsSaid}
use Rattle.binlog_store.specs.Stands.{LogStands, ReadsFiles}
use Rattle.binlog_store.proofs.HeldFiles.{begins_left, held_reads}

-- ---- a content that reads so
pub said_stands : (schema : Schema) (log : List Entry) (highest : ℕ) (bytes : Option (List ℕ)) (c : Contents) → IsSaid schema log highest bytes
    → ReadsFiles c 1 (files schema log) → control_of (c file.LogCtl) ≡ Some bytes → LogStands schema log c
said_stands schema log highest None c said read is = rw is said.says.0
said_stands schema log highest (Some bytes) c said read is = rw is (record { highest = highest; point = said.says; point_fits = said.fits; written = said.written; read = read })

-- ---- the groups
pub control_within : AreWithin log_control log_files
control_within file.LogCtl is = refl
control_within file.VoteCtl is = absurd (let z : false ≡ true = is in cc)
control_within file.EngineCtl is = absurd (let z : false ≡ true = is in cc)
control_within (file.Redo n) is = absurd (let z : false ≡ true = is in cc)
control_within (file.Binlog n) is = absurd (let z : false ≡ true = is in cc)

pub files_within : (k : ℕ) → AreWithin (from_file k) log_files
files_within k (file.Binlog n) is = refl
files_within k file.VoteCtl is = absurd (let z : false ≡ true = is in cc)
files_within k file.LogCtl is = absurd (let z : false ≡ true = is in cc)
files_within k file.EngineCtl is = absurd (let z : false ≡ true = is in cc)
files_within k (file.Redo n) is = absurd (let z : false ≡ true = is in cc)

pub below : (k m : ℕ) → m < k → from_file k (file.Binlog m) ≡ false
below k m less = grind (arith, nat_tests)

-- ---- what a store holds of its log
module _ (schema : Schema) (log : List Entry) (highest : ℕ) (block : ControlBlock) (said : IsSaid schema log highest block.bytes) where
  pub held_left : (on : Files) (k : ℕ) → suc k ≡ 1 + length (files schema log) → Stands block (on file.LogCtl) → AreHeld on 1 (files schema log)
      → (c : Contents) → MayIn log_files on c → LogStands schema log c
  held_left on k at control held c may =
      said_stands schema log highest block.bytes c said
      (held_reads on c 1 k (files schema log) at held (λ m less. may (file.Binlog m) refl) (begins_left on c k (may (file.Binlog k) refl)))
      (stands_left block (on file.LogCtl) control (c file.LogCtl) (may file.LogCtl refl))

  pub held_holds : (now : Telling) (k : ℕ) → IsTelling now → suc k ≡ 1 + length (files schema log) → Stands block (now.files file.LogCtl)
      → AreHeld now.files 1 (files schema log)
      → Holds log_files now (LogStands schema log)
  held_holds now k tells at control held = record {
    read = held_left now.files k at control held (seen now) (λ f mine. tells.read f);
    kept = held_left now.files k at control held;
  }

  -- ---- files from k on are written: the log reads those before, and of these what P says
  pub write_phase : (a b : Telling) (k : ℕ) (P : Contents → Type 0) → Stands block (a.files file.LogCtl)
      → ((c : Contents) → ((m : ℕ) → m < k → MayLeave (a.files (file.Binlog m)) (c (file.Binlog m))) → P c → ReadsFiles c 1 (files schema log))
      → Works (from_file k) a b P → Works log_files a b (LogStands schema log)
  write_phase a b k P control reads works =
      works_beside (from_file k) log_files a b P (LogStands schema log) (files_within k)
      (λ c p out. said_stands schema log highest block.bytes c said (reads c (λ m less. out (file.Binlog m) (below k m less)) p)
      (stands_left block (a.files file.LogCtl) control (c file.LogCtl) (out file.LogCtl refl)))
      works

-- ---- the control file is switched, over files that read as both logs
switched : (schema : Schema) (one other : List Entry) (low high : ℕ) (before : Option (List ℕ)) (bytes : List ℕ) (c : Contents) → IsSaid schema one low before
    → IsSaid schema other high (Some bytes) → ReadsFiles c 1 (files schema one) × ReadsFiles c 1 (files schema other) → IsEither before bytes (c file.LogCtl)
    → LogStands schema one c ⊎ LogStands schema other c
switched schema one other low high before bytes c said new reads (inl old) = inl (said_stands schema one low before c said reads.0 old)
switched schema one other low high before bytes c said new reads (inr now) = inr (said_stands schema other high (Some bytes) c new reads.1 now)

module _ {D : Type 0} {files_on : D → Files} {moment : D → ℕ} {left_since : D → ℕ → Contents → Type 0} {old new : D} where
  pub switch_phase : (schema : Schema) (one other : List Entry) (low high : ℕ) (before : Option (List ℕ)) (bytes : List ℕ) → IsSaid schema one low before
      → IsSaid schema other high (Some bytes)
      → ((c : Contents) → ((m : ℕ) → MayLeave (files_on old (file.Binlog m)) (c (file.Binlog m))) → ReadsFiles c 1 (files schema one) × ReadsFiles c 1 (files schema other))
      → AtEachMoment files_on moment left_since file.LogCtl old new (IsEither before bytes)
      → Switches log_files files_on moment left_since old new (LogStands schema one) (LogStands schema other)
  switch_phase schema one other low high before bytes said next reads run =
      works_beside log_control log_files (telling files_on moment left_since old) (telling files_on moment left_since new) (λ c. IsEither before bytes (c file.LogCtl))
      (λ c. LogStands schema one c ⊎ LogStands schema other c) control_within
      (λ c either out. switched schema one other low high before bytes c said next (reads c (λ m. out (file.Binlog m) refl)) either)
      (works_at log_control refl run)
