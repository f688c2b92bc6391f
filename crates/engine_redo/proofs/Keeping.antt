-- What reads like something that the files held before: so it is after calls that read, in turn.
use Rattle.std.proofs.Common.{◌≡◌, ◌≢◌, ℕ, ◌⊎◌, inl, inr, ⊎_elim, true, false, refl, sym, ap, subst, ◌∙◌}
use Rattle.edge_traits.specs.DiskCalls.{Elsewhere}
use Rattle.edge_traits.specs.FileStates.{Contents, FileState, Files, MayLeave}
use Rattle.edge_traits.specs.Moments.{AtEachMoment, LeavesAt}
use Rattle.edge_traits.specs.Works.{Holds, IsTelling, MayIn, MayOut, Reads, Telling, seen, telling}
use Rattle.edge_traits.specs.declared.disks.FileId.{FileId}
use Rattle.edge_traits.specs.declared.disks.FileId.TheVariants as file
use Rattle.edge_traits.proofs.Rereading.{same_or}
use Rattle.edge_traits.proofs.Working.{left_in, works_then, works_weaker}
use Rattle.control_block.specs.Blocks.{IsAsBefore}
use Rattle.control_block.specs.ControlFiles.{control_of}
use Rattle.control_block.proofs.Switching.{mount_works}
use Rattle.engine_redo.specs.Groups.{engine_files}
use Rattle.engine_redo.specs.Mounting.{HaveTheirBytes, Keeps, ReadAlike}

-- the content reads like one that a crash may leave of these files
abbrev pub Alike : Files → Contents → Type 0
Alike old c = (b : Contents) × MayIn engine_files old b × ReadAlike b c

pub alike_itself : (c : Contents) → ReadAlike c c
alike_itself c = record { control = refl; redo = λ n. refl }

alike_on : (b c d : Contents) → ReadAlike b c → ReadAlike c d → ReadAlike b d
alike_on b c d one two = record { control = one.control ∙ two.control; redo = λ n. one.redo n ∙ two.redo n }

alike_same : (b c : Contents) → ((f : FileId) → engine_files f ≡ true → b f ≡ c f) → ReadAlike b c
alike_same b c same = record { control = ap control_of (same file.EngineCtl refl); redo = λ n. same (file.Redo n) refl }

alike_reads : (old : Files) → Reads engine_files (Alike old)
alike_reads old b c same like = (like.0, like.1, alike_on like.0 b c like.2 (alike_same b c same))

pub alike_holds : (now : Telling) → IsTelling now → Holds engine_files now (Alike now.files)
alike_holds now tells = record {
  read = (seen now, λ f mine. tells.read f, alike_itself (seen now));
  kept = λ c may. (c, may, alike_itself c);
}

module _ {D : Type 0} (files : D → Files) (moment : D → ℕ) (left_since : D → ℕ → Contents → Type 0) where
  pub keeps_then : {a b c : D} → IsTelling (telling files moment left_since a) → IsTelling (telling files moment left_since b) → Keeps files moment left_since a b
      → Keeps files moment left_since b c → Keeps files moment left_since a c
  keeps_then {a = a} {b = b} {c = c} tells_a tells_b first later =
      let at_a = telling files moment left_since a in
      let at_b = telling files moment left_since b in
      let at_c = telling files moment left_since c in
      let like = Alike (files a) in
      let mid = left_in engine_files at_a at_b like like tells_a tells_b (alike_reads (files a)) (λ x is. is) (alike_holds at_a tells_a) first in
      let back : (x : Contents) → Alike (files b) x → like x = λ x is. let old = mid.kept is.0 is.1 in (old.0, old.1, alike_on old.0 is.0 x old.2 is.2) in
      let two = works_weaker engine_files at_b at_c (Alike (files b)) like back later in
      works_weaker engine_files at_a at_c (λ x. like x ⊎ like x) like (λ x either. ⊎_elim (λ l. l) (λ r. r) either)
      (works_then engine_files at_a at_b at_c like like first two)

  -- a call that leaves of one file what a crash may leave of it
  pub keeps_one : {a b : D} (f : FileId) → engine_files f ≡ true → AtEachMoment files moment left_since f a b (MayLeave (files a f))
      → Keeps files moment left_since a b
  keeps_one {a = a} {b = b} f mine run = record {
    crash = record { later = run.moments.later; before = λ t c early left. turn t c (run.moments.each t c early left) };
    others = λ other out. run.elsewhere other (apart other out);
  }
    where
      apart : (other : FileId) → engine_files other ≡ false → other ≢ f
      apart other out is = absurd (let z : true ≡ false = sym mine ∙ (ap engine_files (sym is) ∙ out) in cc)

      all_may : (c : Contents) → LeavesAt f (files a) (MayLeave (files a f)) c → (other : FileId) → MayLeave (files a other) (c other)
      all_may c at other = ⊎_elim (λ (is : other ≡ f). subst (λ (g : FileId). MayLeave (files a g) (c g)) (sym is) at.here) (at.elsewhere other) (same_or other f)

      turn : (t : ℕ) (c : Contents) → (left_since a t c ⊎ LeavesAt f (files a) (MayLeave (files a f)) c)
          → left_since a t c ⊎ (Alike (files a) c × MayOut engine_files (files a) c)
      turn t c (inl past) = inl past
      turn t c (inr at) = inr ((c, λ other in'. all_may c at other, alike_itself c), λ other out. at.elsewhere other (apart other out))

  -- a mount of the control file
  pub keeps_control : {a b : D} → IsTelling (telling files moment left_since a) → AtEachMoment files moment left_since file.EngineCtl a b (IsAsBefore (files a file.EngineCtl))
      → Keeps files moment left_since a b
  keeps_control {a = a} tells run =
      mount_works engine_files (Alike (files a)) refl tells
      (λ b c same control is. (is.0, is.1, alike_on is.0 b c is.2 (record { control = control; redo = λ n. same (file.Redo n) (λ e. cc) })))
      (alike_holds (telling files moment left_since a) tells) run

-- the redo files read as before, if the one that is read does
pub bytes_kept : (n : ℕ) (old new : Files) → Elsewhere (file.Redo n) old new → (new (file.Redo n)).bytes ≡ (old (file.Redo n)).bytes → HaveTheirBytes old new
bytes_kept n old new elsewhere same m =
    ⊎_elim (λ (is : file.Redo m ≡ file.Redo n). subst (λ (f : FileId). (new f).bytes ≡ (old f).bytes) (sym is) same) (λ apart. ap (λ (s : FileState). s.bytes) (elsewhere (file.Redo m) apart))
    (same_or (file.Redo m) (file.Redo n))
