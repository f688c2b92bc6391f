-- What the files of a log hold they hold still, when a call leaves of one file what a crash may leave of it anyway, or rewrites the control file so that it says the same.
use Rattle.std.proofs.Common.{◌≡◌, ◌≢◌, ℕ, ◌⊎◌, inl, inr, ⊎_elim, true, false, List, [], take, refl, sym, ap, subst, ◌∙◌}
use Rattle.std.specs.Prelude.{◌==◌, if◌then◌else◌, nat_lt}
use Rattle.edge_traits.specs.FileStates.{Contents, Files, MayLeave}
use Rattle.edge_traits.specs.Moments.{AtEachMoment, LeavesAt}
use Rattle.edge_traits.specs.Works.{Holds, HoldsOn, IsTelling, MayIn, MayOut, Reads, Telling, WorksOn, seen, telling}
use Rattle.edge_traits.specs.declared.disks.FileId.{FileId}
use Rattle.edge_traits.specs.declared.disks.FileId.TheVariants as file
use Rattle.edge_traits.proofs.Rereading.{same_or}
use Rattle.edge_traits.proofs.Working.{left_in, works_then, works_weaker}
use Rattle.control_block.specs.Blocks.{IsAsBefore}
use Rattle.control_block.specs.ControlFiles.{control_of}
use Rattle.control_block.proofs.Switching.{mount_works}
use Rattle.binlog_store.specs.Groups.{log_files}
use Rattle.binlog_store.specs.Mounting.{IsOfLog, Keeps, ReadAlike, ReadsAsLeft}

-- ---- contents that read alike
pub same_alike : (b c : Contents) → ((n : ℕ) → b (file.Binlog n) ≡ c (file.Binlog n)) → control_of (b file.LogCtl) ≡ control_of (c file.LogCtl) → ReadAlike b c
same_alike b c same control = record {
  control = control;
  files = λ bytes p says named n one. ap (λ (x : List ℕ). if nat_lt n p.file then x else if n == p.file then take p.end x else []) (same n);
}

alike_then : (a b c : Contents) → ReadAlike a b → ReadAlike b c → ReadAlike a c
alike_then a b c x y = record {
  control = x.control ∙ y.control;
  files = λ bytes p says named n one. x.files bytes p says named n one ∙ y.files bytes p (sym x.control ∙ says) named n one;
}

of_log_reads : (P : Contents → Type 0) → IsOfLog P → Reads log_files P
of_log_reads P of b c same = of b c (same_alike b c (λ n. same (file.Binlog n) refl) (ap control_of (same file.LogCtl refl)))

-- ---- what reads like something that a crash may leave
as_left_of_log : (on : Files) → IsOfLog (ReadsAsLeft on)
as_left_of_log on b c alike x = record { left = x.left; may = x.may; alike = alike_then x.left b c x.alike alike }

pub may_as_left : (on : Files) (c : Contents) → MayIn log_files on c → ReadsAsLeft on c
may_as_left on c may = record { left = c; may = may; alike = same_alike c c (λ n. refl) refl }

as_left_held : (now : Telling) → IsTelling now → Holds log_files now (ReadsAsLeft now.files)
as_left_held now tells = record { read = may_as_left now.files (seen now) (λ f mine. tells.read f); kept = may_as_left now.files }

-- ---- calls
module _ {D : Type 0} (files : D → Files) (moment : D → ℕ) (left_since : D → ℕ → Contents → Type 0) where
  -- what a property of the log had before, has it at each moment
  pub keeps_all : {a b : D} → Keeps files moment left_since a b → (P : Contents → Type 0) → IsOfLog P → HoldsOn log_files files moment left_since a P
      → WorksOn log_files files moment left_since a b P
  keeps_all {a = a} {b = b} keeps P of held =
      works_weaker log_files (telling files moment left_since a) (telling files moment left_since b) (ReadsAsLeft (files a)) P
      (λ c x. of x.left c x.alike (held.kept x.left x.may)) keeps

  -- and the clause says no more than that
  all_keeps : {a b : D} → IsTelling (telling files moment left_since a)
      → ((P : Contents → Type 0) → IsOfLog P → HoldsOn log_files files moment left_since a P → WorksOn log_files files moment left_since a b P)
      → Keeps files moment left_since a b
  all_keeps {a = a} tells all = all (ReadsAsLeft (files a)) (as_left_of_log (files a)) (as_left_held (telling files moment left_since a) tells)

  -- it has it after the call too, whatever the call answered
  pub held_after : {a b : D} → IsTelling (telling files moment left_since a) → IsTelling (telling files moment left_since b) → Keeps files moment left_since a b
      → (P : Contents → Type 0) → IsOfLog P → HoldsOn log_files files moment left_since a P → HoldsOn log_files files moment left_since b P
  held_after {a = a} {b = b} tells_a tells_b keeps P of held =
      left_in log_files (telling files moment left_since a) (telling files moment left_since b) P P tells_a tells_b (of_log_reads P of) (λ x is. is) held
      (keeps_all keeps P of held)

  pub keeps_then : {a b c : D} → IsTelling (telling files moment left_since a) → IsTelling (telling files moment left_since b) → Keeps files moment left_since a b → Keeps files moment left_since b c
      → Keeps files moment left_since a c
  keeps_then {a = a} {b = b} {c = c} tells_a tells_b first later =
      all_keeps tells_a
      (λ P of held.
      let at_a = telling files moment left_since a in
      let at_b = telling files moment left_since b in
      let at_c = telling files moment left_since c in
      works_weaker log_files at_a at_c (λ x. P x ⊎ P x) P (λ x either. ⊎_elim (λ l. l) (λ r. r) either)
      (works_then log_files at_a at_b at_c P P (keeps_all first P of held) (keeps_all later P of (held_after tells_a tells_b first P of held))))

  -- a call that leaves of one file what a crash may leave of it
  pub keeps_one : {a b : D} (f : FileId) → log_files f ≡ true → AtEachMoment files moment left_since f a b (MayLeave (files a f))
      → Keeps files moment left_since a b
  keeps_one {a = a} {b = b} f mine run = record {
    crash = record { later = run.moments.later; before = λ t c early left. turn t c (run.moments.each t c early left) };
    others = λ other out. run.elsewhere other (apart other out);
  }
    where
      apart : (other : FileId) → log_files other ≡ false → other ≢ f
      apart other out is = absurd (let z : true ≡ false = sym mine ∙ (ap log_files (sym is) ∙ out) in cc)

      all_may : (c : Contents) → LeavesAt f (files a) (MayLeave (files a f)) c → (other : FileId) → MayLeave (files a other) (c other)
      all_may c at other = ⊎_elim (λ (is : other ≡ f). subst (λ (g : FileId). MayLeave (files a g) (c g)) (sym is) at.here) (at.elsewhere other) (same_or other f)

      turn : (t : ℕ) (c : Contents) → (left_since a t c ⊎ LeavesAt f (files a) (MayLeave (files a f)) c)
          → left_since a t c ⊎ (ReadsAsLeft (files a) c × MayOut log_files (files a) c)
      turn t c (inl past) = inl past
      turn t c (inr at) = inr (may_as_left (files a) c (λ other in'. all_may c at other), λ other out. at.elsewhere other (apart other out))

  -- a mount of the control file
  pub keeps_control : {a b : D} → IsTelling (telling files moment left_since a) → AtEachMoment files moment left_since file.LogCtl a b (IsAsBefore (files a file.LogCtl))
      → Keeps files moment left_since a b
  keeps_control tells run =
      all_keeps tells
      (λ P of held. mount_works log_files P refl tells (λ b c same control. of b c (same_alike b c (λ n. same (file.Binlog n) (λ is. cc)) control)) held run)
