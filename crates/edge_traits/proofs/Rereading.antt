-- A call that may rewrite a file so that it says the same: what the files held, it leaves.
use Rattle.std.proofs.Common.{◌≡◌, ◌≢◌, ℕ, ◌⊎◌, inl, inr, ⊎_elim, Bool, true, false, List, refl, sym, subst, ap, ◌∙◌, arith}
use Rattle.std.specs.Prelude.{◌==◌}
use Rattle.std.proofs.lemmas.Bool.Decides.{nat_tests}
use Rattle.edge_traits.specs.FileStates.{Contents, Files, MayLeave}
use Rattle.edge_traits.specs.Moments.{LeavesAt, AtEachMoment}
use Rattle.edge_traits.specs.Works.{Group, telling, Works, Holds, MayOut, IsTelling}
use Rattle.edge_traits.specs.declared.disks.FileId.{FileId}
use Rattle.edge_traits.specs.declared.disks.FileId.TheVariants as id

-- ---- two files are one or they are not
same_number : (n m : ℕ) → (n ≡ m) ⊎ (n ≢ m)
same_number n m = go (n == m) refl
  where
    go : (b : Bool) → (n == m) ≡ b → (n ≡ m) ⊎ (n ≢ m)
    go true is = inl (grind (arith, nat_tests, is))
    go false is = inr (λ e. absurd (grind (arith, nat_tests, is, e)))

pub same_or : (f g : FileId) → (f ≡ g) ⊎ (f ≢ g)
same_or id.VoteCtl id.VoteCtl = inl refl
same_or id.VoteCtl id.LogCtl = inr (λ is. cc)
same_or id.VoteCtl id.EngineCtl = inr (λ is. cc)
same_or id.VoteCtl (id.Redo m) = inr (λ is. cc)
same_or id.VoteCtl (id.Binlog m) = inr (λ is. cc)
same_or id.LogCtl id.VoteCtl = inr (λ is. cc)
same_or id.LogCtl id.LogCtl = inl refl
same_or id.LogCtl id.EngineCtl = inr (λ is. cc)
same_or id.LogCtl (id.Redo m) = inr (λ is. cc)
same_or id.LogCtl (id.Binlog m) = inr (λ is. cc)
same_or id.EngineCtl id.VoteCtl = inr (λ is. cc)
same_or id.EngineCtl id.LogCtl = inr (λ is. cc)
same_or id.EngineCtl id.EngineCtl = inl refl
same_or id.EngineCtl (id.Redo m) = inr (λ is. cc)
same_or id.EngineCtl (id.Binlog m) = inr (λ is. cc)
same_or (id.Redo n) id.VoteCtl = inr (λ is. cc)
same_or (id.Redo n) id.LogCtl = inr (λ is. cc)
same_or (id.Redo n) id.EngineCtl = inr (λ is. cc)
same_or (id.Redo n) (id.Redo m) = ⊎_elim (λ e. inl (ap id.Redo e)) (λ apart. inr (λ is. apart cc)) (same_number n m)
same_or (id.Redo n) (id.Binlog m) = inr (λ is. cc)
same_or (id.Binlog n) id.VoteCtl = inr (λ is. cc)
same_or (id.Binlog n) id.LogCtl = inr (λ is. cc)
same_or (id.Binlog n) id.EngineCtl = inr (λ is. cc)
same_or (id.Binlog n) (id.Redo m) = inr (λ is. cc)
same_or (id.Binlog n) (id.Binlog m) = ⊎_elim (λ e. inl (ap id.Binlog e)) (λ apart. inr (λ is. apart cc)) (same_number n m)

-- a content with these bytes in one file
pub placed : FileId → List ℕ → Contents → Contents
placed file bytes c f = ⊎_elim (λ (is : f ≡ file). bytes) (λ (is : f ≢ file). c f) (same_or f file)

pub placed_here : (file : FileId) (bytes : List ℕ) (c : Contents) → placed file bytes c file ≡ bytes
unfolding placed
placed_here file bytes c = go (same_or file file)
  where
    go : (d : (file ≡ file) ⊎ (file ≢ file)) → ⊎_elim (λ (is : file ≡ file). bytes) (λ (is : file ≢ file). c file) d ≡ bytes
    go (inl is) = refl
    go (inr apart) = absurd (apart refl)

pub placed_elsewhere : (file : FileId) (bytes : List ℕ) (c : Contents) (f : FileId) → f ≢ file → placed file bytes c f ≡ c f
unfolding placed
placed_elsewhere file bytes c f apart = go (same_or f file)
  where
    go : (d : (f ≡ file) ⊎ (f ≢ file)) → ⊎_elim (λ (is : f ≡ file). bytes) (λ (is : f ≢ file). c f) d ≡ c f
    go (inl is) = absurd (apart is)
    go (inr out) = refl

differ : {b : Bool} → b ≡ false → b ≡ true → ⊥
differ {b = b} is_not is_so = cc

-- a crash leaves a file as it might before, or so that it says what it said, and the others as before: what the files held, it leaves
module _ {D : Type 0} {files : D → Files} {moment : D → ℕ} {left_since : D → ℕ → Contents → Type 0} {file : FileId} where
  pub works_reread : {X : Type 0} {old new : D} (own : Group) (says : List ℕ → X) (P : Contents → Type 0) → own file ≡ true
      → IsTelling (telling files moment left_since old)
      → ((b c : Contents) → ((f : FileId) → f ≢ file → b f ≡ c f) → says (b file) ≡ says (c file) → P b → P c)
      → Holds own (telling files moment left_since old) P → AtEachMoment files moment left_since file old new
      (λ left. MayLeave (files old file) left ⊎ (says left ≡ says (files old file).bytes))
      → Works own (telling files moment left_since old) (telling files moment left_since new) P
  works_reread {old = old} own says P mine tells by held run = record {
    crash = record { later = run.moments.later; before = λ t c early left. turn t c (run.moments.each t c early left) };
    others = λ f out. run.elsewhere f (apart f out);
  }
    where
      apart : (f : FileId) → own f ≡ false → f ≢ file
      apart f out is = differ (subst (λ g. own g ≡ false) is out) mine

      all : (c : Contents) → MayLeave (files old file) (c file) → ((f : FileId) → f ≢ file → MayLeave (files old f) (c f)) → (f : FileId)
          → MayLeave (files old f) (c f)
      all c here there f = ⊎_elim (λ is. subst (λ g. MayLeave (files old g) (c g)) (sym is) here) (λ out. there f out) (same_or f file)

      left_here : (c : Contents) → (MayLeave (files old file) (c file) ⊎ (says (c file) ≡ says (files old file).bytes))
          → ((f : FileId) → f ≢ file → MayLeave (files old f) (c f)) → P c
      left_here c (inl may) there = held.kept c (λ f in'. all c may there f)
      left_here c (inr is) there =
          let bytes = (files old file).bytes in
          let d = placed file bytes c in
          by d c (λ f out. placed_elsewhere file bytes c f out) (ap says (placed_here file bytes c) ∙ sym is)
          (held.kept d (λ f in'. all d (subst (λ b. MayLeave (files old file) b) (sym (placed_here file bytes c)) (tells.read file))
          (λ g out. subst (λ b. MayLeave (files old g) b) (sym (placed_elsewhere file bytes c g out)) (there g out)) f))

      turn : (t : ℕ) (c : Contents) → (left_since old t c ⊎ LeavesAt file (files old)
          (λ left. MayLeave (files old file) left ⊎ (says left ≡ says (files old file).bytes)) c) → left_since old t c ⊎ (P c × MayOut own (files old) c)
      turn t c (inl past) = inl past
      turn t c (inr at) = inr (left_here c at.here at.elsewhere, λ f out. at.elsewhere f (apart f out))
