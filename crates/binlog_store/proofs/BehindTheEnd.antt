-- Bytes that are written behind the end of a file, and whole files after it.
use Rattle.std.proofs.Common.{◌≡◌, ℕ, zero, suc, ◌+◌, ◌⊎◌, ⊎_elim, true, false, ◌==◌, List, [], ◌∷◌, ◌++◌, length, take, refl, sym, ap, subst, ◌∙◌, arith}
use Rattle.std.proofs.lemmas.Bool.{eq-eqb}
use Rattle.std.proofs.lemmas.List.{take_all}
use Rattle.std.proofs.lemmas.Bool.Decides.{nat_tests}
use Rattle.edge_traits.specs.FileStates.{Contents, FileState, Files, MayLeave, settled, written, wrote}
use Rattle.edge_traits.specs.Moments.{AtEachMoment}
use Rattle.edge_traits.specs.Works.{Ensures, Group, Telling, Works, WorksOn, telling}
use Rattle.edge_traits.specs.declared.disks.FileId.TheVariants as file
use Rattle.edge_traits.proofs.FileStates.{firm_torn, length-written, settled_only, written_after}
use Rattle.edge_traits.proofs.Working.{AreApart, AreWithin, works_at, works_frame, works_then, works_weaker, works_wider}
use Rattle.binlog_store.specs.Files.{AreAdded, AreSettled, Begins, EndsAt, LeavesAny, LeavesFront, from_file}

-- ---- one file
pub take_front : (at : ℕ) (bytes more : List ℕ) → length bytes ≡ at → take at (bytes ++ more) ≡ bytes
take_front at [] more is = let none : at ≡ 0 = omega (arith, is) in rw none refl
take_front zero (x ∷ bytes) more is = absurd (omega (arith, is))
take_front (suc at) (x ∷ bytes) more is = ap (λ (ys : List ℕ). x ∷ ys) (take_front at bytes more (omega (arith, is)))

written_behind : (at : ℕ) (new bytes : List ℕ) → length bytes ≡ at → written at new bytes ≡ bytes ++ new
written_behind at new bytes is =
    let long = length-written at new bytes in
    sym (take_all (at + length new) (written at new bytes) (omega (arith, long, is)))
    ∙ (written_after at new bytes (omega (arith, is)) ∙ ap (λ (l : List ℕ). l ++ new) (take_all at bytes (omega (arith, is))))

pub settled_behind : (at : ℕ) (new : List ℕ) (old now : FileState) → EndsAt at old → now ≡ settled (written at new old.bytes)
    → now ≡ settled (old.bytes ++ new)
settled_behind at new old now ends is = is ∙ ap settled (written_behind at new old.bytes ends.long)

pub begins_still : (at : ℕ) (new : List ℕ) (old : FileState) → EndsAt at old → (left : List ℕ) → MayLeave (wrote at new old) left → Begins at old.bytes left
begins_still at new old ends left may = firm_torn ends.firm at new (omega arith) left may ∙ take_all at old.bytes (omega (arith, ends.long))

-- ---- and the files that follow it
pub only_file : ℕ → Group
only_file n (file.Binlog m) = m == n
only_file n _ = false

same_file : (n : ℕ) → (n == n) ≡ true
same_file n = eq-eqb n n refl

apart : (n : ℕ) → AreApart (from_file (n + 1)) (only_file n)
unfolding only_file
apart n (file.Binlog m) is = grind (arith, nat_tests)
apart n file.VoteCtl is = refl
apart n file.LogCtl is = refl
apart n file.EngineCtl is = refl
apart n (file.Redo m) is = refl

within : (n : ℕ) → AreWithin (from_file (n + 1)) (from_file n)
within n (file.Binlog m) is = grind (arith, nat_tests)
within n file.VoteCtl is = absurd (let z : false ≡ true = is in cc)
within n file.LogCtl is = absurd (let z : false ≡ true = is in cc)
within n file.EngineCtl is = absurd (let z : false ≡ true = is in cc)
within n (file.Redo m) is = absurd (let z : false ≡ true = is in cc)

-- a file that is synced with these bytes in front keeps them
front_kept : (n at : ℕ) (bytes more : List ℕ) (files : Files) → length bytes ≡ at → files (file.Binlog n) ≡ settled (bytes ++ more)
    → Ensures (only_file n) files (LeavesFront n at bytes)
unfolding only_file
front_kept n at bytes more files is here c may =
    let left = settled_only (bytes ++ more) (c (file.Binlog n)) (subst (λ (f : FileState). MayLeave f (c (file.Binlog n))) here (may (file.Binlog n) (same_file n))) in
    ap (take at) left ∙ take_front at bytes more is

-- so does one that is cut behind them
pub cut_kept : (n at : ℕ) (files : Files) (bytes : List ℕ) → ((left : List ℕ) → MayLeave (files (file.Binlog n)) left → Begins at bytes left)
    → Ensures (only_file n) files (LeavesFront n at bytes)
unfolding only_file
cut_kept n at files bytes begins c may = begins (c (file.Binlog n)) (may (file.Binlog n) (same_file n))

own_first : (n : ℕ) → from_file n (file.Binlog n) ≡ true
own_first n = grind (arith, nat_tests)

-- what was written first is there still
pub added_there : (a b : Telling) (n : ℕ) (bytes first : List ℕ) (others : List (List ℕ)) → a.files (file.Binlog n) ≡ settled (bytes ++ first)
    → Works (from_file (n + 1)) a b LeavesAny → AreSettled b.files (n + 1) others → AreAdded b.files n bytes (first ∷ others)
added_there a b n bytes first others here later settled_there =
    let out : from_file (n + 1) (file.Binlog n) ≡ false = grind (arith, nat_tests) in
    (later.others (file.Binlog n) out ∙ here, settled_there)

module _ {D : Type 0} {files : D → Files} {moment : D → ℕ} {left_since : D → ℕ → Contents → Type 0} where
  pub first_works : {old new : D} (n at : ℕ) (bytes : List ℕ) → AtEachMoment files moment left_since (file.Binlog n) old new (Begins at bytes)
      → WorksOn (from_file n) files moment left_since old new (LeavesFront n at bytes)
  first_works n at bytes run = works_at (from_file n) (own_first n) run

  -- then the files that follow it, while what stands of it is kept
  pub then_rest : {old mid new : D} (n at : ℕ) (bytes : List ℕ) → AtEachMoment files moment left_since (file.Binlog n) old mid (Begins at bytes)
      → Ensures (only_file n) (files mid) (LeavesFront n at bytes) → WorksOn (from_file (n + 1)) files moment left_since mid new LeavesAny
      → WorksOn (from_file n) files moment left_since old new (LeavesFront n at bytes)
  then_rest {old = old} {mid = mid} {new = new} n at bytes run kept later =
      let a = telling files moment left_since old in
      let b = telling files moment left_since mid in
      let c = telling files moment left_since new in
      let front = LeavesFront n at bytes in
      let framed = works_frame (from_file (n + 1)) (only_file n) b c LeavesAny front (apart n) kept later in
      let there = works_weaker (from_file (n + 1)) b c (λ x. LeavesAny x × front x) front (λ x both. both.1) framed in
      works_weaker (from_file n) a c (λ x. front x ⊎ front x) front (λ x either. ⊎_elim (λ l. l) (λ r. r) either)
      (works_then (from_file n) a b c front front (first_works n at bytes run) (works_wider (from_file (n + 1)) (from_file n) b c front (within n) there))

  pub then_others : {old mid new : D} (n at : ℕ) (bytes more : List ℕ) → length bytes ≡ at
      → AtEachMoment files moment left_since (file.Binlog n) old mid (Begins at bytes)
      → files mid (file.Binlog n) ≡ settled (bytes ++ more) → WorksOn (from_file (n + 1)) files moment left_since mid new LeavesAny
      → WorksOn (from_file n) files moment left_since old new (LeavesFront n at bytes)
  then_others {mid = mid} n at bytes more is run here later = then_rest n at bytes run (front_kept n at bytes more (files mid) is here) later
