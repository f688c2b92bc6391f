-- Files that are written anew, one after the other.
use Rattle.std.proofs.Common.{◌≡◌, ◌≢◌, ℕ, suc, ◌+◌, ◌<◌, ◌≤◌, ◌⊎◌, ⊎_elim, true, List, [], ◌∷◌, ◌++◌, length, take, get_or, sym, ap, subst, ◌∙◌, arith}
use Rattle.std.proofs.lemmas.Bool.Decides.{nat_tests}
use Rattle.std.proofs.lemmas.Grind.{take_at_read}
use Rattle.std.proofs.lemmas.List.{length-take-le}
use Rattle.std.proofs.Math.Nat.{eq-or-lt_of_le}
use Rattle.edge_traits.specs.FileStates.{Contents, FileState, Files, settled, shortened}
use Rattle.edge_traits.specs.DiskCalls.{Elsewhere}
use Rattle.edge_traits.specs.Moments.{AtEachMoment}
use Rattle.edge_traits.specs.Works.{WorksOn, telling}
use Rattle.edge_traits.specs.declared.disks.FileId.TheVariants as file
use Rattle.edge_traits.proofs.Working.{works_at, works_then, works_weaker}
use Rattle.binlog_store.specs.Files.{AreSettled, IsAny, LeavesAny, from_file}

-- a file that is written leaves those before it as they are
numbers_differ : (m n : ℕ) → m < n → file.Binlog m ≢ file.Binlog n
numbers_differ m n less same = let e : m ≡ n = cc in omega (arith, less, e)

settled_still : (old new : Files) (n k : ℕ) (files : List (List ℕ)) → Elsewhere (file.Binlog k) old new → n + length files ≤ k → AreSettled old n files
    → AreSettled new n files
settled_still old new n k [] else below h = tt
settled_still old new n k (bytes ∷ files) else below h =
    (else (file.Binlog n) (numbers_differ n k (omega arith)) ∙ h.0, settled_still old new (suc n) k files else (omega (arith, below)) h.1)

settled_more : (now : Files) (n : ℕ) (files : List (List ℕ)) (bytes : List ℕ) (k : ℕ) → k ≡ n + length files → AreSettled now n files
    → now (file.Binlog k) ≡ settled bytes → AreSettled now n (files ++ bytes ∷ [])
settled_more now n [] bytes k is h at = let e : k ≡ n = omega (arith, is) in (subst (λ (z : ℕ). now (file.Binlog z) ≡ settled bytes) e at, tt)
settled_more now n (x ∷ files) bytes k is h at = (h.0, settled_more now (suc n) files bytes k (omega (arith, is)) h.1 at)

pub settled_next : (old new : Files) (n i k : ℕ) (files : List (List ℕ)) (d bytes : List ℕ) → i < length files → bytes ≡ get_or files i d → k ≡ n + i
    → AreSettled old n (take i files) → Elsewhere (file.Binlog k) old new → new (file.Binlog k) ≡ settled bytes → AreSettled new n (take (i + 1) files)
settled_next old new n i k files d bytes within is at h else here =
    let many = length-take-le i files (omega (arith, within)) in
    let next : take (i + 1) files ≡ take i files ++ bytes ∷ [] = (take_at_read files i d within).1 ∙ ap (λ (z : List ℕ). take i files ++ z ∷ []) (sym is) in
    subst (AreSettled new n) (sym next)
    (settled_more new n (take i files) bytes k (omega (arith, at, many)) (settled_still old new n k (take i files) else (omega (arith, at, many)) h) here)

one_of : (first k : ℕ) → first ≤ k → from_file first (file.Binlog k) ≡ true
one_of first k le = grind (arith, nat_tests)

module _ {D : Type 0} {files : D → Files} {moment : D → ℕ} {left_since : D → ℕ → Contents → Type 0} where
  -- another file is written
  pub works_next : {start old new : D} (first k : ℕ) → first ≤ k → WorksOn (from_file first) files moment left_since start old LeavesAny
      → AtEachMoment files moment left_since (file.Binlog k) old new IsAny → WorksOn (from_file first) files moment left_since start new LeavesAny
  works_next {start = start} {old = old} {new = new} first k le so_far run =
      works_weaker (from_file first) (telling files moment left_since start) (telling files moment left_since new) (λ c. LeavesAny c ⊎ LeavesAny c) LeavesAny (λ c either. tt)
      (works_then (from_file first) (telling files moment left_since start) (telling files moment left_since old) (telling files moment left_since new) LeavesAny LeavesAny so_far
      (works_weaker (from_file first) (telling files moment left_since old) (telling files moment left_since new) (λ c. IsAny (c (file.Binlog k))) LeavesAny (λ c any. tt)
      (works_at (from_file first) (one_of first k le) run)))

-- another file is cut to nothing
pub emptied_next : (old new : Files) (first k : ℕ) → ((n : ℕ) → first ≤ n → n < k → (old (file.Binlog n)).bytes ≡ []) → Elsewhere (file.Binlog k) old new
    → new (file.Binlog k) ≡ shortened 0 (old (file.Binlog k)) → (n : ℕ) → first ≤ n → n < k + 1 → (new (file.Binlog n)).bytes ≡ []
emptied_next old new first k so_far else cut n from to =
    ⊎_elim (λ (same : n ≡ k). subst (λ (m : ℕ). (new (file.Binlog m)).bytes ≡ []) (sym same) (ap (λ (f : FileState). f.bytes) cut))
    (λ (less : n < k). ap (λ (f : FileState). f.bytes) (else (file.Binlog n) (numbers_differ n k less)) ∙ so_far n from less)
    (eq-or-lt_of_le (below_next n k to))
  where
    below_next : (n k : ℕ) → n < k + 1 → n ≤ k
    below_next n k less = omega (arith, less)
