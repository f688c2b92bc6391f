-- A truncation: files of the longer log are held, and once they are cut, those of the prefix.
use Rattle.std.proofs.Common.{◌≡◌, ℕ, suc, ◌+◌, ◌<◌, ◌≤◌, List, [], ◌∷◌, ◌++◌, length, take, refl, sym, ap, subst, ◌∙◌, arith}
use Rattle.std.proofs.lemmas.List.{get_or-take, length-append, length-take, take_all}
use Rattle.edge_traits.specs.FileStates.{Contents, FileState, Files, Firm, MayLeave, settled, shortened}
use Rattle.edge_traits.specs.declared.disks.FileId.TheVariants as file
use Rattle.edge_traits.proofs.FileStates.{firm_left, firm_settled, settled_only}
use Rattle.binlog_store.specs.Added.{continued}
use Rattle.binlog_store.specs.Files.{Begins}
use Rattle.binlog_store.specs.Mounted.{AreHeld, IsLast}
use Rattle.binlog_store.specs.Stands.{ReadsFiles, last_length}
use Rattle.binlog_store.proofs.BehindTheEnd.{take_front}
use Rattle.binlog_store.proofs.HeldFiles.{some_more}

-- ---- one file that is cut
firm_less : {n m : ℕ} {f : FileState} → m ≤ n → Firm n f → Firm m f
firm_less {n = n} {m = m} {f = f} le firm = record {
  least = omega (arith, le, firm.least);
  kept = omega (arith, le, firm.kept);
  bytes = omega (arith, le, firm.bytes);
  same = λ i under. firm.same i (omega (arith, le, under));
}

pub firm_cut : (at : ℕ) (f : FileState) → Firm at f → Firm at (shortened at f)
firm_cut at f firm = record {
  least = omega (arith, firm.least);
  kept = firm.kept;
  bytes = omega (arith, firm.bytes, length-take at f.bytes);
  same = λ i under. ((firm.same i under).0, (firm.same i under).1 ∙ sym (get_or-take at f.bytes i 0 under));
}

pub cut_begins : (at : ℕ) (f : FileState) → Firm at f → (left : List ℕ) → MayLeave (shortened at f) left → Begins at (take at f.bytes) left
cut_begins at f firm left may =
    firm_left (firm_cut at f firm) left may ∙ take_all at (take at f.bytes) (omega (arith, length-take at f.bytes))

-- ---- the first of held files
first_reads : (on : Files) (n : ℕ) (b : List ℕ) (rest : List (List ℕ)) → AreHeld on n (b ∷ rest) → (on (file.Binlog n)).bytes ≡ b
first_reads on n b [] held = held.reads
first_reads on n b (g ∷ rest) held = ap (λ (f : FileState). f.bytes) held.0

first_firm : (on : Files) (n : ℕ) (b : List ℕ) (rest : List (List ℕ)) → AreHeld on n (b ∷ rest) → Firm (length b) (on (file.Binlog n))
first_firm on n b [] held = held.ends.firm
first_firm on n b (g ∷ rest) held = subst (Firm (length b)) (sym held.0) (firm_settled (length b) b (omega arith))

front_held : (on : Files) (n : ℕ) (f : List ℕ) (more : List (List ℕ)) → 0 < length more → AreHeld on n (continued (f ∷ []) more)
    → (take (length f) (on (file.Binlog n)).bytes ≡ f) × Firm (length f) (on (file.Binlog n))
front_held on n f [] some held = absurd (omega (arith, some))
front_held on n f (g ∷ more) some held = (
  ap (take (length f)) (first_reads on n (f ++ g) more held) ∙ take_front (length f) f g refl,
  firm_less (omega (arith, length-append f g)) (first_firm on n (f ++ g) more held),
)

held_split : (on : Files) (n : ℕ) (f : List ℕ) (rest : List (List ℕ)) → 0 < length rest → AreHeld on n (f ∷ rest)
    → (on (file.Binlog n) ≡ settled f) × AreHeld on (suc n) rest
held_split on n f [] some held = absurd (omega (arith, some))
held_split on n f (g ∷ rest) some held = held

-- ---- the prefix's files, the last of which is k
module _ (on : Files) (more : List (List ℕ)) (some : 0 < length more) where
  -- the bytes up to its end stand
  pub front_firm : (n k at : ℕ) (f : List ℕ) (written : List (List ℕ)) → suc k ≡ n + length (f ∷ written) → at ≡ last_length (f ∷ written)
      → AreHeld on n (continued (f ∷ written) more)
      → Firm at (on (file.Binlog k))
  front_firm n k at f [] is long held =
      let e : k ≡ n = omega (arith, is) in
      subst (λ (z : ℕ). Firm at (on (file.Binlog z))) (sym e) (subst (λ (z : ℕ). Firm z (on (file.Binlog n))) (sym long) (front_held on n f more some held).1)
  front_firm n k at f (g ∷ written) is long held =
      front_firm (suc n) k at g written (omega (arith, is)) long (held_split on n f (continued (g ∷ written) more) (some_more g written more) held).1

  -- while the files are cut, the prefix is read
  pub front_reads : (c : Contents) (n k at : ℕ) (f : List ℕ) (written : List (List ℕ)) → suc k ≡ n + length (f ∷ written) → at ≡ last_length (f ∷ written)
      → AreHeld on n (continued (f ∷ written) more) → ((m : ℕ) → m < k → MayLeave (on (file.Binlog m)) (c (file.Binlog m)))
      → take at (c (file.Binlog k)) ≡ take at (on (file.Binlog k)).bytes → ReadsFiles c n (f ∷ written)
  front_reads c n k at f [] is long held may front =
      let e : k ≡ n = omega (arith, is) in
      let here : take at (c (file.Binlog n)) ≡ take at (on (file.Binlog n)).bytes = subst (λ (z : ℕ). take at (c (file.Binlog z)) ≡ take at (on (file.Binlog z)).bytes) e front in
      subst (λ (z : ℕ). take z (c (file.Binlog n)) ≡ take z (on (file.Binlog n)).bytes) long here ∙ (front_held on n f more some held).0
  front_reads c n k at f (g ∷ written) is long held may front =
      let parts = held_split on n f (continued (g ∷ written) more) (some_more g written more) held in (
        settled_only f (c (file.Binlog n)) (subst (λ (s : FileState). MayLeave s (c (file.Binlog n))) parts.0 (may n (omega (arith, is)))),
        front_reads c (suc n) k at g written (omega (arith, is)) long parts.1 may front,
      )

  -- when they are cut, the prefix's files are held
  pub held_cut : (new : Files) (n k at : ℕ) (f : List ℕ) (written : List (List ℕ)) → suc k ≡ n + length (f ∷ written) → at ≡ last_length (f ∷ written)
      → AreHeld on n (continued (f ∷ written) more) → ((m : ℕ) → m < k → new (file.Binlog m) ≡ on (file.Binlog m))
      → new (file.Binlog k) ≡ shortened at (on (file.Binlog k)) → AreHeld new n (f ∷ written)
  held_cut new n k at f [] is long held same cut =
      let e : k ≡ n = omega (arith, is) in
      let front = front_held on n f more some held in
      let here : new (file.Binlog n) ≡ shortened (length f) (on (file.Binlog n)) = subst (λ (z : ℕ). new (file.Binlog n) ≡ shortened z (on (file.Binlog n))) long (subst (λ (z : ℕ). new (file.Binlog z) ≡ shortened at (on (file.Binlog z))) e cut) in
      subst (IsLast f) (sym here)
      (record { reads = front.0; ends = record { long = ap length front.0; firm = firm_cut (length f) (on (file.Binlog n)) front.1 } })
  held_cut new n k at f (g ∷ written) is long held same cut =
      let parts = held_split on n f (continued (g ∷ written) more) (some_more g written more) held in
      (same n (omega (arith, is)) ∙ parts.0, held_cut new (suc n) k at g written (omega (arith, is)) long parts.1 same cut)
