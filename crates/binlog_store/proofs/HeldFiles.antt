-- Files that a store holds read as those of its log whatever a crash leaves, since all but the last are synced, and of the last the bytes up to the end stand.
use Rattle.std.proofs.Common.{◌≡◌, ℕ, suc, ◌+◌, ◌<◌, List, [], ◌∷◌, ◌++◌, length, take, refl, sym, ap, subst, ◌∙◌, arith}
use Rattle.std.proofs.lemmas.List.{length-append, take_all, take-take}
use Rattle.edge_traits.specs.FileStates.{Contents, FileState, Files, MayLeave, settled}
use Rattle.edge_traits.specs.declared.disks.FileId.TheVariants as file
use Rattle.edge_traits.proofs.FileStates.{firm_left, firm_settled, settled_only}
use Rattle.binlog_store.specs.Added.{continued}
use Rattle.binlog_store.specs.Files.{AreAdded, AreSettled, EndsAt}
use Rattle.binlog_store.specs.Mounted.{AreHeld, IsLast}
use Rattle.binlog_store.specs.Stands.{ReadsFiles, last_length}
use Rattle.binlog_store.proofs.BehindTheEnd.{take_front}

-- ---- what held files read, and what a crash leaves of them
last_left : (bytes left : List ℕ) (f : FileState) → IsLast bytes f → MayLeave f left → take (length bytes) left ≡ bytes
last_left bytes left f last may = firm_left last.ends.firm left may ∙ (ap (take (length bytes)) last.reads ∙ take_all (length bytes) bytes (omega arith))

-- a file that still begins with its bytes
abbrev pub BeginsStill : Files → Contents → ℕ → Type 0
BeginsStill on c k = (bytes : List ℕ) → IsLast bytes (on (file.Binlog k)) → take (length bytes) (c (file.Binlog k)) ≡ bytes

pub begins_left : (on : Files) (c : Contents) (k : ℕ) → MayLeave (on (file.Binlog k)) (c (file.Binlog k)) → BeginsStill on c k
begins_left on c k may bytes last = last_left bytes (c (file.Binlog k)) (on (file.Binlog k)) last may

-- k is the last of them: what a crash leaves of those before it, and a front of it
pub held_reads : (on : Files) (c : Contents) (n k : ℕ) (written : List (List ℕ)) → suc k ≡ n + length written → AreHeld on n written
    → ((m : ℕ) → m < k → MayLeave (on (file.Binlog m)) (c (file.Binlog m))) → BeginsStill on c k → ReadsFiles c n written
held_reads on c n k [] at held may still = held
held_reads on c n k (bytes ∷ []) at held may still =
    let e : k ≡ n = omega (arith, at) in
    subst (λ (z : ℕ). BeginsStill on c z) e still bytes held
held_reads on c n k (bytes ∷ (next ∷ more)) at held may still =
    let left = may n (omega (arith, at)) in (
      settled_only bytes (c (file.Binlog n)) (subst (λ (f : FileState). MayLeave f (c (file.Binlog n))) held.0 left),
      held_reads on c (suc n) k (next ∷ more) (omega (arith, at)) held.1 may still,
    )

-- ---- files that go on
pub some_more : (f : List ℕ) (written more : List (List ℕ)) → 0 < length (continued (f ∷ written) more)
some_more f [] [] = omega arith
some_more f [] (g ∷ more) = omega arith
some_more f (g ∷ written) more = omega arith

pub reads_split : (c : Contents) (n : ℕ) (f : List ℕ) (rest : List (List ℕ)) → 0 < length rest → ReadsFiles c n (f ∷ rest)
    → (c (file.Binlog n) ≡ f) × ReadsFiles c (suc n) rest
reads_split c n f [] some h = absurd (omega (arith, some))
reads_split c n f (g ∷ rest) some h = h

pub front_of : (f g read : List ℕ) → take (length (f ++ g)) read ≡ f ++ g → take (length f) read ≡ f
front_of f g read is =
    sym (take-take (length f) (length (f ++ g)) read (omega (arith, length-append f g))) ∙ (ap (take (length f)) is ∙ take_front (length f) f g refl)

pub front_of_whole : (f g read : List ℕ) → read ≡ f ++ g → take (length f) read ≡ f
front_of_whole f g read is = ap (take (length f)) is ∙ take_front (length f) f g refl

-- what reads as the longer log reads as the log
pub reads_shorter : (c : Contents) (n : ℕ) (f : List ℕ) (written more : List (List ℕ)) → ReadsFiles c n (continued (f ∷ written) more)
    → ReadsFiles c n (f ∷ written)
reads_shorter c n f [] [] h = h
reads_shorter c n f [] (g ∷ []) h = front_of f g (c (file.Binlog n)) h
reads_shorter c n f [] (g ∷ (x ∷ more)) h = front_of_whole f g (c (file.Binlog n)) h.0
reads_shorter c n f (g ∷ written) more h =
    let parts = reads_split c n f (continued (g ∷ written) more) (some_more g written more) h in
    (parts.0, reads_shorter c (suc n) g written more parts.1)

-- ---- synced files are held
settled_last : (bytes : List ℕ) (f : FileState) → f ≡ settled bytes → IsLast bytes f
settled_last bytes f is =
    subst (IsLast bytes) (sym is)
    (record { reads = refl; ends = record { long = refl; firm = firm_settled (length bytes) bytes (omega arith) } })

pub settled_held : (on : Files) (n : ℕ) (bytes : List ℕ) (more : List (List ℕ)) → on (file.Binlog n) ≡ settled bytes → AreSettled on (suc n) more
    → AreHeld on n (bytes ∷ more)
settled_held on n bytes [] is all = settled_last bytes (on (file.Binlog n)) is
settled_held on n bytes (next ∷ more) is all = (is, settled_held on (suc n) next more all.0 all.1)

pub held_join : (on : Files) (n : ℕ) (f : List ℕ) (rest : List (List ℕ)) → on (file.Binlog n) ≡ settled f → AreHeld on (suc n) rest → AreHeld on n (f ∷ rest)
held_join on n f [] is held = absurd held
held_join on n f (g ∷ rest) is held = (is, held)

-- the last of held files, k, went on, and others follow it
pub held_more : (old new : Files) (n k : ℕ) (f first : List ℕ) (written others : List (List ℕ)) → suc k ≡ n + length (f ∷ written)
    → AreHeld old n (f ∷ written)
    → ((m : ℕ) → m < k → new (file.Binlog m) ≡ old (file.Binlog m)) → AreAdded new k (old (file.Binlog k)).bytes (first ∷ others) → AreHeld new n (continued (f ∷ written) (first ∷ others))
held_more old new n k f first [] others at held same more =
    let e : k ≡ n = omega (arith, at) in
    let next : k + 1 ≡ suc n = omega (arith, at) in
    let here : new (file.Binlog n) ≡ settled ((old (file.Binlog n)).bytes ++ first) = subst (λ (z : ℕ). new (file.Binlog z) ≡ settled ((old (file.Binlog z)).bytes ++ first)) e more.0 in
    settled_held new n (f ++ first) others (here ∙ ap (λ (b : List ℕ). settled (b ++ first)) held.reads) (subst (λ (z : ℕ). AreSettled new z others) next more.1)
held_more old new n k f first (g ∷ written) others at held same more =
    held_join new n f (continued (g ∷ written) (first ∷ others)) (same n (omega (arith, at)) ∙ held.0)
    (held_more old new (suc n) k g first written others (omega (arith, at)) held.1 same more)

-- the last of held files ends where its bytes do
pub held_ends : (on : Files) (n k : ℕ) (at : ℕ) (f : List ℕ) (written : List (List ℕ)) → suc k ≡ n + length (f ∷ written) → AreHeld on n (f ∷ written)
    → at ≡ last_length (f ∷ written) → EndsAt at (on (file.Binlog k))
held_ends on n k at f [] is held long =
    let e : k ≡ n = omega (arith, is) in
    subst (λ (z : ℕ). EndsAt at (on (file.Binlog z))) (sym e) (subst (λ (z : ℕ). EndsAt z (on (file.Binlog n))) (sym long) held.ends)
held_ends on n k at f (g ∷ written) is held long = held_ends on (suc n) k at g written (omega (arith, is)) held.1 long
