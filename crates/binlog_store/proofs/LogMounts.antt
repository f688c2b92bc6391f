-- A log that was read up to its point stands there: its files are synced with more behind it, and that is cut off.
use Rattle.std.proofs.Common.{◌≡◌, Bool, true, false, ℕ, suc, ◌+◌, ◌<◌, ◌≤◌, List, [], ◌∷◌, ◌++◌, length, take, drop, Option, Some, None, refl, sym, ap, subst, ◌∙◌, arith, length-take, take-append-drop}
use Rattle.std.proofs.lemmas.List.{take_all}
use Rattle.std.specs.Prelude.{◌==◌, if◌then◌else◌, nat_lt}
use Rattle.std.proofs.lemmas.Bool.Decides.{nat_tests}
use Rattle.ring_types.proofs.Booleans.{lt_true}
use Rattle.ring_types.specs.declared.schemas.Schema.{Schema}
use Rattle.edge_traits.specs.FileStates.{Contents, FileState, Files, Firm, MayLeave, settled, shortened}
use Rattle.edge_traits.specs.Works.{IsTelling, MayOut, Telling, Works, seen}
use Rattle.edge_traits.specs.declared.disks.FileId.{FileId}
use Rattle.edge_traits.specs.declared.disks.FileId.TheVariants as file
use Rattle.edge_traits.proofs.FileStates.{settled_only}
use Rattle.control_block.specs.Blocks.{Stands}
use Rattle.control_block.specs.declared.blocks.ControlBlock.{ControlBlock}
use Rattle.control_block.proofs.Mounted.{stands_for, stands_left}
use Rattle.entry_group.specs.Files.{files}
use Rattle.binlog_store.specs.Added.{continued}
use Rattle.binlog_store.specs.Damages.{FilesFault, before_end, point_in}
use Rattle.binlog_store.specs.Files.{LeavesFront, from_file}
use Rattle.binlog_store.specs.Groups.{log_files}
use Rattle.binlog_store.specs.Held.{EndsThere, IsHeldLog}
use Rattle.binlog_store.specs.Mounted.{AreHeld, IsSaid}
use Rattle.binlog_store.specs.Following.{IsAll}
use Rattle.binlog_store.specs.Mounting.{AreRead, HaveTheirBytes, IsSeen, Names, ReadAlike, ReadsAsLeft}
use Rattle.binlog_store.specs.Points.{point_bytes}
use Rattle.binlog_store.specs.Stands.{IsWritten, PointFits, ReadsFiles, last_length, point_at}
use Rattle.binlog_store.specs.declared.held.HeldLog.{HeldLog}
use Rattle.binlog_store.specs.declared.points.LogPoint.{LogPoint}
use Rattle.binlog_store.proofs.HeldFiles.{held_join, settled_held}
use Rattle.binlog_store.proofs.LastFiles.{shown_last}
use Rattle.binlog_store.proofs.LogEnds.{file_there}
use Rattle.binlog_store.proofs.NextPlaces.{some_files}
use Rattle.binlog_store.proofs.Phases.{below, files_within}
use Rattle.control_block.proofs.Switching.{works_beside}
use Rattle.binlog_store.proofs.Undamaged.{files_whole}
use Rattle.binlog_store.proofs.Truncating.{front_firm, held_cut}

-- ---- the point
point_is : (schema : Schema) (held : HeldLog) (p : LogPoint) → IsHeldLog schema held → EndsThere p held → point_at held.entries (files schema held.entries) p.highest ≡ p
point_is schema held p is ends = λ i. record {
  count = ends.count_is i;
  file = (sym (file_there schema held.entries held.end is) ∙ ends.number) i;
  end = (sym is.at_is ∙ ends.at_is) i;
  highest = p.highest;
}

pub said_named : (schema : Schema) (held : HeldLog) (p : LogPoint) (bytes : Option (List ℕ)) → IsHeldLog schema held → IsWritten schema held.entries → EndsThere p held
    → Names bytes p → IsSaid schema held.entries p.highest bytes
said_named schema held p None is written ends names = absurd names
said_named schema held p (Some bytes) is written ends names =
    let same = point_is schema held p is ends in
    record {
      written = written;
      fits = subst PointFits (sym same) names.fits;
      says = names.is ∙ ap point_bytes (sym same);
    }

-- ---- what was read up to the point is read of the whole files
whole_last : (p : LogPoint) (c : Contents) (n : ℕ) (f : List ℕ) → n ≡ p.file → length f ≡ p.end → take (length f) (before_end p c (file.Binlog n)) ≡ f
    → take (length f) (c (file.Binlog n)) ≡ f
whole_last p c n f is long read =
    let x = c (file.Binlog n) in
    ap (λ (k : ℕ). take k x) long
    ∙ (sym (take_all (length f) (take p.end x) (omega (arith, length-take p.end x, long))) ∙ (ap (take (length f)) (sym (shown_last p c n is)) ∙ read))

pub reads_whole : (p : LogPoint) (c : Contents) (n k : ℕ) (f : List ℕ) (written : List (List ℕ)) → suc k ≡ n + length (f ∷ written) → k ≡ p.file
    → last_length (f ∷ written) ≡ p.end → ReadsFiles (before_end p c) n (f ∷ written) → ReadsFiles c n (f ∷ written)
reads_whole p c n k f [] at own long read = whole_last p c n f (omega (arith, at, own)) long read
reads_whole p c n k f (g ∷ written) at own long read =
    let below : nat_lt n p.file ≡ true = lt_true n p.file (omega (arith, at, own)) in
    let here : before_end p c (file.Binlog n) ≡ c (file.Binlog n) = rw below refl in
    (sym here ∙ read.0, reads_whole p c (suc n) k g written (omega (arith, at)) own long read.1)

-- ---- synced files hold the log's, with more behind the last
pub held_behind : (on : Files) (c : Contents) (n k : ℕ) (f : List ℕ) (written : List (List ℕ)) → suc k ≡ n + length (f ∷ written)
    → ((m : ℕ) → n ≤ m → m ≤ k → on (file.Binlog m) ≡ settled (c (file.Binlog m))) → ReadsFiles c n (f ∷ written)
    → AreHeld on n (continued (f ∷ written) (drop (last_length (f ∷ written)) (c (file.Binlog k)) ∷ []))
held_behind on c n k f [] at synced read =
    let here : k ≡ n = omega (arith, at) in
    let whole : c (file.Binlog n) ≡ f ++ drop (length f) (c (file.Binlog n)) = sym (take-append-drop (length f) (c (file.Binlog n))) ∙ ap (λ (x : List ℕ). x ++ drop (length f) (c (file.Binlog n))) read in
    subst (λ (m : ℕ). AreHeld on n ((f ++ drop (length f) (c (file.Binlog m))) ∷ [])) (sym here)
    (settled_held on n (f ++ drop (length f) (c (file.Binlog n))) [] (synced n (omega arith) (omega (arith, at)) ∙ ap settled whole) tt)
held_behind on c n k f (g ∷ written) at synced read =
    held_join on n f (continued (g ∷ written) (drop (last_length (g ∷ written)) (c (file.Binlog k)) ∷ [])) (synced n (omega arith) (omega (arith, at)) ∙ ap settled read.0)
    (held_behind on c (suc n) k g written (omega (arith, at)) (λ m low high. synced m (omega (arith, low)) high) read.1)

-- ---- the log that was read
pub all_read : (schema : Schema) (p : LogPoint) (held : HeldLog) (c : Contents) → IsHeldLog schema held → EndsThere p held → IsAll schema p c held.entries
    → ReadsFiles c 1 (files schema held.entries)
all_read schema p held c is ends all =
    let made = some_files schema held.entries in
    let count : suc p.file ≡ 1 + length (made.0 ∷ made.1) = omega (arith, ap length made.2, file_there schema held.entries held.end is, ends.number) in
    subst (ReadsFiles c 1) (sym made.2)
    (reads_whole p c 1 p.file made.0 made.1 count refl (sym (ap last_length made.2) ∙ (sym is.at_is ∙ ends.at_is)) (subst (ReadsFiles (before_end p c) 1) made.2 all.on.told.read))

-- the content is not damaged
pub all_whole : (schema : Schema) (p : LogPoint) (held : HeldLog) (c : Contents) (bytes : Option (List ℕ)) → IsHeldLog schema held → IsWritten schema held.entries
    → EndsThere p held → Names bytes p → IsAll schema p c held.entries → (f : FileId) (at : ℕ) → FilesFault schema p c f at → ⊥
all_whole schema p held c None is written ends names all f at fault = names
all_whole schema p held c (Some bytes) is written ends names all f at fault =
    let same = point_is schema held p is ends in
    let said = said_named schema held p (Some bytes) is written ends names in
    files_whole schema c held.entries bytes
    (record { highest = p.highest; point = said.says; point_fits = said.fits; written = written; read = all_read schema p held c is ends all }) f at
    (subst (λ (q : LogPoint). FilesFault schema q c f at) (sym same) fault)

-- its files are synced and read as the log, and more may stand behind it
pub record IsThere (schema : Schema) (p : LogPoint) (held : HeldLog) (on : Files) : Type 0 where
  pub is : IsHeldLog schema held
  pub ends : EndsThere p held
  pub synced : (m : ℕ) → 1 ≤ m → m ≤ p.file → on (file.Binlog m) ≡ settled (on (file.Binlog m)).bytes
  pub read : ReadsFiles (λ f. (on f).bytes) 1 (files schema held.entries)

pub there : (schema : Schema) (p : LogPoint) (held : HeldLog) (old on : Files) → IsHeldLog schema held → EndsThere p held → AreRead (p.file + 1) old on
    → HaveTheirBytes old on → ((c : Contents) → IsSeen c old → IsAll schema p c held.entries) → IsThere schema p held on
there schema p held old on is ends read same all = record {
  is = is;
  ends = ends;
  synced = λ m one le. read m one (omega (arith, le)) ∙ ap settled (sym (same m));
  read = all_read schema p held (λ f. (on f).bytes) is ends (all (λ f. (on f).bytes) same);
}

module _ (schema : Schema) (p : LogPoint) (held : HeldLog) (on : Files) (x : IsThere schema p held on) where
  abbrev first : List ℕ
  first = (some_files schema held.entries).0

  abbrev others : List (List ℕ)
  others = (some_files schema held.entries).1

  made : files schema held.entries ≡ first ∷ others
  made = (some_files schema held.entries).2

  count : suc p.file ≡ 1 + length (first ∷ others)
  count = omega (arith, ap length made, file_there schema held.entries held.end x.is, x.ends.number)

  ended : p.end ≡ last_length (first ∷ others)
  ended = sym x.ends.at_is ∙ (x.is.at_is ∙ ap last_length made)

  abbrev behind : List (List ℕ)
  behind = drop (last_length (first ∷ others)) (on (file.Binlog p.file)).bytes ∷ []

  some : 0 < length behind
  some = omega arith

  all_held : AreHeld on 1 (continued (first ∷ others) behind)
  all_held = held_behind on (λ f. (on f).bytes) 1 p.file first others count x.synced (subst (ReadsFiles (λ f. (on f).bytes) 1) made x.read)

  pub end_firm : Firm p.end (on (file.Binlog p.file))
  end_firm = front_firm on behind some 1 p.file p.end first others count ended all_held

  pub cut_held : (new : Files) → ((m : ℕ) → m < p.file → new (file.Binlog m) ≡ on (file.Binlog m)) → new (file.Binlog p.file) ≡ shortened p.end (on (file.Binlog p.file))
      → AreHeld new 1 (files schema held.entries)
  cut_held new same cut = subst (AreHeld new 1) (sym made) (held_cut on behind some new 1 p.file p.end first others count ended all_held same cut)

-- ---- while it is cut, what a crash leaves reads like what was read
shown_same : (p : LogPoint) (b c : Contents) → ((m : ℕ) → 1 ≤ m → m < p.file → b (file.Binlog m) ≡ c (file.Binlog m))
    → take p.end (b (file.Binlog p.file)) ≡ take p.end (c (file.Binlog p.file)) → (n : ℕ) → 1 ≤ n → before_end p b (file.Binlog n) ≡ before_end p c (file.Binlog n)
shown_same p b c before last n one = go (nat_lt n p.file) (n == p.file) refl refl
  where
    go : (less same : Bool) → nat_lt n p.file ≡ less → (n == p.file) ≡ same
        → (if less then b (file.Binlog n) else if same then take p.end (b (file.Binlog n)) else [])
        ≡ (if less then c (file.Binlog n) else if same then take p.end (c (file.Binlog n)) else [])
    go true same lower own = before n one (grind (arith, nat_tests, lower))
    go false true lower own =
        let is : n ≡ p.file = grind (arith, nat_tests, own) in
        subst (λ (m : ℕ). take p.end (b (file.Binlog m)) ≡ take p.end (c (file.Binlog m))) (sym is) last
    go false false lower own = refl

names_one : (said : Option (List ℕ)) (bytes : List ℕ) (p q : LogPoint) → Names said p → Some said ≡ Some (Some bytes) → point_in bytes ≡ Some q → p ≡ q
names_one None bytes p q names is named = absurd names
names_one (Some said) bytes p q names is named =
    let same : said ≡ bytes = cc in
    let one : Some p ≡ Some q = sym names.named ∙ (ap point_in same ∙ named) in
    cc

module _ (p : LogPoint) (block : ControlBlock) (names : Names block.bytes p) (a b : Telling) (stands : Stands block (a.files file.LogCtl))
    (synced : (m : ℕ) → 1 ≤ m → m ≤ p.file → a.files (file.Binlog m) ≡ settled (a.files (file.Binlog m)).bytes) where
  abbrev front : Contents → Type 0
  front = LeavesFront p.file p.end (take p.end (a.files (file.Binlog p.file)).bytes)

  left_below : (c : Contents) → MayOut (from_file p.file) a.files c → (m : ℕ) → 1 ≤ m → m < p.file → seen a (file.Binlog m) ≡ c (file.Binlog m)
  left_below c out m one less =
      sym (settled_only (a.files (file.Binlog m)).bytes (c (file.Binlog m))
      (subst (λ (f : FileState). MayLeave f (c (file.Binlog m))) (synced m one (omega (arith, less))) (out (file.Binlog m) (below p.file m less))))

  cut_alike : (c : Contents) → front c → MayOut (from_file p.file) a.files c → ReadAlike (seen a) c
  cut_alike c begins out =
      let control = stands_for block (a.files file.LogCtl) stands in
      record {
        control = control ∙ sym (stands_left block (a.files file.LogCtl) stands (c file.LogCtl) (out file.LogCtl refl));
        files = λ bytes q says named n one.
            subst (λ (r : LogPoint). before_end r (seen a) (file.Binlog n) ≡ before_end r c (file.Binlog n)) (names_one block.bytes bytes p q names (sym control ∙ says) named)
            (shown_same p (seen a) c (left_below c out) (sym begins) n one);
      }

  pub cut_keeps : IsTelling a → Works (from_file p.file) a b front → Works log_files a b (ReadsAsLeft a.files)
  cut_keeps tells works =
      works_beside (from_file p.file) log_files a b front (ReadsAsLeft a.files) (files_within p.file)
      (λ c begins out. record { left = seen a; may = λ f mine. tells.read f; alike = cut_alike c begins out }) works
