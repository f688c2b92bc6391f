-- A truncation: the switch comes over files that read as both logs, and the cuts take what the prefix does not read.
use Rattle.std.proofs.Common.{◌≡◌, ℕ, suc, ◌+◌, ◌<◌, ◌≤◌, max, List, ◌∷◌, ◌++◌, length, take, drop, Some, refl, sym, ap, subst, ◌∙◌, arith, take-append-drop}
use Rattle.ring_types.specs.declared.entries.Entry.{Entry}
use Rattle.ring_types.specs.declared.limits.TheConstants.{LAST_FILE}
use Rattle.ring_types.specs.declared.schemas.Schema.{Schema}
use Rattle.edge_traits.specs.FileStates.{Contents, Files, Firm, MayLeave, shortened}
use Rattle.edge_traits.specs.Moments.{AtEachMoment}
use Rattle.edge_traits.specs.Works.{Switches, Telling, Works, WorksOn, telling}
use Rattle.edge_traits.specs.declared.disks.FileId.TheVariants as file
use Rattle.control_block.specs.Blocks.{Stands}
use Rattle.control_block.specs.ControlFiles.{IsEither}
use Rattle.entry_group.specs.Files.{files}
use Rattle.binlog_store.specs.Added.{added, continued}
use Rattle.binlog_store.specs.Files.{LeavesFront, from_file}
use Rattle.binlog_store.specs.Groups.{log_files}
use Rattle.binlog_store.specs.Held.{IsHeldLog, point_of}
use Rattle.binlog_store.specs.Mounted.{AreHeld, IsMounted, IsSaid, IsStore, log_of}
use Rattle.binlog_store.specs.declared.points.LogPoint.{LogPoint}
use Rattle.binlog_store.specs.Stands.{IsWritten, LogStands, ReadsFiles, last_length}
use Rattle.binlog_store.specs.declared.held.HeldLog.{HeldLog}
use Rattle.binlog_store.specs.declared.stores.BinlogStore.{BinlogStore}
use Rattle.binlog_store.proofs.Appending.{file_is, held_same, reads_both}
use Rattle.control_block.proofs.Switching.{switch_then_cut}
use Rattle.binlog_store.proofs.Continuing.{files_go_on}
use Rattle.binlog_store.proofs.Counts.{count_files, some_added}
use Rattle.binlog_store.proofs.NextPlaces.{some_files}
use Rattle.binlog_store.proofs.Phases.{below, switch_phase, write_phase}
use Rattle.binlog_store.proofs.Truncating.{front_firm, front_reads, held_cut}

-- ---- files of a longer log, and the prefix that is kept
module _ (schema : Schema) (held : HeldLog) (rest : List Entry) (is : IsHeldLog schema held) (on : Files) (longer : AreHeld on 1 (files schema (held.entries ++ rest))) where
  whole : files schema (held.entries ++ rest) ≡ continued ((some_files schema held.entries).0 ∷ (some_files schema held.entries).1) (added schema held.entries rest)
  whole = files_go_on schema held.entries rest ∙ ap (λ (w : List (List ℕ)). continued w (added schema held.entries rest)) (some_files schema held.entries).2

  there : AreHeld on 1 (continued ((some_files schema held.entries).0 ∷ (some_files schema held.entries).1) (added schema held.entries rest))
  there = subst (AreHeld on 1) whole longer

  last : suc held.end.place.file ≡ 1 + length ((some_files schema held.entries).0 ∷ (some_files schema held.entries).1)
  last = omega (arith, file_is schema held is, ap length (some_files schema held.entries).2)

  at : held.end.place.at ≡ last_length ((some_files schema held.entries).0 ∷ (some_files schema held.entries).1)
  at = is.at_is ∙ ap last_length (some_files schema held.entries).2

  pub cut_firm : Firm held.end.place.at (on (file.Binlog held.end.place.file))
  cut_firm =
      front_firm on (added schema held.entries rest) (some_added schema held.entries rest) 1 held.end.place.file held.end.place.at
      (some_files schema held.entries).0 (some_files schema held.entries).1 last at there

  pub cut_reads : (c : Contents) → ((m : ℕ) → m < held.end.place.file → MayLeave (on (file.Binlog m)) (c (file.Binlog m)))
      → LeavesFront held.end.place.file held.end.place.at (take held.end.place.at (on (file.Binlog held.end.place.file)).bytes) c → ReadsFiles c 1 (files schema held.entries)
  cut_reads c may front =
      subst (ReadsFiles c 1) (sym (some_files schema held.entries).2)
      (front_reads on (added schema held.entries rest) (some_added schema held.entries rest) c 1 held.end.place.file held.end.place.at
      (some_files schema held.entries).0 (some_files schema held.entries).1 last at there may front)

  pub cut_held : (new : Files) → ((m : ℕ) → m < held.end.place.file → new (file.Binlog m) ≡ on (file.Binlog m))
      → new (file.Binlog held.end.place.file) ≡ shortened held.end.place.at (on (file.Binlog held.end.place.file)) → AreHeld new 1 (files schema held.entries)
  cut_held new same cut =
      subst (AreHeld new 1) (sym (some_files schema held.entries).2)
      (held_cut on (added schema held.entries rest) (some_added schema held.entries rest) new 1 held.end.place.file held.end.place.at
      (some_files schema held.entries).0 (some_files schema held.entries).1 last at there same cut)

-- ---- the whole call: a store of a longer log, and what is kept of it
module _ (schema : Schema) (store : BinlogStore) (p : ℕ) (held : HeldLog) (kept : held.entries ≡ take p (log_of store)) where
  joined : log_of store ≡ held.entries ++ drop p (log_of store)
  joined = sym (take-append-drop p (log_of store)) ∙ ap (λ (l : List Entry). l ++ drop p (log_of store)) (sym kept)

  longer_held : (on : Files) → AreHeld on 1 (files schema (log_of store)) → AreHeld on 1 (files schema (held.entries ++ drop p (log_of store)))
  longer_held on h = subst (λ (l : List Entry). AreHeld on 1 (files schema l)) joined h

module _ {D : Type 0} {files_on : D → Files} {moment : D → ℕ} {left_since : D → ℕ → Contents → Type 0} (schema : Schema) (store : BinlogStore) (is : IsStore schema store) (p : ℕ) (held : HeldLog)
    (is_held : IsHeldLog schema held) (kept : held.entries ≡ take p (log_of store)) where
  pub still_held : {old mid : D} {Q : List ℕ → Type 0} → IsMounted schema store (files_on old)
      → AtEachMoment files_on moment left_since store.control.file old mid Q
      → AreHeld (files_on mid) 1 (files schema (held.entries ++ drop p (log_of store)))
  still_held {old = old} {mid = mid} mounted run =
      longer_held schema store p held kept (files_on mid)
      (held_same (files_on old) (files_on mid) 1 (files schema (log_of store)) (λ m. run.elsewhere (file.Binlog m) (λ same. let z : file.Binlog m ≡ file.LogCtl = same ∙ is.control in cc)) mounted.files)

  -- the switch
  pub switch_works : {old mid : D} (high : ℕ) (bytes : List ℕ) → IsMounted schema store (files_on old) → IsSaid schema held.entries high (Some bytes)
      → AtEachMoment files_on moment left_since store.control.file old mid (IsEither store.control.bytes bytes)
      → Switches log_files files_on moment left_since old mid (LogStands schema (log_of store)) (LogStands schema held.entries)
  switch_works {old = old} {mid = mid} high bytes mounted said run =
      let here : AtEachMoment files_on moment left_since file.LogCtl old mid (IsEither store.control.bytes bytes) =
      subst (λ f. AtEachMoment files_on moment left_since f old mid (IsEither store.control.bytes bytes)) is.control run in
      let reads = reads_both schema held.entries (drop p (log_of store)) (files_on old) (longer_held schema store p held kept (files_on old) mounted.files) in
      switch_phase schema (log_of store) held.entries store.highest high store.control.bytes bytes is.said said
      (λ c may. (subst (λ (l : List Entry). ReadsFiles c 1 (files schema l)) (sym (joined schema store p held kept)) (reads c may).1, (reads c may).0)) here

  -- and the cuts
  pub truncate_works : {old mid new : D} (now : BinlogStore) (bytes : List ℕ) → IsMounted schema store (files_on old) → now.held ≡ held
      → IsStore schema now → now.control.bytes ≡ Some bytes
      → AtEachMoment files_on moment left_since store.control.file old mid (IsEither store.control.bytes bytes) → Stands now.control (files_on mid now.control.file)
      → WorksOn (from_file held.end.place.file) files_on moment left_since mid new
      (LeavesFront held.end.place.file held.end.place.at (take held.end.place.at (files_on mid (file.Binlog held.end.place.file)).bytes))
      → Switches log_files files_on moment left_since old new (LogStands schema (log_of store)) (LogStands schema held.entries)
  truncate_works {old = old} {mid = mid} {new = new} now bytes mounted same next says run stands works =
      let said : IsSaid schema held.entries now.highest now.control.bytes = subst (λ (h : HeldLog). IsSaid schema h.entries now.highest now.control.bytes) same next.said in
      let control : Stands now.control (files_on mid file.LogCtl) = subst (λ f. Stands now.control (files_on mid f)) next.control stands in
      switch_then_cut log_files (telling files_on moment left_since old) (telling files_on moment left_since mid) (telling files_on moment left_since new)
      (LogStands schema (log_of store)) (LogStands schema held.entries)
      (switch_works now.highest bytes mounted (subst (IsSaid schema held.entries now.highest) says said) run)
      (write_phase schema held.entries now.highest now.control said (telling files_on moment left_since mid) (telling files_on moment left_since new) held.end.place.file _ control
      (cut_reads schema held (drop p (log_of store)) is_held (files_on mid) (still_held mounted run)) works)

  pub truncate_mounted : {old mid new : D} {P : Contents → Type 0} {Q : List ℕ → Type 0} (now : BinlogStore) → IsMounted schema store (files_on old)
      → now.held ≡ held → IsStore schema now
      → AtEachMoment files_on moment left_since store.control.file old mid Q → Stands now.control (files_on mid now.control.file)
      → WorksOn (from_file held.end.place.file) files_on moment left_since mid new P
      → files_on new (file.Binlog held.end.place.file) ≡ shortened held.end.place.at (files_on mid (file.Binlog held.end.place.file))
      → IsMounted schema now (files_on new)
  truncate_mounted {old = old} {mid = mid} {new = new} now mounted same next run stands works cut =
      let control : Stands now.control (files_on mid file.LogCtl) = subst (λ f. Stands now.control (files_on mid f)) next.control stands in
      record {
        control = subst (Stands now.control) (sym (works.others file.LogCtl refl)) control;
        files = subst (λ (h : HeldLog). AreHeld (files_on new) 1 (files schema h.entries)) (sym same)
            (cut_held schema held (drop p (log_of store)) is_held (files_on mid) (still_held mounted run) (files_on new)
            (λ m less. works.others (file.Binlog m) (below held.end.place.file m less)) cut);
      }

  -- before the cuts
  pub held_firm : {old mid : D} {Q : List ℕ → Type 0} (highest : ℕ) (point : LogPoint) → point ≡ point_of held highest → IsMounted schema store (files_on old)
      → AtEachMoment files_on moment left_since store.control.file old mid Q → Firm point.end (files_on mid (file.Binlog point.file))
  held_firm {mid = mid} highest point is_point mounted run =
      subst (λ (p : LogPoint). Firm p.end (files_on mid (file.Binlog p.file))) (sym is_point)
      (cut_firm schema held (drop p (log_of store)) is_held (files_on mid) (still_held mounted run))

-- ---- where the files are cut
pub works_cut : (held : HeldLog) (highest : ℕ) (point : LogPoint) {a m : Telling} → point ≡ point_of held highest
    → Works (from_file point.file) a m (LeavesFront point.file point.end (take point.end (a.files (file.Binlog point.file)).bytes))
    → Works (from_file held.end.place.file) a m (LeavesFront held.end.place.file held.end.place.at (take held.end.place.at (a.files (file.Binlog held.end.place.file)).bytes))
works_cut held highest point {a = a} {m = m} is works =
    subst (λ (p : LogPoint). Works (from_file p.file) a m (LeavesFront p.file p.end (take p.end (a.files (file.Binlog p.file)).bytes))) is works

pub shortened_there : (held : HeldLog) (highest : ℕ) (point : LogPoint) (old new : Files) → point ≡ point_of held highest
    → new (file.Binlog point.file) ≡ shortened point.end (old (file.Binlog point.file))
    → new (file.Binlog held.end.place.file) ≡ shortened held.end.place.at (old (file.Binlog held.end.place.file))
shortened_there held highest point old new is cut = subst (λ (p : LogPoint). new (file.Binlog p.file) ≡ shortened p.end (old (file.Binlog p.file))) is cut

pub top_file : (schema : Schema) (held : HeldLog) (highest : ℕ) (point : LogPoint) → IsHeldLog schema held → IsWritten schema held.entries
    → highest ≤ LAST_FILE → point ≡ point_of held highest
    → point.highest ≤ LAST_FILE
top_file schema held highest point h written top is =
    let many = count_files schema held.entries in
    let high : point.highest ≡ max highest held.end.place.file = ap (λ (p : LogPoint). p.highest) is in
    omega (arith, top, many, file_is schema held h, written.is_log.few_files, high)
