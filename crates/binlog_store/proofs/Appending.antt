-- An append: its entries belong behind the log, and what it leaves is a store of the longer log.
use Rattle.std.proofs.Common.{◌≡◌, ℕ, suc, ◌+◌, ◌^◌, ◌<◌, ◌≤◌, max, List, [], ◌∷◌, ◌++◌, length, take, Some, refl, sym, ap, ap₂, subst, ◌∙◌, arith}
use Rattle.ring_types.specs.declared.entries.Entry.{Entry}
use Rattle.ring_types.specs.declared.entries.Place.{Place}
use Rattle.ring_types.specs.declared.limits.TheConstants.{LAST_FILE}
use Rattle.ring_types.specs.declared.schemas.Schema.{Schema}
use Rattle.ring_types.specs.Logs.{rotates}
use Rattle.edge_traits.specs.FileStates.{Contents, Files, MayLeave}
use Rattle.edge_traits.specs.Moments.{AtEachMoment}
use Rattle.edge_traits.specs.Works.{Holds, IsTelling, Switches, Telling, Works, WorksOn, telling}
use Rattle.edge_traits.specs.declared.disks.FileId.{FileId}
use Rattle.edge_traits.specs.declared.disks.FileId.TheVariants as file
use Rattle.control_block.specs.Blocks.{Stands}
use Rattle.control_block.specs.ControlFiles.{IsEither}
use Rattle.entry_group.specs.Files.{files}
use Rattle.binlog_store.specs.Added.{added, continued, end_of}
use Rattle.binlog_store.specs.Files.{AreAdded, EndsAt, LeavesFront, from_file}
use Rattle.binlog_store.specs.Groups.{log_files}
use Rattle.binlog_store.specs.Held.{IsHeldLog, point_of}
use Rattle.binlog_store.specs.Mounted.{AreHeld, IsLast, IsMounted, IsSaid, IsStore, log_of}
use Rattle.binlog_store.specs.Points.{point_bytes}
use Rattle.binlog_store.specs.Stands.{IsWritten, LogStands, ReadsFiles, last_length, point_at}
use Rattle.binlog_store.specs.declared.held.HeldLog.{HeldLog}
use Rattle.binlog_store.specs.declared.points.LogPoint.{LogPoint}
use Rattle.binlog_store.specs.declared.stores.BinlogStore.{BinlogStore}
use Rattle.control_block.proofs.Switching.{write_then_switch}
use Rattle.binlog_store.proofs.Continuing.{files_go_on, some_file}
use Rattle.binlog_store.proofs.Counts.{count_added, count_files}
use Rattle.binlog_store.proofs.NextPlaces.{next_begins_at_the_end, some_files}
use Rattle.binlog_store.proofs.Phases.{below, held_holds, switch_phase, write_phase}
use Rattle.binlog_store.proofs.HeldFiles.{begins_left, held_ends, held_more, held_reads, reads_shorter}

-- ---- what is kept of a log says where it ends
pub file_is : (schema : Schema) (held : HeldLog) → IsHeldLog schema held → held.end.place.file ≡ length (files schema held.entries)
file_is schema held h = ap (λ (p : Place). p.file) h.place_is ∙ (next_begins_at_the_end schema held.entries).0

pub point_there : (schema : Schema) (held : HeldLog) (highest : ℕ) → IsHeldLog schema held
    → point_of held highest ≡ point_at held.entries (files schema held.entries) (max highest held.end.place.file)
point_there schema held highest h =
    ap₂ (λ (n : ℕ) (end : ℕ). record { count = length held.entries; file = n; end = end; highest = max highest held.end.place.file }) (file_is schema held h) h.at_is

-- a point that the store switches to
pub said_next : (schema : Schema) (held : HeldLog) (highest : ℕ) → IsHeldLog schema held → IsWritten schema held.entries → highest ≤ LAST_FILE
    → (point_of held highest).end < 2 ^ 64 → (point_of held highest).count < 2 ^ 64
    → IsSaid schema held.entries (max highest held.end.place.file) (Some (point_bytes (point_of held highest)))
said_next schema held highest h written top end count =
    let is = point_there schema held highest h in
    let many = count_files schema held.entries in
    record {
      written = written;
      fits = record {
        count = count;
        file = omega (arith, file_is schema held h);
        end = subst (λ (p : LogPoint). p.end < 2 ^ 64) is end;
        highest = omega (arith, top, many, file_is schema held h, written.is_log.few_files);
      };
      says = ap point_bytes is;
    }

-- ---- the numbers of files that a point tells
pub file_point : (schema : Schema) (held : HeldLog) (highest : ℕ) (point : LogPoint) → IsHeldLog schema held → point ≡ point_of held highest → point.file ≡ rotates held.entries + 1
file_point schema held highest point h is = omega (arith, ap (λ (p : LogPoint). p.file) is, file_is schema held h, count_files schema held.entries)

pub highest_point : (schema : Schema) (held : HeldLog) (highest : ℕ) (point : LogPoint) → IsHeldLog schema held → point ≡ point_of held highest
    → point.highest ≡ max highest (rotates held.entries + 1)
highest_point schema held highest point h is =
    ap (λ (p : LogPoint). p.highest) is ∙ ap (λ (n : ℕ). max highest n) (sym (ap (λ (p : LogPoint). p.file) is) ∙ file_point schema held highest point h is)

pub highest_still : (schema : Schema) (store : BinlogStore) → IsStore schema store → store.highest ≡ max store.highest (rotates (log_of store) + 1)
highest_still schema store is = omega (arith, is.said.fits.file, count_files schema (log_of store))

-- ---- entries behind the log of a store
pub few_added : (schema : Schema) (store : BinlogStore) (more : List Entry) → IsStore schema store → IsWritten schema (log_of store ++ more)
    → store.held.end.place.file + length (added schema (log_of store) more) ≤ LAST_FILE + 1
few_added schema store more is written =
    omega (arith, file_is schema store.held is.held, count_added schema (log_of store) more, count_files schema (log_of store ++ more), written.is_log.few_files)

-- they reach up to the last file of the longer log
pub last_added : (schema : Schema) (store : BinlogStore) (more : List Entry) → IsStore schema store
    → store.held.end.place.file + length (added schema (log_of store) more) ≡ rotates (log_of store ++ more) + 2
last_added schema store more is =
    omega (arith, file_is schema store.held is.held, count_added schema (log_of store) more, count_files schema (log_of store ++ more))

module _ (schema : Schema) (store : BinlogStore) (is : IsStore schema store) where
  pub ends : (on : Files) → IsMounted schema store on → EndsAt store.held.end.place.at (on (file.Binlog store.held.end.place.file))
  ends on mounted =
      let some = some_files schema (log_of store) in
      held_ends on 1 store.held.end.place.file store.held.end.place.at some.0 some.1 (omega (arith, file_is schema store.held is.held, ap length some.2))
      (subst (AreHeld on 1) some.2 mounted.files) (is.held.at_is ∙ ap last_length some.2)

  -- while the entries are written, the log is read
  pub reads_old : (on : Files) → IsMounted schema store on → (c : Contents)
      → ((m : ℕ) → m < store.held.end.place.file → MayLeave (on (file.Binlog m)) (c (file.Binlog m)))
      → LeavesFront store.held.end.place.file store.held.end.place.at (on (file.Binlog store.held.end.place.file)).bytes c → ReadsFiles c 1 (files schema (log_of store))
  reads_old on mounted c may front =
      held_reads on c 1 store.held.end.place.file (files schema (log_of store)) (omega (arith, file_is schema store.held is.held)) mounted.files may
      (λ bytes last. let long : length bytes ≡ store.held.end.place.at = ap length (sym last.reads) ∙ (ends on mounted).long in
      ap (λ (n : ℕ). take n (c (file.Binlog store.held.end.place.file))) long ∙ (front ∙ last.reads))

  -- when they are written, the files are those of the longer log
  pub held_longer : (more : List Entry) (old new : Files) → IsMounted schema store old
      → ((m : ℕ) → m < store.held.end.place.file → new (file.Binlog m) ≡ old (file.Binlog m))
      → AreAdded new store.held.end.place.file (old (file.Binlog store.held.end.place.file)).bytes (added schema (log_of store) more) → AreHeld new 1 (files schema (log_of store ++ more))
  held_longer more old new mounted same settled =
      let some = some_files schema (log_of store) in
      let next = some_file schema (end_of schema (log_of store)) (log_of store) more in
      let k = store.held.end.place.file in
      let whole = files_go_on schema (log_of store) more ∙ ap₂ continued some.2 next.2 in
      subst (AreHeld new 1) (sym whole)
      (held_more old new 1 k some.0 next.0 some.1 next.1 (omega (arith, file_is schema store.held is.held, ap length some.2))
      (subst (AreHeld old 1) some.2 mounted.files) same (subst (AreAdded new k (old (file.Binlog k)).bytes) next.2 settled))

-- files that stay are held
pub held_same : (old new : Files) (n : ℕ) (written : List (List ℕ)) → ((m : ℕ) → new (file.Binlog m) ≡ old (file.Binlog m)) → AreHeld old n written
    → AreHeld new n written
held_same old new n [] same held = held
held_same old new n (bytes ∷ []) same held = subst (IsLast bytes) (sym (same n)) held
held_same old new n (bytes ∷ (next ∷ more)) same held = (same n ∙ held.0, held_same old new (suc n) (next ∷ more) same held.1)

-- files of a longer log that are held read as both logs, whatever a crash leaves of them
pub reads_both : (schema : Schema) (log more : List Entry) (on : Files) → AreHeld on 1 (files schema (log ++ more)) → (c : Contents)
    → ((m : ℕ) → MayLeave (on (file.Binlog m)) (c (file.Binlog m))) → ReadsFiles c 1 (files schema log) × ReadsFiles c 1 (files schema (log ++ more))
reads_both schema log more on held c may =
    let n = length (files schema (log ++ more)) in
    let new = held_reads on c 1 n (files schema (log ++ more)) (omega arith) held (λ m less. may m) (begins_left on c n (may n)) in
    let some = some_files schema log in
    let longer = files_go_on schema log more ∙ ap (λ (w : List (List ℕ)). continued w (added schema log more)) some.2 in
    (subst (ReadsFiles c 1) (sym some.2) (reads_shorter c 1 some.0 some.1 (added schema log more) (subst (ReadsFiles c 1) longer new)), new)

-- ---- the whole call
module _ (schema : Schema) (store : BinlogStore) (is : IsStore schema store) {a m : Telling} where
  -- while the entries are written
  pub write_works : IsMounted schema store a.files
      → Works (from_file store.held.end.place.file) a m (LeavesFront store.held.end.place.file store.held.end.place.at (a.files (file.Binlog store.held.end.place.file)).bytes)
      → Works log_files a m (LogStands schema (log_of store))
  write_works mounted works =
      write_phase schema (log_of store) store.highest store.control is.said a m store.held.end.place.file _
      mounted.control (reads_old schema store is a.files mounted) works

  -- the control file is as it was
  pub control_still : {P : Contents → Type 0} → IsMounted schema store a.files → Works (from_file store.held.end.place.file) a m P
      → Stands store.control (m.files store.control.file)
  control_still mounted works = subst (λ f. Stands store.control (m.files f)) (sym is.control) (subst (Stands store.control) (sym (works.others file.LogCtl refl)) mounted.control)

  pub held_written : {P : Contents → Type 0} (more : List Entry) → IsMounted schema store a.files → Works (from_file store.held.end.place.file) a m P
      → AreAdded m.files store.held.end.place.file (a.files (file.Binlog store.held.end.place.file)).bytes (added schema (log_of store) more)
      → AreHeld m.files 1 (files schema (log_of store ++ more))
  held_written more mounted works settled =
      held_longer schema store is more a.files m.files mounted (λ n less. works.others (file.Binlog n) (below store.held.end.place.file n less)) settled

module _ {D : Type 0} {files_on : D → Files} {moment : D → ℕ} {left_since : D → ℕ → Contents → Type 0} (schema : Schema) (store : BinlogStore) (is : IsStore schema store) where
  pub append_works : (more : List Entry) {old mid new : D} (high : ℕ) (bytes : List ℕ) → IsMounted schema store (files_on old)
      → WorksOn (from_file store.held.end.place.file) files_on moment left_since old mid
      (LeavesFront store.held.end.place.file store.held.end.place.at (files_on old (file.Binlog store.held.end.place.file)).bytes)
      → AreAdded (files_on mid) store.held.end.place.file (files_on old (file.Binlog store.held.end.place.file)).bytes (added schema (log_of store) more)
      → IsSaid schema (log_of store ++ more) high (Some bytes)
      → AtEachMoment files_on moment left_since store.control.file mid new (IsEither store.control.bytes bytes)
      → Switches log_files files_on moment left_since old new (LogStands schema (log_of store)) (LogStands schema (log_of store ++ more))
  append_works more {old = old} {mid = mid} {new = new} high bytes mounted works settled said run =
      let held = held_written schema store is more mounted works settled in
      let here : AtEachMoment files_on moment left_since file.LogCtl mid new (IsEither store.control.bytes bytes) =
      subst (λ f. AtEachMoment files_on moment left_since f mid new (IsEither store.control.bytes bytes)) is.control run in
      write_then_switch log_files (telling files_on moment left_since old) (telling files_on moment left_since mid) (telling files_on moment left_since new)
      (LogStands schema (log_of store)) (LogStands schema (log_of store ++ more))
      (write_works schema store is mounted works)
      (switch_phase schema (log_of store) (log_of store ++ more) store.highest high store.control.bytes bytes is.said said (reads_both schema (log_of store) more (files_on mid) held) here)

-- ---- the store after a switch to the point of what it keeps
pub said_point : (schema : Schema) (held : HeldLog) (highest : ℕ) (point : LogPoint) → IsHeldLog schema held → IsWritten schema held.entries
    → highest ≤ LAST_FILE
    → point ≡ point_of held highest → point.end < 2 ^ 64 → point.count < 2 ^ 64
    → IsSaid schema held.entries point.highest (Some (point_bytes point))
said_point schema held highest point h written top is end count =
    subst (λ (p : LogPoint). IsSaid schema held.entries p.highest (Some (point_bytes p))) (sym is)
    (said_next schema held highest h written top (subst (λ (p : LogPoint). p.end < 2 ^ 64) is end) (subst (λ (p : LogPoint). p.count < 2 ^ 64) is count))

pub switched_store : (schema : Schema) (store : BinlogStore) (held : HeldLog) (point : LogPoint) → IsHeldLog schema held
    → IsSaid schema held.entries point.highest (Some (point_bytes point))
    → store.held ≡ held → store.highest ≡ point.highest → store.control.bytes ≡ Some (point_bytes point) → store.control.file ≡ file.LogCtl → IsStore schema store
switched_store schema store held point h said same highest bytes at = record {
  held = subst (IsHeldLog schema) (sym same) h;
  said = subst (λ (l : HeldLog). IsSaid schema l.entries store.highest store.control.bytes) (sym same)
      (subst (λ (n : ℕ). IsSaid schema held.entries n store.control.bytes) (sym highest)
      (subst (IsSaid schema held.entries point.highest) (sym bytes) said));
  control = at;
}

-- the files that were written are held, and the control file says the point
pub switched_mounted : {D : Type 0} {files_on : D → Files} {moment : D → ℕ} {left_since : D → ℕ → Contents → Type 0} {mid new : D} {Q : List ℕ → Type 0} {f : FileId}
    (schema : Schema) (store : BinlogStore) (log : List Entry) → f ≡ file.LogCtl → store.control.file ≡ f → log_of store ≡ log
    → AreHeld (files_on mid) 1 (files schema log) → AtEachMoment files_on moment left_since f mid new Q → Stands store.control (files_on new store.control.file)
    → IsMounted schema store (files_on new)
switched_mounted {files_on = files_on} {mid = mid} {new = new} schema store log at same log_is held run stands = record {
  control = subst (λ f. Stands store.control (files_on new f)) (same ∙ at) stands;
  files = subst (λ (l : List Entry). AreHeld (files_on new) 1 (files schema l)) (sym log_is)
      (held_same (files_on mid) (files_on new) 1 (files schema log) (λ m. run.elsewhere (file.Binlog m) (λ is. let z : file.Binlog m ≡ file.LogCtl = is ∙ at in cc)) held);
}

-- ---- where the entries were written
pub works_there : (held : HeldLog) (highest : ℕ) (end : LogPoint) {a m : Telling} → end ≡ point_of held highest
    → Works (from_file end.file) a m (LeavesFront end.file end.end (a.files (file.Binlog end.file)).bytes)
    → Works (from_file held.end.place.file) a m (LeavesFront held.end.place.file held.end.place.at (a.files (file.Binlog held.end.place.file)).bytes)
works_there held highest end {a = a} {m = m} is works = subst (λ (p : LogPoint). Works (from_file p.file) a m (LeavesFront p.file p.end (a.files (file.Binlog p.file)).bytes)) is works

pub added_there : (held : HeldLog) (highest : ℕ) (end : LogPoint) (old new : Files) (one other : List (List ℕ)) → end ≡ point_of held highest → one ≡ other
    → AreAdded new end.file (old (file.Binlog end.file)).bytes one → AreAdded new held.end.place.file (old (file.Binlog held.end.place.file)).bytes other
added_there held highest end old new one other is same settled =
    subst (λ (p : LogPoint). AreAdded new p.file (old (file.Binlog p.file)).bytes other) is (subst (AreAdded new end.file (old (file.Binlog end.file)).bytes) same settled)

-- a store that is mounted holds its log
pub mounted_holds : (schema : Schema) (store : BinlogStore) (now : Telling) → IsStore schema store → IsMounted schema store now.files → IsTelling now
    → Holds log_files now (LogStands schema (log_of store))
mounted_holds schema store now is mounted tells =
    held_holds schema (log_of store) store.highest store.control is.said now (length (files schema (log_of store))) tells (omega arith) mounted.control mounted.files
