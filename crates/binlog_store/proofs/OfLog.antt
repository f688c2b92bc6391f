-- A log, and damage, are told by what the control file makes of a content: contents that read alike name one point, and up to it tell the same logs.
use Rattle.std.proofs.Common.{◌≡◌, ℕ, suc, ◌+◌, ◌<◌, ◌≤◌, ◌⊎◌, inl, inr, ⊎_elim, Bool, true, false, List, [], ◌∷◌, ◌++◌, length, take, drop, min, Option, Some, None, Result, Ok, Err, refl, sym, ap, ap₂, subst, ◌∙◌, arith, length-take}
use Rattle.std.specs.Prelude.{◌==◌, if◌then◌else◌, nat_lt}
use Rattle.std.proofs.lemmas.Bool.Decides.{nat_tests}
use Rattle.std.proofs.Math.Nat.{eq-or-lt_of_le}
use Rattle.event_frame.specs.Forms.{body_of}
use Rattle.event_frame.specs.declared.field_readers.FieldFault.{FieldFault}
use Rattle.event_frame.specs.declared.field_readers.FieldFault.TheVariants.{Cut}
use Rattle.ring_types.specs.declared.entries.Entry.{Entry}
use Rattle.ring_types.specs.declared.schemas.Schema.{Schema}
use Rattle.edge_traits.specs.FileStates.{Contents}
use Rattle.edge_traits.specs.declared.disks.FileId.{FileId}
use Rattle.edge_traits.specs.declared.disks.FileId.TheVariants as file
use Rattle.control_block.specs.ControlFiles.{control_of}
use Rattle.entry_group.specs.Files.{files, head_after}
use Rattle.entry_group.specs.declared.groups.EntryRead.{EntryRead}
use Rattle.binlog_store.specs.Added.{end_of}
use Rattle.binlog_store.specs.Damages.{ControlFault, FilesFault, LogFault, PointFault, agreeing, before_end, ending_of, fault_behind, head_fault, in_group, in_head, in_next, in_rotation, may_end, named, point_in}
use Rattle.binlog_store.specs.Laws.{AreOfLog}
use Rattle.binlog_store.specs.Longest.{Tells, last_end, last_file, next_behind, next_in, rest_behind}
use Rattle.binlog_store.specs.Mounting.{IsOfLog, ReadAlike}
use Rattle.binlog_store.specs.Points.{point_form}
use Rattle.binlog_store.specs.Stands.{LogHeld, LogRead, LogStands, ReadsFiles, last_length, point_at}
use Rattle.binlog_store.specs.declared.endings.Ending.{Ending}
use Rattle.binlog_store.specs.declared.endings.Ending.TheVariants.{Reaching, TooShort}
use Rattle.binlog_store.specs.declared.points.LogPoint.{LogPoint}
use Rattle.binlog_store.proofs.Counts.{count_files}
use Rattle.binlog_store.proofs.LastFiles.{shown_last}
use Rattle.binlog_store.proofs.LogMounts.{reads_whole}
use Rattle.binlog_store.proofs.NextPlaces.{last_some, some_files}
use Rattle.binlog_store.proofs.Undamaged.{cut_reads, point_named, reaches}

-- ---- contents with the same binary log files, from the first one on
abbrev AreSame : Contents → Contents → Type 0
AreSame b c = (n : ℕ) → 1 ≤ n → b (file.Binlog n) ≡ c (file.Binlog n)

reads_alike : (b c : Contents) → AreSame b c → (n : ℕ) → 1 ≤ n → (fs : List (List ℕ)) → ReadsFiles b n fs → ReadsFiles c n fs
reads_alike b c same n one [] read = read
reads_alike b c same n one (f ∷ []) read = ap (take (length f)) (sym (same n one)) ∙ read
reads_alike b c same n one (f ∷ (g ∷ more)) read = (sym (same n one) ∙ read.0, reads_alike b c same (suc n) (omega arith) (g ∷ more) read.1)

tells_alike : (schema : Schema) (b c : Contents) → AreSame b c → (log : List Entry) → Tells schema b log → Tells schema c log
tells_alike schema b c same log told = record { written = told.written; read = reads_alike b c same 1 (omega arith) (files schema log) told.read }

-- ---- a log
held_alike : (schema : Schema) (b c : Contents) → ReadAlike b c → (log : List Entry) (bytes : List ℕ) → control_of (b file.LogCtl) ≡ Some (Some bytes)
    → LogHeld schema log b bytes → LogHeld schema log c bytes
held_alike schema b c alike log bytes says held =
    let p = point_at log (files schema log) held.highest in
    let some = some_files schema log in
    let cut = cut_reads p b 1 (files schema log) (omega arith) refl held.read in
    let same = reads_alike (before_end p b) (before_end p c) (alike.files bytes p says (point_named schema b log bytes held)) 1 (omega arith) (files schema log) cut in
    record {
      highest = held.highest;
      point = held.point;
      point_fits = held.point_fits;
      written = held.written;
      read = subst (ReadsFiles c 1) (sym some.2)
          (reads_whole p c 1 p.file some.0 some.1 (omega (arith, ap length some.2)) refl (sym (ap last_length some.2)) (subst (ReadsFiles (before_end p c) 1) some.2 same));
    }

read_alike : (schema : Schema) (b c : Contents) → ReadAlike b c → (log : List Entry) (said : Option (Option (List ℕ))) → control_of (b file.LogCtl) ≡ said
    → LogRead schema log b said → LogRead schema log c said
read_alike schema b c alike log None says read = read
read_alike schema b c alike log (Some None) says read = read
read_alike schema b c alike log (Some (Some bytes)) says read = held_alike schema b c alike log bytes says read

pub stands_is_of_log : (schema : Schema) (log : List Entry) → IsOfLog (LogStands schema log)
stands_is_of_log schema log b c alike stands = subst (LogRead schema log c) alike.control (read_alike schema b c alike log (control_of (b file.LogCtl)) refl stands)

-- ---- the files up to a point
both_short : (x y end : ℕ) → min end x ≡ min end y → nat_lt x end ≡ nat_lt y end
both_short x y end same = grind (arith, nat_tests, same)

module _ (schema : Schema) (p : LogPoint) (b c : Contents) (same : AreSame (before_end p b) (before_end p c)) where
  ending_alike : (n : ℕ) → 1 ≤ n → n ≤ p.file → ending_of p b n ≡ ending_of p c n
  ending_alike n one within = go (nat_lt n p.file) refl
    where
      go : (less : Bool) → nat_lt n p.file ≡ less → ending_of p b n ≡ ending_of p c n
      go true is = rw is refl
      go false is =
          let last : n ≡ p.file = grind (arith, nat_tests, within, is) in
          let x = b (file.Binlog n) in
          let y = c (file.Binlog n) in
          let long = ap length (sym (shown_last p b n last) ∙ (same n one ∙ shown_last p c n last)) in
          let short = both_short (length x) (length y) p.end (sym (length-take p.end x) ∙ (long ∙ length-take p.end y)) in
          rw (is, short) refl

  head_alike : (n : ℕ) (head : List ℕ) → 1 ≤ n → n ≤ p.file → head_fault p b n head ≡ head_fault p c n head
  head_alike n head one within = ap₂ (λ (e : Ending) (x : List ℕ). in_head e n (agreeing x head) (length x)) (ending_alike n one within) (same n one)

  module _ (log : List Entry) (told : Tells schema (before_end p b) log) where
    abbrev n : ℕ
    n = last_file schema log

    one : 1 ≤ n
    one = omega (arith, count_files schema log)

    -- the last file has its head, and so is no file behind the point
    within : n ≤ p.file
    within =
        let long : last_end schema log ≤ length (before_end p b (file.Binlog n)) =
        reaches (point_at log (files schema log) 0) (before_end p b) 1 (files schema log) (omega arith) told.read in
        go (nat_lt n p.file) (n == p.file) refl refl (omega (arith, long, last_some schema log))
      where
        go : (less own : Bool) → nat_lt n p.file ≡ less → (n == p.file) ≡ own
            → 1 ≤ length (if less then b (file.Binlog n) else if own then take p.end (b (file.Binlog n)) else []) → n ≤ p.file
        go true own is its some = grind (arith, nat_tests, is)
        go false true is its some = grind (arith, nat_tests, its)
        go false false is its some = absurd (omega (arith, some))

    rest_alike : rest_behind schema (before_end p b) log ≡ rest_behind schema (before_end p c) log
    rest_alike = ap (drop (last_end schema log)) (same n one)

    next_alike : (bytes : List ℕ) (size : ℕ)
        → in_rotation (ending_of p c n) n (last_end schema log) bytes size (head_fault p b (n + 1) (head_after log))
        ≡ in_rotation (ending_of p c n) n (last_end schema log) bytes size (head_fault p c (n + 1) (head_after log))
    next_alike bytes size =
        ⊎_elim (λ (last : n ≡ p.file). own last (nat_lt (length (c (file.Binlog n))) p.end))
        (λ (below : n < p.file). ap (in_rotation (ending_of p c n) n (last_end schema log) bytes size) (head_alike (n + 1) (head_after log) (omega arith) (omega (arith, below))))
        (eq-or-lt_of_le within)
      where
        at_last : (short : Bool) (x y : FileId × ℕ)
            → in_rotation (if short then TooShort else Reaching) n (last_end schema log) bytes size x
            ≡ in_rotation (if short then TooShort else Reaching) n (last_end schema log) bytes size y
        at_last true x y = refl
        at_last false x y = refl

        own : n ≡ p.file → (short : Bool)
            → in_rotation (ending_of p c n) n (last_end schema log) bytes size (head_fault p b (n + 1) (head_after log))
            ≡ in_rotation (ending_of p c n) n (last_end schema log) bytes size (head_fault p c (n + 1) (head_after log))
        own last short =
            let is : nat_lt n p.file ≡ false = grind (arith, nat_tests, last) in
            rw is (at_last (nat_lt (length (c (file.Binlog n))) p.end) (head_fault p b (n + 1) (head_after log)) (head_fault p c (n + 1) (head_after log)))

    in_next_alike : (next : Result EntryRead ℕ) → in_next schema p b log next ≡ in_next schema p c log next
    in_next_alike (Err off) =
        ap₂ (λ (e : Ending) (bytes : List ℕ). in_group e n (last_end schema log) bytes off (length log == p.count)) (ending_alike n one within) rest_alike
    in_next_alike (Ok read) =
        ap₂ (λ (e : Ending) (bytes : List ℕ). in_rotation e n (last_end schema log) bytes read.size (head_fault p b (n + 1) (head_after log))) (ending_alike n one within) rest_alike
        ∙ next_alike (rest_behind schema (before_end p c) log) read.size

    behind_alike : fault_behind schema p b log ≡ fault_behind schema p c log
    behind_alike =
        in_next_alike (next_behind schema (before_end p b) log)
        ∙ ap (λ (bytes : List ℕ). in_next schema p c log (next_in schema log bytes (end_of schema log))) rest_alike

  back : AreSame (before_end p c) (before_end p b)
  back n one = sym (same n one)

  files_alike : (f : FileId) (at : ℕ) → 1 ≤ p.file → FilesFault schema p b f at → FilesFault schema p c f at
  files_alike f at first (inl x) = inl (record {
    none = λ log told. x.none log (tells_alike schema (before_end p c) (before_end p b) back log told);
    there = x.there ∙ head_alike 1 (head_after []) (omega arith) first;
  })
  files_alike f at first (inr x) = inr (record {
    log = x.log;
    longest = record {
      told = tells_alike schema (before_end p b) (before_end p c) same x.log x.longest.told;
      longest = λ e more. x.longest.longest e (tells_alike schema (before_end p c) (before_end p b) back (x.log ++ e ∷ []) more);
    };
    there = sym (behind_alike x.log x.longest.told) ∙ x.there;
  })

-- ---- the point
if_ends : (q p : LogPoint) (may : Bool) → may_end q ≡ may → (if may then Some q else None) ≡ Some p → 1 ≤ p.file
if_ends q p true may is = let same : q ≡ p = cc in let first : 1 ≤ q.file = grind (arith, nat_tests, may) in subst (λ (r : LogPoint). 1 ≤ r.file) same first
if_ends q p false may is = absurd cc

first_named : (r : Result LogPoint FieldFault) (p : LogPoint) → named r ≡ Some p → 1 ≤ p.file
first_named (Ok q) p is = if_ends q p (may_end q) refl is
first_named (Err fault) p is = absurd cc

-- ---- damage
module _ (schema : Schema) (f : FileId) (at : ℕ) (b c : Contents) (alike : ReadAlike b c) where
  point_alike : (bytes : List ℕ) → control_of (b file.LogCtl) ≡ Some (Some bytes) → (told : Option LogPoint) → point_in bytes ≡ told → PointFault schema b f at told
      → PointFault schema c f at told
  point_alike bytes says None is x = x
  point_alike bytes says (Some p) is x = files_alike schema p b c (alike.files bytes p says is) f at (first_named (body_of Cut point_form bytes) p is) x

  control_alike : (said : Option (Option (List ℕ))) → control_of (b file.LogCtl) ≡ said → ControlFault schema b f at said → ControlFault schema c f at said
  control_alike None says x = x
  control_alike (Some None) says x = x
  control_alike (Some (Some bytes)) says x = point_alike bytes says (point_in bytes) refl x

pub fault_is_of_log : (schema : Schema) (f : FileId) (at : ℕ) → IsOfLog (λ (c : Contents). LogFault schema c f at)
fault_is_of_log schema f at b c alike x =
    subst (ControlFault schema c f at) alike.control (control_alike schema f at b c alike (control_of (b file.LogCtl)) refl x)

-- ---- what a caller knows after a fault
pub either_is_of_log : (P Q : Contents → Type 0) → IsOfLog P → IsOfLog Q → IsOfLog (λ (c : Contents). P c ⊎ Q c)
either_is_of_log P Q p q b c alike (inl x) = inl (p b c alike x)
either_is_of_log P Q p q b c alike (inr x) = inr (q b c alike x)

pub are_of_log : AreOfLog
are_of_log = record { log = stands_is_of_log; fault = fault_is_of_log }
