-- A content that stands for a log is not damaged: up to its point the files tell the log and no longer one, and behind it nothing stands.
use Rattle.std.proofs.Common.{◌≡◌, ℕ, suc, ◌+◌, ◌<◌, ◌≤◌, inl, inr, true, false, List, [], ◌∷◌, ◌++◌, length, take, min, Option, Some, None, Err, refl, sym, ap, ap₂, subst, ◌∙◌, arith, append-nil}
use Rattle.std.specs.Prelude.{◌==◌, nat_lt, nat_le}
use Rattle.std.proofs.lemmas.Bool.{eq-eqb}
use Rattle.std.proofs.lemmas.Bool.Decides.{nat_tests}
use Rattle.std.proofs.lemmas.List.{drop_all, length-append, length-take, take-take}
use Rattle.event_frame.specs.Events.{event_at}
use Rattle.event_frame.specs.Forms.{body_of}
use Rattle.event_frame.proofs.Forms.{spelled_is_body}
use Rattle.event_frame.specs.declared.field_readers.FieldFault.TheVariants.{Cut}
use Rattle.ring_types.specs.declared.entries.Entry.{Entry}
use Rattle.ring_types.specs.declared.entries.Payload.{Payload}
use Rattle.ring_types.specs.declared.entries.Payload.TheVariants as payload
use Rattle.ring_types.specs.declared.limits.TheConstants.{LAST_FILE}
use Rattle.ring_types.specs.declared.schemas.Schema.{Schema}
use Rattle.edge_traits.specs.FileStates.{Contents}
use Rattle.edge_traits.specs.declared.disks.FileId.{FileId}
use Rattle.edge_traits.specs.declared.disks.FileId.TheVariants as file
use Rattle.control_block.specs.ControlFiles.{control_of}
use Rattle.entry_group.specs.Files.{files, first_place, placed}
use Rattle.entry_group.specs.Groups.{group}
use Rattle.entry_group.proofs.GroupLaws.{group_length}
use Rattle.binlog_store.specs.Added.{continued, end_of}
use Rattle.binlog_store.specs.Damages.{ControlFault, FilesFault, PointFault, before_end, ending_of, fault_behind, in_next, may_end, named, point_in}
use Rattle.binlog_store.specs.Laws.{StandsUndamaged}
use Rattle.binlog_store.specs.Longest.{IsLongest, Tells, last_end, last_file, next_behind, next_in, rest_behind}
use Rattle.binlog_store.specs.Points.{point_bytes, point_form}
use Rattle.binlog_store.specs.Stands.{LogHeld, LogRead, ReadsFiles, last_length, point_at}
use Rattle.binlog_store.specs.declared.endings.Ending.TheVariants.{Reaching}
use Rattle.binlog_store.specs.declared.points.LogPoint.{LogPoint}
use Rattle.binlog_store.proofs.Continuing.{files_go_on}
use Rattle.binlog_store.proofs.Counts.{count_files, stand_behind}
use Rattle.binlog_store.proofs.NextPlaces.{some_files}
use Rattle.binlog_store.proofs.OneLongest.{one_longest}
use Rattle.binlog_store.proofs.PointBytes.{point_fields, point_spelled}
use Rattle.binlog_store.proofs.LogEnds.{some_bytes}

-- ---- one more group
-- the last of some files has no more bytes, so it does not go on
no_more : (c : Contents) (n k : ℕ) (f g : List ℕ) (written more : List (List ℕ)) → n + length (f ∷ written) ≡ suc k
    → length (c (file.Binlog k)) ≤ last_length (f ∷ written) → 1 ≤ length g → ReadsFiles c n (continued (f ∷ written) (g ∷ more)) → ⊥
no_more c n k f g [] [] at short some read =
    let is : n ≡ k = omega (arith, at) in
    let here : length (c (file.Binlog n)) ≤ length f = subst (λ (z : ℕ). length (c (file.Binlog z)) ≤ length f) (sym is) short in
    let long : min (length (f ++ g)) (length (c (file.Binlog n))) ≡ length (f ++ g) =
    sym (length-take (length (f ++ g)) (c (file.Binlog n))) ∙ ap length read in
    omega (arith, here, long, length-append f g, some)
no_more c n k f g [] (h ∷ more) at short some read =
    let is : n ≡ k = omega (arith, at) in
    let here : length (c (file.Binlog n)) ≤ length f = subst (λ (z : ℕ). length (c (file.Binlog z)) ≤ length f) (sym is) short in
    omega (arith, here, ap length read.0, length-append f g, some)
no_more c n k f g (h ∷ []) more at short some read = no_more c (suc n) k h g [] more (omega (arith, at)) short some read.1
no_more c n k f g (h ∷ (i ∷ written)) more at short some read = no_more c (suc n) k h g (i ∷ written) more (omega (arith, at)) short some read.1

-- what a group adds begins with it
placed_first : (k : Payload) (text : List ℕ) (before : List Entry)
    → (f : List ℕ) × (more : List (List ℕ)) × (rest : List ℕ) × (placed k text before ([] ∷ []) ≡ f ∷ more) × (f ≡ text ++ rest)
placed_first payload.NoOp text before = (text ++ [], [], [], refl, refl)
placed_first payload.Rotate text before = (text, _, [], refl, sym (append-nil text))
placed_first (payload.Txn t) text before = (text ++ [], [], [], refl, refl)

module _ (schema : Schema) (c : Contents) (log : List Entry) where
  no_longer : (e : Entry) → length (c (file.Binlog (last_file schema log))) ≤ last_end schema log → Tells schema c (log ++ e ∷ []) → ⊥
  no_longer e short told =
      let old = some_files schema log in
      let text = group schema e (end_of schema log) in
      let new = placed_first e.payload text log in
      let stands = (stand_behind schema first_place [] log (e ∷ []) told.written.stand).0 in
      let long = group_length schema e (end_of schema log) stands in
      let whole : files schema (log ++ e ∷ []) ≡ continued (old.0 ∷ old.1) (new.0 ∷ new.1) = files_go_on schema log (e ∷ []) ∙ ap₂ continued old.2 new.3 in
      let within : length (c (file.Binlog (last_file schema log))) ≤ last_length (old.0 ∷ old.1) =
      subst (λ (z : List (List ℕ)). length (c (file.Binlog (last_file schema log))) ≤ last_length z) old.2 short in
      no_more c 1 (last_file schema log) old.0 new.0 old.1 new.1 (omega (arith, ap length old.2)) within
      (omega (arith, ap length new.4, length-append text new.2, long, some_bytes schema e.payload)) (subst (ReadsFiles c 1) whole told.read)

-- ---- up to the point
module _ (p : LogPoint) (c : Contents) where
  before_last : (n : ℕ) → n < p.file → before_end p c (file.Binlog n) ≡ c (file.Binlog n)
  before_last n less = let is : nat_lt n p.file ≡ true = grind (arith, nat_tests) in rw is refl

  at_last : before_end p c (file.Binlog p.file) ≡ take p.end (c (file.Binlog p.file))
  at_last =
      let least : nat_lt p.file p.file ≡ false = grind (arith, nat_tests) in
      let same : (p.file == p.file) ≡ true = eq-eqb p.file p.file refl in
      rw (least, same) refl

  pub cut_reads : (n : ℕ) (written : List (List ℕ)) → n + length written ≡ suc p.file → last_length written ≡ p.end → ReadsFiles c n written
      → ReadsFiles (before_end p c) n written
  cut_reads n [] at ends read = read
  cut_reads n (f ∷ []) at ends read =
      let is : n ≡ p.file = omega (arith, at) in
      ap (take (length f)) (subst (λ (z : ℕ). before_end p c (file.Binlog z) ≡ take p.end (c (file.Binlog z))) (sym is) at_last)
      ∙ (take-take (length f) p.end (c (file.Binlog n)) (omega (arith, ends)) ∙ read)
  cut_reads n (f ∷ (g ∷ more)) at ends read =
      (before_last n (omega (arith, at)) ∙ read.0, cut_reads (suc n) (g ∷ more) (omega (arith, at)) ends read.1)

  pub reaches : (n : ℕ) (written : List (List ℕ)) → n + length written ≡ suc p.file → ReadsFiles c n written
      → last_length written ≤ length (c (file.Binlog p.file))
  reaches n [] at read = absurd read
  reaches n (f ∷ []) at read =
      let is : n ≡ p.file = omega (arith, at) in
      let long : min (length f) (length (c (file.Binlog n))) ≡ length f = sym (length-take (length f) (c (file.Binlog n))) ∙ ap length read in
      subst (λ (z : ℕ). length f ≤ length (c (file.Binlog z))) is (omega (arith, long))
  reaches n (f ∷ (g ∷ more)) at read = reaches (suc n) (g ∷ more) (omega (arith, at)) read.1

-- ---- the log of the point
no_event : (schema : Schema) (log : List Entry) → next_in schema log [] (end_of schema log) ≡ Err 0
unfolding event_at
no_event schema log = refl

module _ (schema : Schema) (c : Contents) (log : List Entry) (bytes : List ℕ) (held : LogHeld schema log c bytes) where
  abbrev ends : LogPoint
  ends = point_at log (files schema log) held.highest

  may : may_end ends ≡ true
  may =
      let many = count_files schema log in
      let some : 1 ≤ ends.file = omega (arith, many) in
      let fit : ends.file ≤ ends.highest = held.point_fits.file in
      let last : ends.highest ≤ LAST_FILE = held.point_fits.highest in
      let one : nat_le 1 ends.file ≡ true = grind (arith, nat_tests) in
      let two : nat_le ends.file ends.highest ≡ true = grind (arith, nat_tests) in
      let three : nat_le ends.highest LAST_FILE ≡ true = grind (arith, nat_tests) in
      rw (one, two, three) refl

  pub point_named : point_in bytes ≡ Some ends
  point_named =
      let read = spelled_is_body Cut point_form (point_bytes ends) ends point_fields (point_spelled ends held.point_fits) in
      ap named (ap (body_of Cut point_form) held.point ∙ read) ∙ rw may refl

  short : length (before_end ends c (file.Binlog (last_file schema log))) ≤ last_end schema log
  short = omega (arith, ap length (at_last ends c), length-take ends.end (c (file.Binlog ends.file)))

  told : Tells schema (before_end ends c) log
  told = record { written = held.written; read = cut_reads ends c 1 (files schema log) (omega arith) refl held.read }

  longest : IsLongest schema (before_end ends c) log
  longest = record { told = told; longest = λ e more. no_longer schema (before_end ends c) log e short more }

  rest_none : rest_behind schema (before_end ends c) log ≡ []
  rest_none = drop_all (last_end schema log) (before_end ends c (file.Binlog (last_file schema log))) short

  next_none : next_behind schema (before_end ends c) log ≡ Err 0
  next_none = ap (λ (b : List ℕ). next_in schema log b (end_of schema log)) rest_none ∙ no_event schema log

  reached : ending_of ends c (last_file schema log) ≡ Reaching
  reached =
      let long : ends.end ≤ length (c (file.Binlog ends.file)) = reaches ends c 1 (files schema log) (omega arith) held.read in
      let here : nat_lt ends.file ends.file ≡ false = grind (arith, nat_tests) in
      let enough : nat_lt (length (c (file.Binlog ends.file))) ends.end ≡ false = grind (arith, nat_tests) in
      rw (here, enough) refl

  no_fault : fault_behind schema ends c log ≡ None
  no_fault =
      let whole : (length log == length log) ≡ true = eq-eqb (length log) (length log) refl in
      ap (in_next schema ends c log) next_none ∙ rw (reached, rest_none, whole) refl

  pub files_whole : (f : FileId) (at : ℕ) → FilesFault schema ends c f at → ⊥
  files_whole f at (inl x) = x.none log told
  files_whole f at (inr x) =
      let same = one_longest schema (before_end ends c) x.log log x.longest longest in
      let clash : None ≡ Some _ = sym no_fault ∙ (ap (fault_behind schema ends c) (sym same) ∙ x.there) in
      absurd cc

  point_whole : (f : FileId) (at : ℕ) → PointFault schema c f at (point_in bytes) → ⊥
  point_whole f at x = files_whole f at (subst (PointFault schema c f at) point_named x)

control_whole : (schema : Schema) (c : Contents) (log : List Entry) (f : FileId) (at : ℕ) (said : Option (Option (List ℕ))) → LogRead schema log c said
    → ControlFault schema c f at said → ⊥
control_whole schema c log f at None x y = x
control_whole schema c log f at (Some None) x y = y
control_whole schema c log f at (Some (Some bytes)) x y = point_whole schema c log bytes x f at y

pub stands_undamaged : StandsUndamaged
stands_undamaged schema c log f at x y = control_whole schema c log f at (control_of (c file.LogCtl)) x y
