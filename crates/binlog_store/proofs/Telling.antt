-- A log that files tell is told with one entry more where its group stands behind it: the last file goes on with the group, and behind a Rotate's the next one's head stands.
use Rattle.std.proofs.Common.{◌≡◌, ◌≢◌, ℕ, zero, suc, ◌+◌, ◌≤◌, Bool, true, false, cond, List, [], ◌∷◌, ◌++◌, length, take, drop, Some, Ok, Err, refl, sym, ap, ap₂, subst, ◌∙◌, arith, append_assoc, append-nil, length-append, take-append-drop}
use Rattle.std.specs.Prelude.{◌==◌, Result}
use Rattle.std.proofs.lemmas.Bool.Decides.{nat_tests}
use Rattle.event_frame.specs.Forms.{and_then}
use Rattle.event_frame.specs.Laws.{IsBytes}
use Rattle.event_control.specs.ControlEvents.{opid_event_at}
use Rattle.event_control.specs.declared.faults.ControlError.{ControlError}
use Rattle.event_control.specs.declared.opid_events.OpidEvent.{OpidEvent}
use Rattle.ring_types.specs.Rings.{is_schema}
use Rattle.ring_types.specs.declared.entries.Entry.{Entry}
use Rattle.ring_types.specs.declared.entries.Opid.{Opid}
use Rattle.ring_types.specs.declared.entries.Payload.{Payload}
use Rattle.ring_types.specs.declared.entries.Payload.TheVariants as payload
use Rattle.ring_types.specs.declared.entries.Place.{Place}
use Rattle.ring_types.specs.declared.schemas.Schema.{Schema}
use Rattle.ring_types.specs.Logs.{IsLog, entry_at as log_entry, term_at}
use Rattle.edge_traits.specs.FileStates.{Contents}
use Rattle.edge_traits.specs.declared.disks.FileId.TheVariants as file
use Rattle.entry_group.specs.Files.{files, head_after, onto, placed}
use Rattle.entry_group.specs.Groups.{behind, can_stand, entry_at, further, group, payload_at}
use Rattle.entry_group.specs.Laws.{IsGroupAtFront}
use Rattle.entry_group.specs.declared.groups.EntryError.{EntryError}
use Rattle.entry_group.specs.declared.groups.EntryError.TheVariants.{NotAnEntry}
use Rattle.entry_group.specs.declared.groups.EntryRead.{EntryRead}
use Rattle.entry_group.proofs.GroupTakes.{group_takes}
use Rattle.binlog_store.specs.Added.{added, continued, end_of, reach}
use Rattle.binlog_store.specs.Damages.{agreeing}
use Rattle.binlog_store.specs.Following.{FollowsLog}
use Rattle.binlog_store.specs.Longest.{Tells, begins_next, follows, group_read, last_end, last_file, next_behind, next_in, rest_behind}
use Rattle.binlog_store.specs.Stands.{IsWritten, ReadsFiles, last_length}
use Rattle.binlog_store.proofs.BehindTheEnd.{take_front}
use Rattle.binlog_store.proofs.Continuing.{files_go_on}
use Rattle.binlog_store.proofs.Counts.{count_added}
use Rattle.binlog_store.proofs.HeldFiles.{reads_split, some_more}
use Rattle.binlog_store.proofs.LongerLogs.{written_at}
use Rattle.binlog_store.proofs.NextPlaces.{last_reached, some_files}

-- ---- an entry that may follow
pub follows_log : (log : List Entry) (e : Entry) → follows log e.opid ≡ true → FollowsLog log e
follows_log log e h = record { position = grind (arith, nat_tests, h); short = grind (arith, nat_tests, h); term = grind (arith, nat_tests, h) }

pub log_follows : (log : List Entry) (e : Entry) → FollowsLog log e → follows log e.opid ≡ true
log_follows log e next = grind (arith, nat_tests, next.position, next.short, next.term)

-- ---- how much of two lists is equal
pub agrees_all : (a head : List ℕ) → agreeing a head ≡ length head → take (length head) a ≡ head
agrees_all [] [] same = refl
agrees_all (x ∷ a) [] same = refl
agrees_all [] (y ∷ head) same = absurd (omega (arith, same))
agrees_all (x ∷ a) (y ∷ head) same = by_first (x == y) refl same (agrees_all a head)
  where
    by_first : (b : Bool) → (x == y) ≡ b → cond b (suc (agreeing a head)) 0 ≡ suc (length head)
        → (agreeing a head ≡ length head → take (length head) a ≡ head) → x ∷ take (length head) a ≡ y ∷ head
    by_first true equal long later =
        let first : x ≡ y = grind (arith, nat_tests, equal) in
        ap₂ (λ (z : ℕ) (zs : List ℕ). z ∷ zs) first (later (omega (arith, long)))
    by_first false differ long later = absurd (omega (arith, long))

pub all_agree : (a head : List ℕ) → take (length head) a ≡ head → agreeing a head ≡ length head
all_agree [] [] same = refl
all_agree (x ∷ a) [] same = refl
all_agree [] (y ∷ head) same = absurd (let long : 0 ≡ suc (length head) = ap length same in omega (arith, long))
all_agree (x ∷ a) (y ∷ head) same =
    let first : x ≡ y = let t : x ∷ take (length head) a ≡ y ∷ head = same in cc in
    let rest : take (length head) a ≡ head = let t : x ∷ take (length head) a ≡ y ∷ head = same in cc in
    let equal : (x == y) ≡ true = grind (arith, nat_tests, first) in
    rw equal (ap suc (all_agree a head rest))

-- ---- the entry read is of the opid read
pub record OpidRead (told : Result OpidEvent ControlError) (read : EntryRead) : Type 0 where
  pub event : OpidEvent
  pub is : told ≡ Ok event
  pub opid : event.opid ≡ read.entry.opid

abbrev opid_in : Opid → Result EntryRead EntryError → Opid
opid_in other (Ok read) = read.entry.opid
opid_in other (Err fault) = other

opid_made : (o : OpidEvent) (there : Bool) (made : Result (Payload × ℕ) EntryError) (read : EntryRead)
    → cond there (and_then made (λ q. Ok (record { entry = record { opid = o.opid; region = o.region; payload = q.0 }; size = o.size + q.1 })))
    (Err (NotAnEntry 0 1)) ≡ Ok read → o.opid ≡ read.entry.opid
opid_made o true (Ok q) read is = ap (opid_in read.entry.opid) is
opid_made o true (Err fault) read is = absurd cc
opid_made o false made read is = absurd cc

opid_behind : (schema : Schema) (bytes : List ℕ) (p : Place) (told : Result OpidEvent ControlError) (read : EntryRead) → behind schema bytes p told ≡ Ok read
    → OpidRead told read
opid_behind schema bytes p (Err fault) read is = absurd cc
opid_behind schema bytes p (Ok o) read is = record {
  event = o;
  is = refl;
  opid = opid_made o (can_stand schema p o.kind) (payload_at schema (drop o.size bytes) o.size o (further o.size p)) read is;
}

pub opid_read : (schema : Schema) (bytes : List ℕ) (p : Place) (read : EntryRead) → entry_at schema bytes p ≡ Ok read
    → OpidRead (opid_event_at bytes p.at) read
unfolding entry_at
opid_read schema bytes p read is = opid_behind schema bytes p (opid_event_at bytes p.at) read is

-- ---- the next entry stands
pub record NextStands (schema : Schema) (log : List Entry) (bytes : List ℕ) (read : EntryRead) : Type 0 where
  pub front : IsGroupAtFront schema bytes (end_of schema log) read
  pub next : FollowsLog log read.entry
  pub written : IsWritten schema (log ++ read.entry ∷ [])

record Passed (begins : Bool) (made : Result EntryRead EntryError) (read : EntryRead) : Type 0 where
  pub begins_is : begins ≡ true
  pub made_is : made ≡ Ok read

group_passed : (made : Result EntryRead EntryError) (read : EntryRead) → group_read made ≡ Ok read → made ≡ Ok read
group_passed (Ok other) read is = let same : other ≡ read = cc in ap Ok same
group_passed (Err fault) read is = absurd cc

passed : (begins : Bool) (made : Result EntryRead EntryError) (read : EntryRead) → cond begins (group_read made) (Err 0) ≡ Ok read → Passed begins made read
passed true made read is = record { begins_is = refl; made_is = group_passed made read is }
passed false made read is = absurd cc

pub next_stands : (schema : Schema) (log : List Entry) (bytes : List ℕ) (read : EntryRead) → next_in schema log bytes (end_of schema log) ≡ Ok read
    → is_schema schema ≡ true → IsBytes bytes → IsWritten schema log → NextStands schema log bytes read
next_stands schema log bytes read is fits in_range written =
    let both = passed (begins_next log (opid_event_at bytes (end_of schema log).at)) (entry_at schema bytes (end_of schema log)) read is in
    let told = opid_read schema bytes (end_of schema log) read both.made_is in
    let event_follows : follows log told.event.opid ≡ true = sym (ap (begins_next log) told.is) ∙ both.begins_is in
    let next = follows_log log read.entry (ap (follows log) (sym told.opid) ∙ event_follows) in
    let front = group_takes schema bytes (end_of schema log) read fits in_range both.made_is in
    record { front = front; next = next; written = written_at schema log read.entry written next front.entry }

-- ---- what reads as some files, and as more
reads_join : (c : Contents) (n : ℕ) (f : List ℕ) (rest : List (List ℕ)) → c (file.Binlog n) ≡ f → ReadsFiles c (suc n) rest → ReadsFiles c n (f ∷ rest)
reads_join c n f [] is later = absurd later
reads_join c n f (g ∷ rest) is later = (is, later)

-- the file that goes on
pub record Ends (c : Contents) (k at : ℕ) (more : List (List ℕ)) : Type 0 where
  pub bytes : List ℕ
  pub long : length bytes ≡ at
  pub reads : ReadsFiles c k (onto bytes more)

pub reads_on : (c : Contents) (n k : ℕ) (f : List ℕ) (written more : List (List ℕ)) → suc k ≡ n + length (f ∷ written) → ReadsFiles c n (f ∷ written)
    → ((bytes : List ℕ) → length bytes ≡ last_length (f ∷ written) → take (length bytes) (c (file.Binlog k)) ≡ bytes → ReadsFiles c k (onto bytes more))
    → ReadsFiles c n (continued (f ∷ written) more)
reads_on c n k f [] more at read goes =
    let here : k ≡ n = omega (arith, at) in
    subst (λ (m : ℕ). ReadsFiles c m (onto f more)) here (goes f refl (subst (λ (m : ℕ). take (length f) (c (file.Binlog m)) ≡ f) (sym here) read))
reads_on c n k f (g ∷ written) more at read goes =
    reads_join c n f (continued (g ∷ written) more) read.0 (reads_on c (suc n) k g written more (omega (arith, at)) read.1 goes)

pub reads_off : (c : Contents) (n k : ℕ) (f : List ℕ) (written more : List (List ℕ)) → suc k ≡ n + length (f ∷ written)
    → ReadsFiles c n (continued (f ∷ written) more)
    → Ends c k (last_length (f ∷ written)) more
reads_off c n k f [] more at read =
    let here : k ≡ n = omega (arith, at) in
    record { bytes = f; long = refl; reads = subst (λ (m : ℕ). ReadsFiles c m (onto f more)) (sym here) read }
reads_off c n k f (g ∷ written) more at read =
    reads_off c (suc n) k g written more (omega (arith, at)) (reads_split c n f (continued (g ∷ written) more) (some_more g written more) read).1

-- ---- no entry
none_placed : (k : ℕ) (e : Entry) → log_entry [] k ≡ Some e → e.opid.position ≡ k
none_placed zero e at = absurd cc
none_placed (suc k) e at = absurd cc

no_term : (k : ℕ) → term_at [] k ≡ 0
no_term zero = refl
no_term (suc k) = refl

log_none : IsLog []
log_none = record {
  placed = none_placed;
  rises = λ j k le within. omega (arith, no_term j, no_term k);
  short = omega arith;
  few_files = omega arith;
}

pub written_none : (schema : Schema) → IsWritten schema []
written_none schema = record { is_log = log_none; stand = tt }

pub tells_none : (schema : Schema) (b : Contents) → agreeing (b (file.Binlog 1)) (head_after []) ≡ length (head_after []) → Tells schema b []
unfolding files
tells_none schema b same = record {
  written = written_none schema;
  read = subst (λ (h : List ℕ). take (length h) (b (file.Binlog 1)) ≡ h) (sym (append-nil (head_after [])))
      (agrees_all (b (file.Binlog 1)) (head_after []) same);
}

-- ---- one entry more
stays_added : (p : Payload) (g : List ℕ) (before : List Entry) → p ≢ payload.Rotate → placed p g before ([] ∷ []) ≡ g ∷ []
stays_added payload.NoOp g before never = ap (λ (t : List ℕ). t ∷ []) (append-nil g)
stays_added payload.Rotate g before never = absurd (never refl)
stays_added (payload.Txn t) g before never = ap (λ (t : List ℕ). t ∷ []) (append-nil g)

rotate_added : (p : Payload) (g : List ℕ) (before : List Entry) → p ≡ payload.Rotate → placed p g before ([] ∷ []) ≡ g ∷ (head_after before ∷ [])
rotate_added p g before ends = rw ends (ap (λ (t : List ℕ). g ∷ (t ∷ [])) (append-nil (head_after before)))

pub added_same : (schema : Schema) (log : List Entry) (e : Entry) → e.payload ≢ payload.Rotate
    → added schema log (e ∷ []) ≡ group schema e (end_of schema log) ∷ []
added_same schema log e never = stays_added e.payload (group schema e (end_of schema log)) log never

pub added_next : (schema : Schema) (log : List Entry) (e : Entry) → e.payload ≡ payload.Rotate
    → added schema log (e ∷ []) ≡ group schema e (end_of schema log) ∷ (head_after log ∷ [])
added_next schema log e ends = rotate_added e.payload (group schema e (end_of schema log)) log ends

-- the file in which a log ends, and with what it goes on
pub ends_of : (schema : Schema) (b : Contents) (log : List Entry) (e : Entry) → Tells schema b (log ++ e ∷ [])
    → Ends b (last_file schema log) (last_end schema log) (added schema log (e ∷ []))
ends_of schema b log e told =
    let some = some_files schema log in
    let more = added schema log (e ∷ []) in
    let read = subst (ReadsFiles b 1) (files_go_on schema log (e ∷ []) ∙ ap (λ (z : List (List ℕ)). continued z more) some.2) told.read in
    let ends = reads_off b 1 (last_file schema log) some.0 some.1 more (omega (arith, ap length some.2)) read in
    record { bytes = ends.bytes; long = ends.long ∙ ap last_length (sym some.2); reads = ends.reads }

tells_on : (schema : Schema) (b : Contents) (log : List Entry) (e : Entry) → Tells schema b log → IsWritten schema (log ++ e ∷ [])
    → ((bytes : List ℕ) → length bytes ≡ last_end schema log → take (length bytes) (b (file.Binlog (last_file schema log))) ≡ bytes
    → ReadsFiles b (last_file schema log) (onto bytes (added schema log (e ∷ []))))
    → Tells schema b (log ++ e ∷ [])
tells_on schema b log e told written goes =
    let some = some_files schema log in
    let more = added schema log (e ∷ []) in
    let old = subst (ReadsFiles b 1) some.2 told.read in
    let many = ap length some.2 in
    let ended = ap last_length (sym some.2) in
    let read = reads_on b 1 (last_file schema log) some.0 some.1 more (omega (arith, many)) old (λ bytes long. goes bytes (long ∙ ended)) in
    record {
      written = written;
      read = subst (ReadsFiles b 1) (sym (files_go_on schema log (e ∷ []) ∙ ap (λ (z : List (List ℕ)). continued z more) some.2)) read;
    }

-- what stands behind the front of a file
whole_of : (at : ℕ) (bytes g rest whole : List ℕ) → length bytes ≡ at → take (length bytes) whole ≡ bytes → drop at whole ≡ g ++ rest
    → whole ≡ (bytes ++ g) ++ rest
whole_of at bytes g rest whole long front back =
    sym (take-append-drop at whole)
    ∙ (ap₂ (λ (x y : List ℕ). x ++ y) (ap (λ (n : ℕ). take n whole) (sym long) ∙ front) back ∙ sym (append_assoc bytes g rest))

no_rest : (g rest : List ℕ) → length (g ++ rest) ≡ length g → rest ≡ []
no_rest g [] same = refl
no_rest g (x ∷ rest) same = absurd (omega (arith, same, length-append g (x ∷ rest)))

-- a log with the entry that was read behind it is told, and ends there
pub record ToldOn (schema : Schema) (b : Contents) (log : List Entry) (e : Entry) (n at : ℕ) : Type 0 where
  pub told : Tells schema b (log ++ e ∷ [])
  pub file : last_file schema (log ++ e ∷ []) ≡ n
  pub end : last_end schema (log ++ e ∷ []) ≡ at

module _ (schema : Schema) (b : Contents) (log : List Entry) (read : EntryRead) (told : Tells schema b log) (fits : is_schema schema ≡ true)
    (in_range : IsBytes (rest_behind schema b log)) (is : next_behind schema b log ≡ Ok read) where
  abbrev here : NextStands schema log (rest_behind schema b log) read
  here = next_stands schema log (rest_behind schema b log) read is fits in_range told.written

  abbrev text : List ℕ
  text = group schema read.entry (end_of schema log)

  longer_file : length (files schema log) + length (added schema log (read.entry ∷ [])) ≡ last_file schema (log ++ read.entry ∷ []) + 1
  longer_file = count_added schema log (read.entry ∷ [])

  longer_end : last_end schema (log ++ read.entry ∷ []) ≡ reach (last_end schema log) (added schema log (read.entry ∷ []))
  longer_end = last_reached schema log (read.entry ∷ [])

  pub size_behind : read.size ≤ length (rest_behind schema b log)
  size_behind = omega (arith, here.front.size, ap length here.front.parts, length-append text here.front.rest)

  pub tells_more : read.entry.payload ≢ payload.Rotate → ToldOn schema b log read.entry (last_file schema log) (last_end schema log + read.size)
  tells_more never =
      let added_is = added_same schema log read.entry never in
      record {
        told = tells_on schema b log read.entry told here.written (λ bytes long front.
            let whole = whole_of (last_end schema log) bytes text here.front.rest (b (file.Binlog (last_file schema log))) long front here.front.parts in
            subst (λ (more : List (List ℕ)). ReadsFiles b (last_file schema log) (onto bytes more)) (sym added_is)
            (ap (take (length (bytes ++ text))) whole ∙ take_front (length (bytes ++ text)) (bytes ++ text) here.front.rest refl));
        file = omega (arith, longer_file, ap length added_is);
        end = longer_end ∙ (ap (reach (last_end schema log)) added_is ∙ ap (λ (n : ℕ). last_end schema log + n) (sym here.front.size));
      }

  pub tells_rotate : read.entry.payload ≡ payload.Rotate → length (rest_behind schema b log) ≡ read.size
      → agreeing (b (file.Binlog (last_file schema log + 1))) (head_after log) ≡ length (head_after log)
      → ToldOn schema b log read.entry (last_file schema log + 1) (length (head_after log))
  tells_rotate ends all same =
      let added_is = added_next schema log read.entry ends in
      let none : here.front.rest ≡ [] = no_rest text here.front.rest (ap length (sym here.front.parts) ∙ (all ∙ here.front.size)) in
      let next : last_file schema log + 1 ≡ suc (last_file schema log) = omega arith in
      let head = agrees_all (b (file.Binlog (last_file schema log + 1))) (head_after log) same in
      let begun = subst (λ (n : ℕ). take (length (head_after log)) (b (file.Binlog n)) ≡ head_after log) next head in
      record {
        told = tells_on schema b log read.entry told here.written (λ bytes long front.
            let whole = whole_of (last_end schema log) bytes text here.front.rest (b (file.Binlog (last_file schema log))) long front here.front.parts in
            let exact = whole ∙ (ap (λ (t : List ℕ). (bytes ++ text) ++ t) none ∙ append-nil (bytes ++ text)) in
            subst (λ (more : List (List ℕ)). ReadsFiles b (last_file schema log) (onto bytes more)) (sym added_is) (exact, begun));
        file = omega (arith, longer_file, ap length added_is);
        end = longer_end ∙ ap (reach (last_end schema log)) added_is;
      }
