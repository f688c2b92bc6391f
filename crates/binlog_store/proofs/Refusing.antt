-- A log is the longest that files tell where no group, or that of a Rotate alone, stands behind it: a longer log's files have there the group of its next entry, which is read as that entry.
use Rattle.std.proofs.Common.{◌≡◌, ◌≢◌, ℕ, suc, ◌+◌, Bool, true, cond, List, [], ◌∷◌, ◌++◌, length, take, drop, Some, Ok, Err, refl, sym, ap, subst, ◌∙◌, arith, append_assoc, append-nil, length-append, take-append-drop}
use Rattle.std.specs.Prelude.{Result, slice_get}
use Rattle.std.proofs.lemmas.List.{drop_at}
use Rattle.std.proofs.lemmas.Option.{slice_get-get_or}
use Rattle.std.proofs.Math.Seq.{get_or-append_seam}
use Rattle.event_control.specs.ControlEvents.{opid_event_at}
use Rattle.ring_types.specs.declared.entries.Entry.{Entry}
use Rattle.ring_types.specs.declared.entries.Payload.{Payload}
use Rattle.ring_types.specs.declared.entries.Payload.TheVariants as payload
use Rattle.ring_types.specs.declared.schemas.Schema.{Schema}
use Rattle.edge_traits.specs.FileStates.{Contents}
use Rattle.edge_traits.specs.declared.disks.FileId.TheVariants as file
use Rattle.entry_group.specs.Files.{files, first_place, head_after, onto}
use Rattle.entry_group.specs.Groups.{entry_at, group}
use Rattle.entry_group.specs.Laws.{StandsAt}
use Rattle.entry_group.specs.declared.groups.EntryRead.{EntryRead}
use Rattle.entry_group.proofs.GroupLaws.{group_is_read}
use Rattle.binlog_store.specs.Added.{added, end_of}
use Rattle.binlog_store.specs.Damages.{agreeing}
use Rattle.binlog_store.specs.Following.{FollowsLog}
use Rattle.binlog_store.specs.Longest.{IsLongest, Tells, begins_next, follows, group_read, last_end, last_file, next_behind, next_in, rest_behind}
use Rattle.binlog_store.specs.Stands.{IsWritten, ReadsFiles}
use Rattle.binlog_store.proofs.Continuing.{some_file}
use Rattle.binlog_store.proofs.Counts.{stand_behind}
use Rattle.binlog_store.proofs.HeldFiles.{front_of, front_of_whole}
use Rattle.binlog_store.proofs.LongerLogs.{term_last}
use Rattle.binlog_store.proofs.Prefixes.{term_still}
use Rattle.binlog_store.proofs.Telling.{Ends, added_next, added_same, all_agree, ends_of, log_follows, opid_read}

-- ---- the entry behind a log follows it, and stands there
followed : (schema : Schema) (log : List Entry) (e : Entry) → IsWritten schema (log ++ e ∷ []) → FollowsLog log e
followed schema log e longer =
    let many = length-append log (e ∷ []) in
    let there : slice_get (log ++ e ∷ []) (length log) ≡ Some e =
    slice_get-get_or (log ++ e ∷ []) (length log) e (omega (arith, many)) ∙ ap Some (get_or-append_seam log e [] e) in
    let up = longer.is_log.rises (length log) (suc (length log)) (omega arith) (omega (arith, many)) in
    record {
      position = omega (arith, longer.is_log.placed (suc (length log)) e there);
      short = omega (arith, longer.is_log.short, many);
      term = omega (arith, up, term_still log (e ∷ []) (length log) (omega arith), term_last log e);
    }

stood : (schema : Schema) (log : List Entry) (e : Entry) → IsWritten schema (log ++ e ∷ []) → StandsAt schema (end_of schema log) e
stood schema log e longer = (stand_behind schema first_place [] log (e ∷ []) longer.stand).0

-- a group that stands behind a log is read as its next entry
next_read : (schema : Schema) (log : List Entry) (e : Entry) (rest : List ℕ) → FollowsLog log e → StandsAt schema (end_of schema log) e
    → next_in schema log (group schema e (end_of schema log) ++ rest) (end_of schema log)
    ≡ Ok (record { entry = e; size = length (group schema e (end_of schema log)) })
next_read schema log e rest next stands =
    let p = end_of schema log in
    let bytes = group schema e p ++ rest in
    let read = group_is_read schema e p rest stands in
    let told = opid_read schema bytes p (record { entry = e; size = length (group schema e p) }) read in
    let begins : begins_next log (opid_event_at bytes p.at) ≡ true = ap (begins_next log) told.is ∙ (ap (follows log) told.opid ∙ log_follows log e next) in
    ap (λ (z : Bool). cond z (group_read (entry_at schema bytes p)) (Err 0)) begins ∙ ap group_read read

-- ---- what the files of a longer log have behind the log
record GroupBehind (schema : Schema) (b : Contents) (log : List Entry) (e : Entry) : Type 0 where
  pub rest : List ℕ
  pub parts : rest_behind schema b log ≡ group schema e (end_of schema log) ++ rest

behind_front : (at : ℕ) (bytes g whole : List ℕ) → length bytes ≡ at → take (length (bytes ++ g)) whole ≡ bytes ++ g
    → drop at whole ≡ g ++ drop (length (bytes ++ g)) whole
behind_front at bytes g whole long front =
    let after : List ℕ = drop (length (bytes ++ g)) whole in
    let made : whole ≡ bytes ++ (g ++ after) =
    sym (take-append-drop (length (bytes ++ g)) whole) ∙ (ap (λ (t : List ℕ). t ++ after) front ∙ append_assoc bytes g after) in
    ap (drop at) made ∙ drop_at bytes (g ++ after) at long

pub record NextFile (schema : Schema) (b : Contents) (log : List Entry) (e : Entry) : Type 0 where
  pub rest : rest_behind schema b log ≡ group schema e (end_of schema log)
  pub head : agreeing (b (file.Binlog (last_file schema log + 1))) (head_after log) ≡ length (head_after log)

module _ (schema : Schema) (b : Contents) (log : List Entry) (e : Entry) (longer : Tells schema b (log ++ e ∷ [])) where
  abbrev text : List ℕ
  text = group schema e (end_of schema log)

  abbrev ends : Ends b (last_file schema log) (last_end schema log) (added schema log (e ∷ []))
  ends = ends_of schema b log e longer

  pub next_file_told : e.payload ≡ payload.Rotate → NextFile schema b log e
  next_file_told rotates =
      let read = subst (λ (more : List (List ℕ)). ReadsFiles b (last_file schema log) (onto ends.bytes more)) (added_next schema log e rotates) ends.reads in
      let next : suc (last_file schema log) ≡ last_file schema log + 1 = omega arith in
      record {
        rest = ap (drop (last_end schema log)) read.0 ∙ drop_at ends.bytes text (last_end schema log) ends.long;
        head = all_agree (b (file.Binlog (last_file schema log + 1))) (head_after log)
            (subst (λ (n : ℕ). take (length (head_after log)) (b (file.Binlog n)) ≡ head_after log) next read.1);
      }

  same_file_told : e.payload ≢ payload.Rotate → GroupBehind schema b log e
  same_file_told never =
      let read = subst (λ (more : List (List ℕ)). ReadsFiles b (last_file schema log) (onto ends.bytes more)) (added_same schema log e never) ends.reads in
      record {
        rest = drop (length (ends.bytes ++ text)) (b (file.Binlog (last_file schema log)));
        parts = behind_front (last_end schema log) ends.bytes text (b (file.Binlog (last_file schema log))) ends.long read;
      }

  by_payload : (p : Payload) → e.payload ≡ p → GroupBehind schema b log e
  by_payload payload.NoOp is = same_file_told (λ rotates. absurd (let z : payload.NoOp ≡ payload.Rotate = sym is ∙ rotates in cc))
  by_payload payload.Rotate is = record { rest = []; parts = (next_file_told is).rest ∙ sym (append-nil text) }
  by_payload (payload.Txn t) is = same_file_told (λ rotates. absurd (let z : payload.Txn t ≡ payload.Rotate = sym is ∙ rotates in cc))

  pub next_told : next_behind schema b log ≡ Ok (record { entry = e; size = length (group schema e (end_of schema log)) })
  next_told =
      let there = by_payload e.payload refl in
      ap (λ (bytes : List ℕ). next_in schema log bytes (end_of schema log)) there.parts
      ∙ next_read schema log e there.rest (followed schema log e longer.written) (stood schema log e longer.written)

-- ---- the longest log
abbrev entry_in : Entry → Result EntryRead ℕ → Entry
entry_in other (Ok read) = read.entry
entry_in other (Err off) = other

abbrev size_in : Result EntryRead ℕ → ℕ
size_in (Ok read) = read.size
size_in (Err off) = 0

pub longest_refused : (schema : Schema) (b : Contents) (log : List Entry) (off : ℕ) → Tells schema b log → next_behind schema b log ≡ Err off
    → IsLongest schema b log
longest_refused schema b log off told is = record {
  told = told;
  longest = λ e longer. let clash = sym is ∙ next_told schema b log e longer in absurd cc;
}

module _ (schema : Schema) (b : Contents) (log : List Entry) (read : EntryRead) (told : Tells schema b log) (is : next_behind schema b log ≡ Ok read)
    (rotates : read.entry.payload ≡ payload.Rotate) where
  -- the entry of a longer log is the one that was read
  record IsRead (e : Entry) : Type 0 where
    pub size : read.size ≡ length (group schema e (end_of schema log))
    pub next : NextFile schema b log e

  is_read : (e : Entry) → Tells schema b (log ++ e ∷ []) → IsRead e
  is_read e longer =
      let same = sym is ∙ next_told schema b log e longer in
      let entry : read.entry ≡ e = ap (entry_in e) same in
      record { size = ap size_in same; next = next_file_told schema b log e longer (ap (λ (x : Entry). x.payload) (sym entry) ∙ rotates) }

  pub longest_behind : read.size ≢ length (rest_behind schema b log) → IsLongest schema b log
  longest_behind more = record {
    told = told;
    longest = λ e longer. let one = is_read e longer in more (one.size ∙ ap length (sym one.next.rest));
  }

  pub longest_no_head : agreeing (b (file.Binlog (last_file schema log + 1))) (head_after log) ≢ length (head_after log) → IsLongest schema b log
  longest_no_head differs = record { told = told; longest = λ e longer. differs (is_read e longer).next.head }

-- ---- no log
front_read : (c : Contents) (n : ℕ) (head f : List ℕ) (rest : List (List ℕ)) → ReadsFiles c n ((head ++ f) ∷ rest)
    → take (length head) (c (file.Binlog n)) ≡ head
front_read c n head f [] read = front_of head f (c (file.Binlog n)) read
front_read c n head f (g ∷ rest) read = front_of_whole head f (c (file.Binlog n)) read.0

pub none_told : (schema : Schema) (b : Contents) → agreeing (b (file.Binlog 1)) (head_after []) ≢ length (head_after [])
    → (log : List Entry) → Tells schema b log → ⊥
unfolding files
none_told schema b differs log told =
    let some = some_file schema first_place [] log in
    let read = subst (λ (z : List (List ℕ)). ReadsFiles b 1 (onto (head_after []) z)) some.2 told.read in
    differs (all_agree (b (file.Binlog 1)) (head_after []) (front_read b 1 (head_after []) some.0 some.1 read))
