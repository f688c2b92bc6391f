-- What one entry more makes of a log's end: behind a Rotate the log ends behind the next file's head, and else behind the group.
use Rattle.std.proofs.Common.{◌≡◌, ◌≢◌, ℕ, ◌+◌, ◌≤◌, ◌⊎◌, inl, inr, true, List, [], ◌∷◌, ◌++◌, length, Ok, refl, sym, ap, subst, ◌∙◌, arith, length-append}
use Rattle.event_frame.specs.Laws.{IsBytes}
use Rattle.event_control.specs.ControlEvents.{head, opid_event_at}
use Rattle.ring_types.specs.Rings.{is_schema}
use Rattle.ring_types.specs.declared.entries.Entry.{Entry}
use Rattle.ring_types.specs.declared.entries.Payload.{Payload}
use Rattle.ring_types.specs.declared.entries.Payload.TheVariants as payload
use Rattle.ring_types.specs.declared.entries.Place.{Place}
use Rattle.ring_types.specs.declared.gtid_sets.ServerSet.{ServerSet}
use Rattle.ring_types.specs.declared.schemas.Schema.{Schema}
use Rattle.entry_group.specs.Files.{files, head_after, set_in_head}
use Rattle.entry_group.specs.Groups.{entry_at, group}
use Rattle.entry_group.specs.Laws.{IsGroupAtFront}
use Rattle.entry_group.specs.declared.groups.EntryRead.{EntryRead}
use Rattle.entry_group.proofs.GroupLaws.{group_length}
use Rattle.binlog_store.specs.Added.{added, end_of, reach}
use Rattle.binlog_store.specs.Held.{IsEnd, IsHeldLog, IsNextFile}
use Rattle.binlog_store.specs.Longest.{begins_next, last_end, last_file, next_in}
use Rattle.binlog_store.specs.Stands.{IsWritten}
use Rattle.binlog_store.specs.declared.ends.LogEnd.{LogEnd}
use Rattle.binlog_store.specs.declared.held.HeldLog.{HeldLog}
use Rattle.binlog_store.proofs.Counts.{count_added}
use Rattle.binlog_store.proofs.LogEnds.{file_there, some_bytes}
use Rattle.binlog_store.proofs.LogSets.{none_more}
use Rattle.binlog_store.proofs.NextPlaces.{last_reached}
use Rattle.binlog_store.proofs.Telling.{NextStands, added_next, added_same, next_stands}

pub rotate_or : (p : Payload) → (p ≡ payload.Rotate) ⊎ (p ≢ payload.Rotate)
rotate_or payload.NoOp = inr (λ is. cc)
rotate_or payload.Rotate = inl refl
rotate_or (payload.Txn t) = inr (λ is. cc)

-- ---- what was read
pub read_stands : (schema : Schema) (log : List Entry) (end : LogEnd) (bytes : List ℕ) (read : EntryRead) → IsEnd schema log end
    → begins_next log (opid_event_at bytes end.place.at) ≡ true → entry_at schema bytes end.place ≡ Ok read → is_schema schema ≡ true → IsBytes bytes
    → IsWritten schema log
    → NextStands schema log bytes read
read_stands schema log end bytes read is begins there fits in_range written =
    let next : next_in schema log bytes end.place ≡ Ok read = rw (begins, there) refl in
    next_stands schema log bytes read (subst (λ (p : Place). next_in schema log bytes p ≡ Ok read) is.place_is next) fits in_range written

pub read_size : (schema : Schema) (bytes : List ℕ) (p : Place) (read : EntryRead) → IsGroupAtFront schema bytes p read
    → (1 ≤ read.size) × (read.size ≤ length bytes)
read_size schema bytes p read front =
    let long = group_length schema read.entry p front.entry in
    let some = some_bytes schema read.entry.payload in (
      omega (arith, front.size, long, some),
      omega (arith, front.size, ap length front.parts, length-append (group schema read.entry p) front.rest),
    )

-- ---- one entry more
module _ (schema : Schema) (log : List Entry) (e : Entry) where
  longer_file : length (files schema log) + length (added schema log (e ∷ [])) ≡ last_file schema (log ++ e ∷ []) + 1
  longer_file = count_added schema log (e ∷ [])

  longer_end : last_end schema (log ++ e ∷ []) ≡ reach (last_end schema log) (added schema log (e ∷ []))
  longer_end = last_reached schema log (e ∷ [])

  pub same_more : e.payload ≢ payload.Rotate
      → (last_file schema (log ++ e ∷ []) ≡ last_file schema log) × (last_end schema (log ++ e ∷ []) ≡ last_end schema log + length (group schema e (end_of schema log)))
  same_more never =
      let is = added_same schema log e never in
      (omega (arith, longer_file, ap length is), longer_end ∙ ap (reach (last_end schema log)) is)

  pub next_more : e.payload ≡ payload.Rotate
      → (last_file schema (log ++ e ∷ []) ≡ last_file schema log + 1) × (last_end schema (log ++ e ∷ []) ≡ length (head_after log))
  next_more ends =
      let is = added_next schema log e ends in
      (omega (arith, longer_file, ap length is), longer_end ∙ ap (reach (last_end schema log)) is)

-- a Rotate has no GTID
pub head_still : (log : List Entry) (e : Entry) → e.payload ≡ payload.Rotate → head_after (log ++ e ∷ []) ≡ head_after log
head_still log e ends = ap (λ (set : List ServerSet). head (set_in_head set)) (none_more log e (rw ends refl))

-- ---- of a log in memory
module _ (schema : Schema) (old new : HeldLog) (e : Entry) (was : IsHeldLog schema old) (is : IsHeldLog schema new) (grown : new.entries ≡ old.entries ++ e ∷ []) where
  new_file : new.end.place.file ≡ last_file schema (old.entries ++ e ∷ [])
  new_file = file_there schema new.entries new.end is ∙ ap (last_file schema) grown

  new_end : new.end.place.at ≡ last_end schema (old.entries ++ e ∷ [])
  new_end = is.at_is ∙ ap (last_end schema) grown

  pub step_same : (bytes : List ℕ) (read : EntryRead) → IsGroupAtFront schema bytes (end_of schema old.entries) read → read.entry ≡ e → e.payload ≢ payload.Rotate
      → (new.end.place.file ≡ old.end.place.file) × (new.end.place.at ≡ old.end.place.at + read.size)
  step_same bytes read front same never =
      let more = same_more schema old.entries e never in
      let size : read.size ≡ length (group schema e (end_of schema old.entries)) = front.size ∙ ap (λ (x : Entry). length (group schema x (end_of schema old.entries))) same in (
        new_file ∙ (more.0 ∙ sym (file_there schema old.entries old.end was)),
        omega (arith, new_end, more.1, was.at_is, size),
      )

  pub step_next : e.payload ≡ payload.Rotate → IsNextFile old.end.place new
  step_next ends =
      let more = next_more schema old.entries e ends in
      record {
        number = omega (arith, new_file, more.0, file_there schema old.entries old.end was);
        at_is = new_end ∙ (more.1 ∙ ap length (sym (head_still old.entries e ends) ∙ ap head_after (sym grown)));
      }
