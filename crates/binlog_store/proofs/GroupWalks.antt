-- Groups are read one behind the other: the log so far is told, so with the next group the longer one is.
use Rattle.std.proofs.Common.{◌≡◌, ◌≢◌, ℕ, ◌+◌, ◌<◌, inl, inr, ⊎_elim, true, List, length, drop, Ok, Err, refl, sym, ap, ap₂, subst, ◌∙◌, arith, length-drop}
use Rattle.event_frame.specs.Laws.{IsBytes}
use Rattle.ring_types.specs.Rings.{is_schema}
use Rattle.ring_types.specs.declared.entries.Entry.{Entry}
use Rattle.ring_types.specs.declared.entries.Payload.TheVariants as payload
use Rattle.ring_types.specs.declared.entries.Place.{Place}
use Rattle.ring_types.specs.declared.schemas.Schema.{Schema}
use Rattle.edge_traits.specs.FileStates.{Contents}
use Rattle.edge_traits.specs.declared.disks.FileId.TheVariants as file
use Rattle.binlog_store.specs.Following.{GoesOn, IfRefused, IsEnded, IsInside, IsNextRead, IsRefused, IsWalked, ReadsNext, fault_behind}
use Rattle.binlog_store.specs.declared.reading.ReadFault.{ReadFault}
use Rattle.binlog_store.specs.declared.reading.ReadFault.TheVariants as fault
use Rattle.binlog_store.specs.Held.{IsHeldLog, IsNextFile}
use Rattle.binlog_store.specs.Longest.{Tells, last_end, last_file, next_behind, next_in, rest_behind}
use Rattle.binlog_store.specs.Stands.{IsWritten}
use Rattle.binlog_store.specs.declared.held.HeldLog.{HeldLog}
use Rattle.binlog_store.proofs.LogEnds.{file_there}
use Rattle.binlog_store.proofs.NextReads.{next_more, rotate_or, step_next, step_same}
use Rattle.binlog_store.proofs.Telling.{NextStands, next_stands, tells_more}

pub goes_on : (schema : Schema) (c : Contents) (held : HeldLog) → IsHeldLog schema held → Tells schema c held.entries
    → GoesOn schema c held.end.place.file held.entries held.end.place.at
goes_on schema c held is told = record { told = told; here = sym (file_there schema held.entries held.end is); ends = sym is.at_is }

-- a log that a Rotate ended is in the next file
ended_file : (schema : Schema) (c : Contents) (n : ℕ) (log : List Entry) (at : ℕ) → IsEnded schema c n log at → last_file schema log ≡ n + 1
ended_file schema c n log at ended =
    let more = (next_more schema ended.before ended.read.entry ended.rotate).0 in
    omega (arith, more, ap (last_file schema) ended.grown, ended.on.here)

-- a log that is read and ends in this file goes on in it
pub still_on : (schema : Schema) (c : Contents) (held : HeldLog) (n at : ℕ) → IsHeldLog schema held → held.end.place.file ≡ n → IsWalked schema c n held.entries at
    → GoesOn schema c n held.entries at
still_on schema c held n at is here (inl on) = on
still_on schema c held n at is here (inr ended) =
    absurd (omega (arith, ended_file schema c n held.entries at ended, file_there schema held.entries held.end is, here))

-- and a log that ends in another file was ended by a Rotate
pub over_now : (schema : Schema) (c : Contents) (held : HeldLog) (n at : ℕ) → IsHeldLog schema held → held.end.place.file ≢ n → IsWalked schema c n held.entries at
    → IsEnded schema c n held.entries at
over_now schema c held n at is differs (inl on) = absurd (differs (file_there schema held.entries held.end is ∙ on.here))
over_now schema c held n at is differs (inr ended) = ended

pub rest_there : (schema : Schema) (c : Contents) (n at : ℕ) (log : List Entry) (bytes : List ℕ) → c (file.Binlog n) ≡ bytes → GoesOn schema c n log at
    → rest_behind schema c log ≡ drop at bytes
rest_there schema c n at log bytes is on = ap₂ (λ (k : ℕ) (b : List ℕ). drop k b) on.ends (ap (λ (m : ℕ). c (file.Binlog m)) on.here ∙ is)

module _ (schema : Schema) (n at size : ℕ) (old new : HeldLog) (bytes : List ℕ) (was : IsHeldLog schema old) (is : IsHeldLog schema new)
    (written : IsWritten schema old.entries) (here : old.end.place.file ≡ n) (ends : old.end.place.at ≡ at) (fits : is_schema schema ≡ true)
    (in_range : IsBytes (drop at bytes)) (next : IsNextRead schema old.entries (drop at bytes) old.end.place size new.entries) where
  stands : NextStands schema old.entries (drop at bytes) next.read
  stands =
      next_stands schema old.entries (drop at bytes) next.read
      (subst (λ (p : Place). next_in schema old.entries (drop at bytes) p ≡ Ok next.read) was.place_is next.next) fits in_range written

  same_file : next.read.entry.payload ≢ payload.Rotate
      → (new.end.place.file ≡ old.end.place.file) × (new.end.place.at ≡ old.end.place.at + next.read.size)
  same_file never = step_same schema old new next.read.entry was is next.grown (drop at bytes) next.read stands.front refl never

  next_file : next.read.entry.payload ≡ payload.Rotate → IsNextFile old.end.place new
  next_file rotates = step_next schema old new next.read.entry was is next.grown rotates

  pub on_more : new.end.place.file ≡ n → new.end.place.at ≡ at + size
  on_more same =
      ⊎_elim (λ (rotates : next.read.entry.payload ≡ payload.Rotate). absurd (omega (arith, (next_file rotates).number, same, here)))
      (λ (never : next.read.entry.payload ≢ payload.Rotate). omega (arith, (same_file never).1, ends, next.size_is))
      (rotate_or next.read.entry.payload)

  pub file_more : (place : Place) → place.file ≡ n → new.end.place.file ≢ n → IsNextFile place new
  file_more place first differs =
      ⊎_elim
      (λ (rotates : next.read.entry.payload ≡ payload.Rotate).
      let there = next_file rotates in record { number = omega (arith, there.number, here, first); at_is = there.at_is })
      (λ (never : next.read.entry.payload ≢ payload.Rotate). absurd (differs ((same_file never).0 ∙ here)))
      (rotate_or next.read.entry.payload)

  next_told : (c : Contents) → c (file.Binlog n) ≡ bytes → GoesOn schema c n old.entries at → next_behind schema c old.entries ≡ Ok next.read
  next_told c there on =
      ap₂ (λ (r : List ℕ) (p : Place). next_in schema old.entries r p) (rest_there schema c n at old.entries bytes there on) (sym was.place_is) ∙ next.next

  more_told : (c : Contents) → c (file.Binlog n) ≡ bytes → GoesOn schema c n old.entries at → next.read.entry.payload ≢ payload.Rotate
      → GoesOn schema c n new.entries (at + size)
  more_told c there on never =
      let bytes_there = subst IsBytes (sym (rest_there schema c n at old.entries bytes there on)) in_range in
      let more = tells_more schema c old.entries next.read on.told fits bytes_there (next_told c there on) never in
      record {
        told = subst (Tells schema c) (sym next.grown) more.told;
        here = ap (last_file schema) next.grown ∙ (more.file ∙ on.here);
        ends = ap (last_end schema) next.grown ∙ omega (arith, more.end, on.ends, next.size_is);
      }

  pub walk_more : (c : Contents) → c (file.Binlog n) ≡ bytes → IsWalked schema c n old.entries at → IsWalked schema c n new.entries (at + size)
  walk_more c there walked =
      let on = still_on schema c old n at was here walked in
      ⊎_elim
      (λ (rotates : next.read.entry.payload ≡ payload.Rotate). inr (record {
        before = old.entries;
        read = next.read;
        on = record { told = on.told; here = on.here; ends = refl };
        next = next_told c there on;
        rotate = rotates;
        in_range = subst IsBytes (sym (rest_there schema c n at old.entries bytes there on)) in_range;
        grown = next.grown;
        ends = omega (arith, on.ends, next.size_is);
      }))
      (λ (never : next.read.entry.payload ≢ payload.Rotate). inl (more_told c there on never))
      (rotate_or next.read.entry.payload)

-- ---- where no next group stands
refused_there : (schema : Schema) (n at off : ℕ) (held : HeldLog) (bytes : List ℕ) → IsHeldLog schema held → held.end.place.file ≡ n
    → next_in schema held.entries (drop at bytes) held.end.place ≡ Err off
    → (c : Contents) → c (file.Binlog n) ≡ bytes → IsWalked schema c n held.entries at → IsRefused schema c n held.entries at (at + off)
refused_there schema n at off held bytes is here refused c there walked =
    let on = still_on schema c held n at is here walked in
    record {
      on = on;
      off = off;
      next = ap₂ (λ (r : List ℕ) (p : Place). next_in schema held.entries r p) (rest_there schema c n at held.entries bytes there on) (sym is.place_is) ∙ refused;
      at_is = refl;
    }

module _ (schema : Schema) (n at : ℕ) (old : HeldLog) (bytes : List ℕ) (longer : List Entry) where
  pub fault_inside : (f : ReadFault) → at < length bytes → ReadsNext schema old.entries (drop at bytes) old.end.place (Err f) longer → IsInside (length bytes) (fault_behind at f)
  fault_inside (fault.NotNext group off) within reads = (omega (arith, reads.1, within), omega (arith, reads.2, within, length-drop at bytes))
  fault_inside fault.Memory within reads = tt

  pub refused_behind : (f : ReadFault) → IsHeldLog schema old → old.end.place.file ≡ n
      → ReadsNext schema old.entries (drop at bytes) old.end.place (Err f) longer → (f ≢ fault.Memory → longer ≡ old.entries)
      → (c : Contents) → c (file.Binlog n) ≡ bytes → IsWalked schema c n old.entries at → IfRefused schema c n longer (Err (fault_behind at f))
  refused_behind (fault.NotNext group off) is here reads same c there walked =
      let none : at + group ≡ at = omega (arith, reads.1) in
      let stays : longer ≡ old.entries = same (λ is. cc) in
      subst (λ (l : List Entry). IsRefused schema c n l (at + group) (at + off)) (sym stays)
      (subst (λ (g : ℕ). IsRefused schema c n old.entries g (at + off)) (sym none) (refused_there schema n at off old bytes is here reads.0 c there walked))
  refused_behind fault.Memory is here reads same c there walked = tt
