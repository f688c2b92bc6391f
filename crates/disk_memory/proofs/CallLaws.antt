-- What every disk promises of each call follows at a disk in memory from what the call makes of its past.
use Rattle.std.proofs.Common.{◌≡◌, ◌≢◌, ◌⊎◌, inl, inr, ⊎_elim, ℕ, zero, suc, ◌≤◌, Bool, true, false, List, [], ◌∷◌, ◌++◌, length, drop, get_or, Result}
use Rattle.std.proofs.Common.{Ok, Err, refl, sym, ◌∙◌, ap, subst, arith, if◌then◌else◌}
use Rattle.std.specs.Result.{MatchResult}
use Rattle.std.specs.Ordering.{nat_cmp}
use Rattle.std.specs.BTreeMap.{is_at}
use Rattle.std.specs.Cmp.{eq_by_cmp_equiv, nat_cmp_total}
use Rattle.std.proofs.lemmas.List.{length_push, take_all}
use Rattle.edge_traits.specs.declared.disks.FileId.{FileId}
use Rattle.edge_traits.specs.declared.disks.FileId.TheVariants as file
use Rattle.edge_traits.specs.declared.disks.DiskFault.{DiskFault}
use Rattle.edge_traits.specs.declared.disks.DiskFault.TheVariants as fault
use Rattle.edge_traits.specs.DiskCalls.{Same, Elsewhere, PartlyWritten, PartlyCut, WriteIs, CutIs, SyncIs}
use Rattle.edge_traits.specs.FileStates.{FileState, Contents, MayLeave, Within, Leaves, settled, wrote, shortened}
use Rattle.edge_traits.specs.Moments.{LeavesOnly, Remembers}
use Rattle.edge_traits.proofs.FileStates.{write_adds, cut_adds, sync_adds}
use Rattle.disk_memory.specs.declared.edits.Edit.{Edit}
use Rattle.disk_memory.specs.declared.edits.Edit.TheVariants as edit
use Rattle.disk_memory.specs.Records.{FileRecord, reads, all_synced, with_edit, state_edited, state_after, state_of}
use Rattle.edge_traits.specs.Stories.{number_of}
use Rattle.disk_memory.specs.Pasts.{Past, Records, DiskState, record_at, states, put, moved, LeftAt, LeftSince}
use Rattle.disk_memory.specs.Disks.{moment, left_since}
use Rattle.disk_memory.specs.DiskLaws.{record_reads}
use Rattle.disk_memory.proofs.Leaving.{reads_of}
use Rattle.disk_memory.proofs.TableLaws.{same_number}
use Rattle.disk_memory.proofs.PastLaws.{at_put}

-- files under different numbers
numbers_differ : (f g : FileId) → number_of f ≡ number_of g → f ≡ g
numbers_differ file.VoteCtl file.VoteCtl is = refl
numbers_differ file.VoteCtl file.LogCtl is = absurd (omega (arith, is))
numbers_differ file.VoteCtl file.EngineCtl is = absurd (omega (arith, is))
numbers_differ file.VoteCtl (file.Redo m) is = absurd (omega (arith, is))
numbers_differ file.VoteCtl (file.Binlog m) is = absurd (omega (arith, is))
numbers_differ file.LogCtl file.VoteCtl is = absurd (omega (arith, is))
numbers_differ file.LogCtl file.LogCtl is = refl
numbers_differ file.LogCtl file.EngineCtl is = absurd (omega (arith, is))
numbers_differ file.LogCtl (file.Redo m) is = absurd (omega (arith, is))
numbers_differ file.LogCtl (file.Binlog m) is = absurd (omega (arith, is))
numbers_differ file.EngineCtl file.VoteCtl is = absurd (omega (arith, is))
numbers_differ file.EngineCtl file.LogCtl is = absurd (omega (arith, is))
numbers_differ file.EngineCtl file.EngineCtl is = refl
numbers_differ file.EngineCtl (file.Redo m) is = absurd (omega (arith, is))
numbers_differ file.EngineCtl (file.Binlog m) is = absurd (omega (arith, is))
numbers_differ (file.Redo n) file.VoteCtl is = absurd (omega (arith, is))
numbers_differ (file.Redo n) file.LogCtl is = absurd (omega (arith, is))
numbers_differ (file.Redo n) file.EngineCtl is = absurd (omega (arith, is))
numbers_differ (file.Redo n) (file.Redo m) is = ap file.Redo (omega (arith, is))
numbers_differ (file.Redo n) (file.Binlog m) is = absurd (omega (arith, is))
numbers_differ (file.Binlog n) file.VoteCtl is = absurd (omega (arith, is))
numbers_differ (file.Binlog n) file.LogCtl is = absurd (omega (arith, is))
numbers_differ (file.Binlog n) file.EngineCtl is = absurd (omega (arith, is))
numbers_differ (file.Binlog n) (file.Redo m) is = absurd (omega (arith, is))
numbers_differ (file.Binlog n) (file.Binlog m) is = ap file.Binlog (omega (arith, is))

picks : (b : Bool) (r s : FileRecord) → b ≡ true → (if b then r else s) ≡ r
picks true r s is = refl
picks false r s is = absurd (grind (arith, is))

passes : (b : Bool) (r s : FileRecord) → (b ≡ true → ⊥) → (if b then r else s) ≡ s
passes true r s apart = absurd (apart refl)
passes false r s apart = refl

module _ (rs : Records) (f : FileId) (r : FileRecord) where
  pub put_here : record_at (number_of f) (put (number_of f) r rs) ≡ r
  put_here = at_put (number_of f) (number_of f) r rs ∙ picks (is_at (nat_cmp (number_of f)) (number_of f)) r (record_at (number_of f) rs)
      ((eq_by_cmp_equiv nat_cmp_total).refl (number_of f))

  pub put_elsewhere : (g : FileId) → g ≢ f → record_at (number_of g) (put (number_of f) r rs) ≡ record_at (number_of g) rs
  put_elsewhere g apart = at_put (number_of g) (number_of f) r rs ∙ passes (is_at (nat_cmp (number_of g)) (number_of f)) r (record_at (number_of g) rs)
      (λ same. apart (numbers_differ g f (same_number (number_of g) (number_of f) same)))

-- one edit more
state_push : (es : List Edit) (e : Edit) (s : FileState) → state_after (es ++ e ∷ []) s ≡ state_edited (state_after es s) e
state_push [] e s = refl
state_push (d ∷ es) e s = state_push es e (state_edited s d)

pub state_edit : (r : FileRecord) (e : Edit) → state_of (with_edit r e) ≡ state_edited (state_of r) e
state_edit r e = state_push r.since e (settled r.synced)

-- what was left before is left, and one moment more
left_more : (rs : List Records) (r : Records) (left : Contents) → LeftAt rs left ⊎ Leaves (states r) left → LeftAt (rs ++ r ∷ []) left
left_more [] r left (inl none) = absurd none
left_more [] r left (inr here) = inl here
left_more (s ∷ rs) r left (inl (inl here)) = inl here
left_more (s ∷ rs) r left (inl (inr there)) = inr (left_more rs r left (inl there))
left_more (s ∷ rs) r left (inr here) = inr (left_more rs r left (inr here))

left_less : (rs : List Records) (r : Records) (left : Contents) → LeftAt (rs ++ r ∷ []) left → LeftAt rs left ⊎ Leaves (states r) left
left_less [] r left (inl here) = inr here
left_less [] r left (inr none) = absurd none
left_less (s ∷ rs) r left (inl here) = inl (inl here)
left_less (s ∷ rs) r left (inr there) = ⊎_elim (λ had. inl (inr had)) (λ new. inr new) (left_less rs r left there)

drop_push : (t : ℕ) (rs : List Records) (r : Records) → t ≤ length rs → drop t (rs ++ r ∷ []) ≡ drop t rs ++ r ∷ []
drop_push zero rs r le = refl
drop_push (suc t) [] r le = absurd (omega (arith, le))
drop_push (suc t) (s ∷ rs) r le = drop_push t rs r (omega (arith, le))

moved_since : (p : Past) (rs : Records) (t : ℕ) (left : Contents) → t ≤ length p.before → LeftSince (moved p rs) t left
    → LeftSince p t left ⊎ Leaves (states rs) left
moved_since p rs t left le (inl now) = inr now
moved_since p rs t left le (inr had) = inl (⊎_elim (λ old. inr old) (λ last. inl last)
    (left_less (drop t p.before) p.records left (subst (λ (l : List Records). LeftAt l left) (drop_push t p.before p.records le) had)))

moved_remembers : (p : Past) (rs : Records) (t : ℕ) (left : Contents) → t ≤ length p.before → LeftSince p t left → LeftSince (moved p rs) t left
moved_remembers p rs t left le since = inr (subst (λ (l : List Records). LeftAt l left) (sym (drop_push t p.before p.records le))
    (left_more (drop t p.before) p.records left (⊎_elim (λ now. inr now) (λ had. inl had) since)))

-- a call that leaves the past
module _ (old new : DiskState) (is : new.past ≡ old.past) where
  pub stays_same : Same (states old.past.records) (states new.past.records)
  stays_same f = ap (λ (p : Past). states p.records f) is

  pub stays_time : LeavesOnly moment left_since old new (Leaves (states new.past.records))
  stays_time = record {
    later = omega (arith, ap (λ (p : Past). length p.before) is);
    each = λ t left le since. inl (subst (λ (p : Past). LeftSince p t left) is since);
  }

  pub stays_remembered : Remembers moment left_since old new
  stays_remembered t left le since = subst (λ (p : Past). LeftSince p t left) (sym is) since

-- a call that moves it, or is refused and leaves it
abbrev pub Moves : {T : Type 0} → Past → Past → Records → Result T DiskFault → Type 0
Moves old new rs r = MatchResult r (λ _. new ≡ moved old rs) (λ _. new ≡ old)

pub moves_time : {T : Type 0} (old new : DiskState) (rs : Records) (r : Result T DiskFault) → Moves old.past new.past rs r
    → LeavesOnly moment left_since old new (Leaves (states new.past.records))
moves_time old new rs (Ok x) is = record {
  later = omega (arith, ap (λ (p : Past). length p.before) is, length_push old.past.before old.past.records);
  each = λ t left le since. subst (λ (p : Past). LeftSince old.past t left ⊎ Leaves (states p.records) left) (sym is)
      (moved_since old.past rs t left le (subst (λ (p : Past). LeftSince p t left) is since));
}
moves_time old new rs (Err e) is = stays_time old new is

pub moves_remembered : {T : Type 0} (old new : DiskState) (rs : Records) (r : Result T DiskFault) → Moves old.past new.past rs r
    → Remembers moment left_since old new
moves_remembered old new rs (Ok x) is t left le since = subst (λ (p : Past). LeftSince p t left) (sym is) (moved_remembers old.past rs t left le since)
moves_remembered old new rs (Err e) is t left le since = stays_remembered old new is t left le since

module _ (old new : Past) (f : FileId) (r : FileRecord) (result : Result (Unit {0}) DiskFault) where
  there : new ≡ moved old (put (number_of f) r old.records) → states new.records f ≡ state_of r
  there is = ap (λ (p : Past). states p.records f) is ∙ ap state_of (put_here old.records f r)

  as_was : new ≡ old → states new.records f ≡ states old.records f
  as_was is = ap (λ (p : Past). states p.records f) is

  pub put_leaves : Moves old new (put (number_of f) r old.records) result → Elsewhere f (states old.records) (states new.records)
  put_leaves is g apart = go result is
    where
      go : (result : Result (Unit {0}) DiskFault) → Moves old new (put (number_of f) r old.records) result → states new.records g ≡ states old.records g
      go (Ok x) is = ap (λ (p : Past). states p.records g) is ∙ ap state_of (put_elsewhere old.records f r g apart)
      go (Err e) is = ap (λ (p : Past). states p.records g) is

not_written : (at : ℕ) (bytes old new : List ℕ) → new ≡ old → PartlyWritten at bytes old new
not_written at bytes old new is = record {
  no_shorter = omega (arith, ap length is);
  no_longer = omega (arith, ap length is);
  stays = λ i within apart. ap (λ (l : List ℕ). get_or l i 0) is;
}

not_cut : (n : ℕ) (old new : List ℕ) → new ≡ old → PartlyCut n old new
not_cut n old new is = record {
  no_shorter = omega (arith, ap length is);
  front = is ∙ sym (take_all (length new) old (omega (arith, ap length is)));
}

module _ (old new : Past) (f : FileId) where
  was : FileRecord
  was = record_at (number_of f) old.records

  pub write_here : (at : ℕ) (bytes : List ℕ) (result : Result (Unit {0}) DiskFault)
      → Moves old new (put (number_of f) (with_edit (record_at (number_of f) old.records) (edit.Write at bytes)) old.records) result
      → WriteIs at bytes (states old.records f) (states new.records f) result
  write_here at bytes (Ok x) is = there old new f (with_edit (record_at (number_of f) old.records) (edit.Write at bytes)) (Ok x) is
      ∙ state_edit (record_at (number_of f) old.records) (edit.Write at bytes)
  write_here at bytes (Err fault.Failed) is = not_written at bytes (states old.records f).bytes (states new.records f).bytes
      (ap (λ (p : Past). (states p.records f).bytes) is)
  write_here at bytes (Err fault.Memory) is = ap (λ (p : Past). states p.records f) is

  pub write_within : (at : ℕ) (bytes : List ℕ) (result : Result (Unit {0}) DiskFault)
      → Moves old new (put (number_of f) (with_edit (record_at (number_of f) old.records) (edit.Write at bytes)) old.records) result
      → Within (states new.records f) (wrote at bytes (states old.records f))
  write_within at bytes (Ok x) is left may = subst (λ (s : FileState). MayLeave s left) (write_here at bytes (Ok x) is) may
  write_within at bytes (Err e) is left may = write_adds at bytes (states old.records f) left (subst (λ (p : Past). MayLeave (states p.records f) left) is may)

  pub cut_here : (n : ℕ) (result : Result (Unit {0}) DiskFault) → Moves old new
      (put (number_of f) (with_edit (record_at (number_of f) old.records) (edit.Cut n)) old.records) result
      → CutIs n (states old.records f) (states new.records f) result
  cut_here n (Ok x) is = there old new f (with_edit (record_at (number_of f) old.records) (edit.Cut n)) (Ok x) is
      ∙ state_edit (record_at (number_of f) old.records) (edit.Cut n)
  cut_here n (Err fault.Failed) is = not_cut n (states old.records f).bytes (states new.records f).bytes (ap (λ (p : Past). (states p.records f).bytes) is)
  cut_here n (Err fault.Memory) is = ap (λ (p : Past). states p.records f) is

  pub cut_within : (n : ℕ) (result : Result (Unit {0}) DiskFault) → Moves old new
      (put (number_of f) (with_edit (record_at (number_of f) old.records) (edit.Cut n)) old.records) result
      → Within (states new.records f) (shortened n (states old.records f))
  cut_within n (Ok x) is left may = subst (λ (s : FileState). MayLeave s left) (cut_here n (Ok x) is) may
  cut_within n (Err e) is left may = cut_adds n (states old.records f) left (subst (λ (p : Past). MayLeave (states p.records f) left) is may)

  pub sync_here : (result : Result (Unit {0}) DiskFault) → Moves old new
      (put (number_of f) (all_synced (reads (record_at (number_of f) old.records))) old.records) result
      → SyncIs (states old.records f) (states new.records f) result
  sync_here (Ok x) is = there old new f (all_synced (reads (record_at (number_of f) old.records))) (Ok x) is
      ∙ ap settled (sym (reads_of (record_at (number_of f) old.records)))
  sync_here (Err fault.Failed) is = ap (λ (p : Past). (states p.records f).bytes) is
  sync_here (Err fault.Memory) is = ap (λ (p : Past). states p.records f) is

  pub sync_within : (result : Result (Unit {0}) DiskFault) → Moves old new
      (put (number_of f) (all_synced (reads (record_at (number_of f) old.records))) old.records) result → Within (states new.records f) (states old.records f)
  sync_within (Ok x) is left may = sync_adds (states old.records f) (record_reads (record_at (number_of f) old.records)) left
      (subst (λ (s : FileState). MayLeave s left) (sync_here (Ok x) is) may)
  sync_within (Err e) is left may = subst (λ (p : Past). MayLeave (states p.records f) left) is may
