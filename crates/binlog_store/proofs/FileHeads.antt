-- The head that is due behind a log stands in the next file, and the log ends there; or it does not, and the log before the Rotate is the longest.
use Rattle.std.proofs.Common.{◌≡◌, ◌≢◌, ℕ, ◌+◌, ◌≤◌, inl, inr, ⊎_elim, true, false, List, [], length, drop, Some, refl, sym, ap, ap₂, subst, ◌∙◌, arith, append-nil, length-drop}
use Rattle.std.specs.Prelude.{nat_lt}
use Rattle.std.proofs.lemmas.Bool.Decides.{nat_tests}
use Rattle.ring_types.proofs.Booleans.{lt_true}
use Rattle.ring_types.specs.Rings.{is_schema}
use Rattle.ring_types.specs.declared.entries.Entry.{Entry}
use Rattle.ring_types.specs.declared.schemas.Schema.{Schema}
use Rattle.edge_traits.specs.FileStates.{Contents}
use Rattle.edge_traits.specs.declared.disks.FileId.{FileId}
use Rattle.edge_traits.specs.declared.disks.FileId.TheVariants as file
use Rattle.entry_group.specs.Files.{files, head_after}
use Rattle.binlog_store.specs.Damages.{FilesFault, agreeing, before_end, ending_of, fault_behind, head_fault, in_head, in_next}
use Rattle.binlog_store.specs.Following.{GoesOn, HasNoHead, IsBegun, IsEnded, IsShown}
use Rattle.binlog_store.specs.Longest.{Tells, last_end, last_file, rest_behind}
use Rattle.binlog_store.specs.declared.endings.Ending.{Ending}
use Rattle.binlog_store.specs.declared.endings.Ending.TheVariants.{Earlier}
use Rattle.binlog_store.specs.declared.points.LogPoint.{LogPoint}
use Rattle.binlog_store.proofs.NextReads.{head_still}
use Rattle.binlog_store.proofs.Refusing.{longest_no_head, none_told}
use Rattle.binlog_store.proofs.Telling.{tells_none, tells_rotate}

-- ---- a file that a Rotate ended
module _ (schema : Schema) (c : Contents) (n : ℕ) (log : List Entry) (ended : IsEnded schema c n log (length (c (file.Binlog n)))) where
  pub same_head : head_after log ≡ head_after ended.before
  same_head = ap head_after ended.grown ∙ head_still ended.before ended.read.entry ended.rotate

  -- all that stands behind the log before is the Rotate's group
  pub all_read : length (rest_behind schema c ended.before) ≡ ended.read.size
  all_read =
      let rest : rest_behind schema c ended.before ≡ drop (last_end schema ended.before) (c (file.Binlog n)) =
      ap (λ (m : ℕ). drop (last_end schema ended.before) (c (file.Binlog m))) ended.on.here in
      omega (arith, ap length rest, length-drop (last_end schema ended.before) (c (file.Binlog n)), ended.ends)

  pub next_number : (bytes : List ℕ) → bytes ≡ c (file.Binlog (n + 1)) → c (file.Binlog (last_file schema ended.before + 1)) ≡ bytes
  next_number bytes is = ap (λ (m : ℕ). c (file.Binlog (m + 1))) ended.on.here ∙ sym is

-- ---- the head is there
none_on : (schema : Schema) (c : Contents) → agreeing (c (file.Binlog 1)) (head_after []) ≡ length (head_after []) → GoesOn schema c 1 [] (length (head_after []))
unfolding files
none_on schema c same = record { told = tells_none schema c same; here = refl; ends = ap length (append-nil (head_after [])) }

module _ (schema : Schema) (c : Contents) (n : ℕ) (log : List Entry) (shown : List ℕ) (is : shown ≡ c (file.Binlog (n + 1))) where
  first_agrees : n ≡ 0 → log ≡ [] → agreeing (c (file.Binlog 1)) (head_after []) ≡ agreeing shown (head_after log)
  first_agrees none empty =
      sym (ap₂ (λ (s : List ℕ) (l : List Entry). agreeing s (head_after l)) (is ∙ ap (λ (m : ℕ). c (file.Binlog (m + 1))) none) empty)

  next_agrees : (ended : IsEnded schema c n log (length (c (file.Binlog n))))
      → agreeing (c (file.Binlog (last_file schema ended.before + 1))) (head_after ended.before) ≡ agreeing shown (head_after log)
  next_agrees ended = ap₂ agreeing (next_number schema c n log ended shown is) (sym (same_head schema c n log ended))

  pub head_told : is_schema schema ≡ true → agreeing shown (head_after log) ≡ length (head_after log) → IsBegun schema c n log
      → GoesOn schema c (n + 1) log (length (head_after log))
  head_told fits same (inl first) =
      let one = first_agrees first.0 first.1 ∙ (same ∙ ap (λ (l : List Entry). length (head_after l)) first.1) in
      subst (λ (l : List Entry). GoesOn schema c (n + 1) l (length (head_after l))) (sym first.1)
      (subst (λ (m : ℕ). GoesOn schema c (m + 1) [] (length (head_after []))) (sym first.0) (none_on schema c one))
  head_told fits same (inr ended) =
      let due = same_head schema c n log ended in
      let there = next_agrees ended ∙ (same ∙ ap length due) in
      let on = tells_rotate schema c ended.before ended.read ended.on.told fits ended.in_range ended.next ended.rotate (all_read schema c n log ended) there in
      record {
        told = subst (Tells schema c) (sym ended.grown) on.told;
        here = ap (last_file schema) ended.grown ∙ (on.file ∙ ap (λ (m : ℕ). m + 1) ended.on.here);
        ends = ap (last_end schema) ended.grown ∙ (on.end ∙ ap length (sym due));
      }

-- ---- the head is not there
pub earlier_ending : (p : LogPoint) (c : Contents) (n : ℕ) → n + 1 ≤ p.file → ending_of p c n ≡ Earlier
earlier_ending p c n within = let less : nat_lt n p.file ≡ true = lt_true n p.file (omega (arith, within)) in rw less refl

module _ (schema : Schema) (p : LogPoint) (c : Contents) (n : ℕ) (log : List Entry) (shown : List ℕ) (ending : Ending) (count : ℕ)
    (is : IsShown schema p c n log shown ending count) (f : FileId) (at : ℕ) (none : HasNoHead log shown ending (n + 1) f at) where
  abbrev b : Contents
  b = before_end p c

  fault_there : (head : List ℕ) → head ≡ head_after log → (f, at) ≡ head_fault p c (n + 1) head
  fault_there head due =
      none.there
      ∙ (ap₂ (λ (e : Ending) (s : List ℕ). in_head e (n + 1) (agreeing s (head_after log)) (length s)) is.ending_is is.bytes
      ∙ ap (head_fault p c (n + 1)) (sym due))

  first_fault : n ≡ 0 → log ≡ [] → FilesFault schema p c f at
  first_fault zero_is empty =
      let differs : agreeing (b (file.Binlog 1)) (head_after []) ≢ length (head_after []) =
      λ same. none.differs (sym (first_agrees schema b n log shown is.bytes zero_is empty) ∙ (same ∙ ap (λ (l : List Entry). length (head_after l)) (sym empty))) in
      inl (record {
        none = none_told schema b differs;
        there = fault_there (head_after []) (ap head_after (sym empty)) ∙ ap (λ (m : ℕ). head_fault p c (m + 1) (head_after [])) zero_is;
      })

  behind_rotate : (ended : IsEnded schema b n log (length (b (file.Binlog n)))) → fault_behind schema p c ended.before ≡ Some (f, at)
  behind_rotate ended =
      let here = ended.on.here in
      let before = ended.before in
      let early : ending_of p c (last_file schema before) ≡ Earlier = ap (ending_of p c) here ∙ earlier_ending p c n is.within in
      let whole : nat_lt ended.read.size (length (rest_behind schema b before)) ≡ false = let all = all_read schema b n log ended in grind (arith, nat_tests, all) in
      let place : head_fault p c (last_file schema before + 1) (head_after before) ≡ (f, at) =
      ap (λ (m : ℕ). head_fault p c (m + 1) (head_after before)) here ∙ sym (fault_there (head_after before) (sym (same_head schema b n log ended))) in
      ap (in_next schema p c before) ended.next ∙ rw (early, whole) (ap Some place)

  next_fault : IsEnded schema b n log (length (b (file.Binlog n))) → FilesFault schema p c f at
  next_fault ended =
      let due = same_head schema b n log ended in
      let differs : agreeing (b (file.Binlog (last_file schema ended.before + 1))) (head_after ended.before) ≢ length (head_after ended.before) =
      λ same. none.differs (sym (next_agrees schema b n log shown is.bytes ended) ∙ (same ∙ ap length (sym due))) in
      inr (record {
        log = ended.before;
        longest = longest_no_head schema b ended.before ended.read ended.on.told ended.next ended.rotate differs;
        there = behind_rotate ended;
      })

  pub no_head_fault : FilesFault schema p c f at
  no_head_fault = ⊎_elim (λ first. first_fault first.0 first.1) next_fault is.begun
