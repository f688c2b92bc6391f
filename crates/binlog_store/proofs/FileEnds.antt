-- A file that ends as it should brings its log where the ending says; else no entry goes on behind that log, or behind the one before its Rotate.
use Rattle.std.proofs.Common.{◌≡◌, ◌≢◌, ℕ, ◌+◌, ◌<◌, ◌≤◌, inr, Bool, true, false, cond, List, [], ◌∷◌, length, drop, Option, Some, None, Err, refl, sym, ap, ap₂, subst, ◌∙◌, arith, length-drop}
use Rattle.std.specs.Prelude.{◌==◌, ◌&&◌, not, nat_lt}
use Rattle.std.proofs.lemmas.Bool.Decides.{nat_tests}
use Rattle.std.proofs.lemmas.List.{drop-drop, drop_all}
use Rattle.event_frame.specs.Events.{event_at}
use Rattle.ring_types.specs.declared.entries.Entry.{Entry}
use Rattle.ring_types.specs.declared.schemas.Schema.{Schema}
use Rattle.edge_traits.specs.FileStates.{Contents}
use Rattle.edge_traits.specs.declared.disks.FileId.{FileId}
use Rattle.edge_traits.specs.declared.disks.FileId.TheVariants as file
use Rattle.entry_group.specs.Files.{head_after}
use Rattle.binlog_store.specs.Added.{end_of}
use Rattle.binlog_store.specs.Damages.{FilesFault, LongestFault, agreeing, before_end, ending_of, ends_within, fault_behind, head_fault, in_group, in_next, in_rotation}
use Rattle.binlog_store.specs.Following.{ComesTo, GoesOn, IsAll, IsBegun, IsEnded, IsRefused, at_end, group_event}
use Rattle.binlog_store.specs.Longest.{IsLongest, last_end, last_file, next_behind, next_in, rest_behind}
use Rattle.binlog_store.specs.declared.endings.Ending.{Ending}
use Rattle.binlog_store.specs.declared.endings.Ending.TheVariants.{Earlier, Reaching, TooShort}
use Rattle.binlog_store.specs.declared.points.LogPoint.{LogPoint}
use Rattle.binlog_store.proofs.GroupWalks.{rest_there}
use Rattle.binlog_store.proofs.Refusing.{longest_behind, longest_no_head, longest_refused}

no_event : (schema : Schema) (log : List Entry) → next_in schema log [] (end_of schema log) ≡ Err 0
unfolding event_at
no_event schema log = refl

-- an empty file does not begin with a head
no_head : (bytes : List ℕ) (log : List Entry) → bytes ≡ [] → agreeing bytes (head_after log) ≢ length (head_after log)
no_head bytes log none same =
    let z : agreeing [] (head_after log) ≡ length (head_after log) = subst (λ (b : List ℕ). agreeing b (head_after log) ≡ length (head_after log)) none same in
    omega (arith, z)

-- ---- which file it is
module _ (p : LogPoint) (c : Contents) (m : ℕ) (within : m ≤ p.file) where
  last_there : ending_of p c m ≢ Earlier → m ≡ p.file
  last_there never = by_less (nat_lt m p.file) refl
    where
      by_less : (less : Bool) → nat_lt m p.file ≡ less → m ≡ p.file
      by_less true is = absurd (never (rw is refl))
      by_less false is = grind (arith, nat_tests, within, is)

  none_behind : ending_of p c m ≢ Earlier → before_end p c (file.Binlog (m + 1)) ≡ []
  none_behind never =
      let last = last_there never in
      let more : nat_lt (m + 1) p.file ≡ false = grind (arith, nat_tests, last) in
      let other : (m + 1 == p.file) ≡ false = grind (arith, nat_tests, last) in
      rw (more, other) refl

module _ (schema : Schema) (p : LogPoint) (c : Contents) (n : ℕ) (within : n + 1 ≤ p.file) (shown : List ℕ)
    (bytes : shown ≡ before_end p c (file.Binlog (n + 1))) (ending : Ending) (ending_is : ending ≡ ending_of p c (n + 1)) where
  abbrev b : Contents
  b = before_end p c

  not_earlier : (how : Ending) → how ≢ Earlier → ending ≡ how → ending_of p c (n + 1) ≢ Earlier
  not_earlier how never here other = never (sym here ∙ (ending_is ∙ other))

  same_place : (f : FileId) (to at k : ℕ) → at ≡ k → ◌≡◌ {A = Option (FileId × ℕ)} (Some (file.Binlog (n + 1), at)) (Some (f, to))
      → ◌≡◌ {A = Option (FileId × ℕ)} (Some (file.Binlog (n + 1), k)) (Some (f, to))
  same_place f to at k same is = ap (λ (z : ℕ). Some (file.Binlog (n + 1), z)) (sym same) ∙ is

  rest_shown : (log : List Entry) (at : ℕ) → GoesOn schema b (n + 1) log at → rest_behind schema b log ≡ drop at shown
  rest_shown log at on = rest_there schema b (n + 1) at log shown (sym bytes) on

  -- what is at fault behind a log that ends in the file, where no next group stands
  refused_fault : (log : List Entry) (at off : ℕ) → GoesOn schema b (n + 1) log at → next_behind schema b log ≡ Err off
      → fault_behind schema p c log ≡ in_group ending (n + 1) at (drop at shown) off (length log == p.count)
  refused_fault log at off on next =
      ap (in_next schema p c log) next
      ∙ (ap (λ (k : ℕ). in_group (ending_of p c k) k (last_end schema log) (rest_behind schema b log) off (length log == p.count)) on.here
      ∙ (ap₂ (λ (k : ℕ) (rest : List ℕ). in_group (ending_of p c (n + 1)) (n + 1) k rest off (length log == p.count)) on.ends (rest_shown log at on)
      ∙ ap (λ (how : Ending). in_group how (n + 1) at (drop at shown) off (length log == p.count)) (sym ending_is)))

  refused_longest : (log : List Entry) (at off : ℕ) (f : FileId) (to : ℕ) → GoesOn schema b (n + 1) log at → next_behind schema b log ≡ Err off
      → in_group ending (n + 1) at (drop at shown) off (length log == p.count) ≡ Some (f, to) → LongestFault schema p c f to
  refused_longest log at off f to on next there = record {
    log = log;
    longest = longest_refused schema b log off on.told next;
    there = refused_fault log at off on next ∙ there;
  }

  -- ---- where the groups end with the file
  module _ (log : List Entry) (at : ℕ) (inside : at ≤ length shown) (rotated counted : Bool)
      (goes : rotated ≡ false → GoesOn schema b (n + 1) log at × (at ≡ length shown))
      (ended : rotated ≡ true → IsEnded schema b (n + 1) log at)
      (counts : counted ≡ (length log == p.count)) where
    -- ---- as it should
    told_earlier : (r s : Bool) → rotated ≡ r → (at == length shown) ≡ s → cond {A = Option (FileId × ℕ)} (r && s) None (Some (file.Binlog (n + 1), at)) ≡ None
        → IsBegun schema b (n + 1) log
    told_earlier true true turns all is =
        let same : at ≡ length shown = grind (arith, nat_tests, all) in
        inr (subst (IsEnded schema b (n + 1) log) (same ∙ ap length bytes) (ended turns))
    told_earlier true false turns all is = absurd cc
    told_earlier false s turns all is = absurd cc

    told_all : (l r k : Bool) → ending_of p c (n + 1) ≢ Earlier → rotated ≡ r → counted ≡ k
        → cond {A = Option (FileId × ℕ)} l (Some (file.Binlog (n + 1), at))
        (cond {A = Option (FileId × ℕ)} (not r && k) None (Some (file.LogCtl, 0))) ≡ None → IsAll schema p c log
    told_all false false true never turns whole is =
        let last = last_there p c (n + 1) within never in
        let on = goes turns in
        record {
          on = subst (λ (k : ℕ). GoesOn schema b k log (length (b (file.Binlog k)))) last
              (subst (GoesOn schema b (n + 1) log) (on.1 ∙ ap length bytes) on.0);
          count = let all : (length log == p.count) ≡ true = sym counts ∙ whole in grind (arith, nat_tests, all);
        }
    told_all true r k never turns whole is = absurd cc
    told_all false true k never turns whole is = absurd cc
    told_all false false false never turns whole is = absurd cc

    told_as : (how : Ending) → ending ≡ how → at_end how (n + 1) at (length shown) rotated counted ≡ None → ComesTo schema p c (n + 1) log how
    told_as Earlier here is = told_earlier rotated (at == length shown) refl refl is
    told_as TooShort here is = absurd cc
    told_as Reaching here is =
        told_all (nat_lt at (length shown)) rotated counted (not_earlier Reaching (λ other. cc) here) refl refl is

    pub end_told : at_end ending (n + 1) at (length shown) rotated counted ≡ None → ComesTo schema p c (n + 1) log ending
    end_told is = told_as ending refl is

    -- ---- or at fault
    still_fault : (f : FileId) (to : ℕ) → rotated ≡ false → in_group ending (n + 1) at [] 0 counted ≡ Some (f, to) → LongestFault schema p c f to
    still_fault f to turns there =
        let on = goes turns in
        let none : drop at shown ≡ [] = drop_all at shown (omega (arith, on.1)) in
        let next : next_behind schema b log ≡ Err 0 =
        ap (λ (rest : List ℕ). next_in schema log rest (end_of schema log)) (rest_shown log at on.0 ∙ none) ∙ no_event schema log in
        refused_longest log at 0 f to on.0 next
        (ap₂ (λ (rest : List ℕ) (whole : Bool). in_group ending (n + 1) at rest 0 whole) none (sym counts) ∙ there)

    module _ (turns : rotated ≡ true) where
      abbrev turn : IsEnded schema b (n + 1) log at
      turn = ended turns

      abbrev begin : ℕ
      begin = last_end schema turn.before

      abbrev next_fault : FileId × ℕ
      next_fault = head_fault p c (n + 1 + 1) (head_after turn.before)

      turn_rest : rest_behind schema b turn.before ≡ drop begin shown
      turn_rest = rest_shown turn.before begin turn.on

      turn_fault : fault_behind schema p c turn.before ≡ in_rotation ending (n + 1) begin (drop begin shown) turn.read.size next_fault
      turn_fault =
          ap (in_next schema p c turn.before) turn.next
          ∙ (ap (λ (k : ℕ). in_rotation (ending_of p c k) k begin (rest_behind schema b turn.before) turn.read.size
          (head_fault p c (k + 1) (head_after turn.before))) turn.on.here
          ∙ ap₂ (λ (how : Ending) (rest : List ℕ). in_rotation how (n + 1) begin rest turn.read.size next_fault) (sym ending_is) turn_rest)

      more_longest : at < length shown → IsLongest schema b turn.before
      more_longest less =
          longest_behind schema b turn.before turn.read turn.on.told turn.next turn.rotate
          (λ same. absurd (omega (arith, less, turn.ends, same, ap length turn_rest, length-drop begin shown)))

      last_longest : ending_of p c (n + 1) ≢ Earlier → IsLongest schema b turn.before
      last_longest never =
          longest_no_head schema b turn.before turn.read turn.on.told turn.next turn.rotate
          (no_head (b (file.Binlog (last_file schema turn.before + 1))) turn.before
          (ap (λ (k : ℕ). b (file.Binlog (k + 1))) turn.on.here ∙ none_behind p c (n + 1) within never))

      turn_longest : (f : FileId) (to : ℕ) → IsLongest schema b turn.before
          → in_rotation ending (n + 1) begin (drop begin shown) turn.read.size next_fault ≡ Some (f, to) → LongestFault schema p c f to
      turn_longest f to longest there = record { log = turn.before; longest = longest; there = turn_fault ∙ there }

      more_in : (less : Bool) → nat_lt at (length shown) ≡ less → nat_lt turn.read.size (length (drop begin shown)) ≡ less
      more_in true is =
          let less : at < length shown = grind (arith, nat_tests, is) in
          let rest : turn.read.size < length (drop begin shown) = omega (arith, less, turn.ends, length-drop begin shown) in
          grind (arith, nat_tests, rest)
      more_in false is =
          let more : length shown ≤ at = grind (arith, nat_tests, is) in
          let rest : length (drop begin shown) ≤ turn.read.size = omega (arith, more, turn.ends, length-drop begin shown) in
          grind (arith, nat_tests, rest)

    -- the file that another one should follow
    damaged_earlier : (f : FileId) (to : ℕ) (r s : Bool) → ending ≡ Earlier → rotated ≡ r → (at == length shown) ≡ s
        → cond {A = Option (FileId × ℕ)} (r && s) None (Some (file.Binlog (n + 1), at)) ≡ Some (f, to) → LongestFault schema p c f to
    damaged_earlier f to true true here turns all is = absurd cc
    damaged_earlier f to true false here turns all is =
        let less : at < length shown = grind (arith, nat_tests, all, inside) in
        let more : nat_lt at (length shown) ≡ true = grind (arith, nat_tests, less) in
        let rest = more_in turns true more in
        turn_longest turns f to (more_longest turns less)
        (rw (here, rest) (same_place f to at (begin turns + (turn turns).read.size) (turn turns).ends is))
    damaged_earlier f to false s here turns all is =
        still_fault f to turns (rw here (same_place f to at (at + 0) (omega arith) is))

    damaged_short : (f : FileId) (to : ℕ) (r : Bool) → ending ≡ TooShort → rotated ≡ r
        → ◌≡◌ {A = Option (FileId × ℕ)} (Some (file.Binlog (n + 1), at)) (Some (f, to)) → LongestFault schema p c f to
    damaged_short f to true here turns is =
        turn_longest turns f to (last_longest turns (not_earlier TooShort (λ other. cc) here))
        (rw here (same_place f to at (begin turns + (turn turns).read.size) (turn turns).ends is))
    damaged_short f to false here turns is =
        still_fault f to turns (rw here (same_place f to at (at + 0) (omega arith) is))

    -- the last file
    damaged_last : (f : FileId) (to : ℕ) (l r k : Bool) → ending ≡ Reaching → nat_lt at (length shown) ≡ l → rotated ≡ r → counted ≡ k
        → cond {A = Option (FileId × ℕ)} l (Some (file.Binlog (n + 1), at))
        (cond {A = Option (FileId × ℕ)} (not r && k) None (Some (file.LogCtl, 0))) ≡ Some (f, to) → LongestFault schema p c f to
    damaged_last f to true true k here more turns whole is =
        let rest = more_in turns true more in
        turn_longest turns f to (last_longest turns (not_earlier Reaching (λ other. cc) here))
        (rw (here, rest) (same_place f to at (begin turns + (turn turns).read.size) (turn turns).ends is))
    damaged_last f to false true k here more turns whole is =
        let rest = more_in turns false more in
        turn_longest turns f to (last_longest turns (not_earlier Reaching (λ other. cc) here))
        (rw (here, rest) is)
    damaged_last f to true false k here more turns whole is = absurd (let on = goes turns in grind (arith, nat_tests, more, on.1))
    damaged_last f to false false true here more turns whole is = absurd cc
    damaged_last f to false false false here more turns whole is = still_fault f to turns (rw (here, whole) is)

    damaged_as : (how : Ending) (f : FileId) (to : ℕ) → ending ≡ how → at_end how (n + 1) at (length shown) rotated counted ≡ Some (f, to)
        → LongestFault schema p c f to
    damaged_as Earlier f to here is = damaged_earlier f to rotated (at == length shown) here refl refl is
    damaged_as TooShort f to here is = damaged_short f to rotated here refl is
    damaged_as Reaching f to here is = damaged_last f to (nat_lt at (length shown)) rotated counted here refl refl refl is

    pub end_damaged : (f : FileId) (to : ℕ) → at_end ending (n + 1) at (length shown) rotated counted ≡ Some (f, to) → FilesFault schema p c f to
    end_damaged f to is = inr (damaged_as ending f to refl is)

  -- ---- where no next group stands before the end
  group_in : (how : Ending) (begin off : ℕ) (rest : List ℕ) (whole : Bool) → 1 ≤ length rest → drop off rest ≡ drop (begin + off) shown
      → in_group how (n + 1) begin rest off whole ≡ Some (file.Binlog (n + 1), group_event how begin (begin + off) shown)
  group_in Earlier begin off rest whole some same = refl
  group_in TooShort begin off rest whole some same = refl
  group_in Reaching begin off [] whole some same = absurd (omega (arith, some))
  group_in Reaching begin off (x ∷ rest) whole some same =
      ap (λ (d : List ℕ). Some (file.Binlog (n + 1), cond (ends_within d) (begin + off) begin)) same

  pub refused_damaged : (log : List Entry) (group at : ℕ) → group < length shown → at ≤ length shown → IsRefused schema b (n + 1) log group at
      → FilesFault schema p c (file.Binlog (n + 1)) (group_event ending group at shown)
  refused_damaged log group at due inside refused =
      let some : 1 ≤ length (drop group shown) = omega (arith, due, length-drop group shown) in
      let there = group_in ending group refused.off (drop group shown) (length log == p.count) some (drop-drop refused.off group shown) in
      let named = ap (λ (k : ℕ). Some (file.Binlog (n + 1), group_event ending group k shown)) (sym refused.at_is) in
      inr (refused_longest log group refused.off (file.Binlog (n + 1)) (group_event ending group at shown) refused.on refused.next (there ∙ named))
