-- Entries come to the end of a log one after the other: each stands where it comes to stand, and the end behind it is that of the longer log.
use Rattle.std.proofs.Common.{◌≡◌, ℕ, ◌+◌, ◌^◌, ◌<◌, ◌≤◌, List, [], ◌∷◌, ◌++◌, length, take, drop, get_or, refl, sym, ap, subst, ◌∙◌, append_assoc, append-nil, arith, take-append-drop}
use Rattle.std.specs.List.{cons_option}
use Rattle.std.proofs.lemmas.List.{length-append, length-take}
use Rattle.std.proofs.lemmas.List.Elements.{filter_map-append}
use Rattle.std.proofs.lemmas.Grind.{take_at_read}
use Rattle.std.proofs.lemmas.Bool.Decides.{nat_tests}
use Rattle.ring_types.specs.declared.entries.Entry.{Entry}
use Rattle.ring_types.specs.declared.entries.Payload.{Payload}
use Rattle.ring_types.specs.declared.entries.Payload.TheVariants as payload
use Rattle.ring_types.specs.declared.entries.Place.{Place}
use Rattle.ring_types.specs.declared.limits.TheConstants.{LAST_GTID}
use Rattle.ring_types.specs.declared.schemas.Schema.{Schema}
use Rattle.ring_types.specs.declared.values.Gtid.{Gtid}
use Rattle.ring_types.specs.declared.gtid_sets.ServerSet.{ServerSet}
use Rattle.event_control.specs.ControlEvents.{head}
use Rattle.ring_types.specs.Gtids.{gtid_of, gtids, gtids_in}
use Rattle.gtid_set.specs.Laws.{AreInRange}
use Rattle.entry_group.specs.Files.{files, files_from, first_place, head_after, place_behind, set_in_head}
use Rattle.entry_group.specs.Laws.{AllStand, FitsPayload, StandsAt}
use Rattle.binlog_store.specs.Added.{added, continued, end_of, place_from}
use Rattle.binlog_store.specs.Held.{IsBehind, IsEnd, IsNumbered}
use Rattle.binlog_store.specs.Stands.{IsWritten}
use Rattle.binlog_store.specs.declared.ends.LogEnd.{LogEnd}
use Rattle.binlog_store.proofs.Continuing.{from_place}
use Rattle.binlog_store.proofs.Counts.{few_counted, stand_behind}
use Rattle.binlog_store.proofs.NextPlaces.{end_grows}

-- ---- places
place_append : (schema : Schema) (p : Place) (before xs ys : List Entry)
    → place_from schema p before (xs ++ ys) ≡ place_from schema (place_from schema p before xs) (before ++ xs) ys
place_append schema p before [] ys = ap (λ (b : List Entry). place_from schema p b ys) (sym (append-nil before))
place_append schema p before (e ∷ xs) ys =
    let next = place_behind schema before e p in
    place_append schema next (before ++ e ∷ []) xs ys
    ∙ ap (λ (b : List Entry). place_from schema (place_from schema next (before ++ e ∷ []) xs) b ys) (append_assoc before (e ∷ []) xs)

-- ---- the number and the server of an entry that stands are in range
one_in_range : (schema : Schema) (e : Entry) (p : Payload) → e.payload ≡ p → FitsPayload schema p → AreInRange (cons_option (gtid_of e) []) × IsNumbered e
one_in_range schema e payload.NoOp is h = rw is (tt, tt)
one_in_range schema e payload.Rotate is h = rw is (tt, tt)
one_in_range schema e (payload.Txn t) is h =
    let number = h.number in
    let low : 1 ≤ t.gtid.number = grind (arith, nat_tests) in
    let high : t.gtid.number ≤ LAST_GTID = grind (arith, nat_tests) in
    rw is (((low, high, h.server), tt), (low, high))

pub numbered_there : (schema : Schema) (p : Place) (e : Entry) → StandsAt schema p e → IsNumbered e
numbered_there schema p e stands = (one_in_range schema e e.payload refl stands.payload).1

range_both : (gs hs : List Gtid) → AreInRange gs → AreInRange hs → AreInRange (gs ++ hs)
range_both [] hs g h = h
range_both (x ∷ gs) hs g h = (g.0, range_both gs hs g.1 h)

pub range_more : (schema : Schema) (p : Place) (log : List Entry) (e : Entry) → AreInRange (gtids_in log) → StandsAt schema p e
    → AreInRange (gtids_in (log ++ e ∷ []))
range_more schema p log e range stands =
    subst AreInRange (sym (filter_map-append gtid_of log (e ∷ [])))
    (range_both (gtids_in log) (cons_option (gtid_of e) []) range (one_in_range schema e e.payload refl stands.payload).0)

-- ---- one entry
pub end_next : (schema : Schema) (log : List Entry) (e : Entry) (old new : LogEnd) → IsEnd schema log old → StandsAt schema old.place e
    → IsBehind schema old.place log e new.place
    → (AreInRange (gtids_in (log ++ e ∷ [])) → new.gtids ≡ gtids (log ++ e ∷ [])) → IsEnd schema (log ++ e ∷ []) new
end_next schema log e old new end stands behind set =
    let range = range_more schema old.place log e end.in_range stands in
    record {
      in_range = range;
      set_is = set range;
      place_is = behind.place_is
          ∙ (ap (place_behind schema log e) end.place_is ∙ sym (place_append schema first_place [] log (e ∷ [])));
      at_is = end_grows schema log e old.place new.place.at end.place_is end.at_is behind.at_is;
    }

-- ---- the empty log
pub empty_end : (schema : Schema) (set : List ServerSet) (at : ℕ) → set ≡ [] → at ≡ length (head (set_in_head set))
    → IsEnd schema [] (record { gtids = set; place = record { file = 1; at = at; sequence = 1 } })
unfolding gtids files
empty_end schema set at none long =
    let first : at ≡ length (head_after []) = long ∙ ap (λ (s : List ServerSet). length (head (set_in_head s))) none in
    record {
      in_range = tt;
      set_is = none;
      place_is = ap (λ (n : ℕ). record { file = 1; at = n; sequence = 1 }) first;
      at_is = first ∙ ap length (sym (append-nil (head_after [])));
    }

-- ---- entries of a log, each in its turn behind those before it
module _ (schema : Schema) (start more : List Entry) (written : IsWritten schema (start ++ more)) where
  turn_next : (i : ℕ) (d e : Entry) → i < length more → e ≡ get_or more i d → start ++ take (i + 1) more ≡ (start ++ take i more) ++ e ∷ []
  turn_next i d e within is =
      ap (λ (z : List Entry). start ++ z) ((take_at_read more i d within).1 ∙ ap (λ (z : Entry). take i more ++ z ∷ []) (sym is))
      ∙ sym (append_assoc start (take i more) (e ∷ []))

  whole : (i : ℕ) (d e : Entry) → i < length more → e ≡ get_or more i d → start ++ more ≡ (start ++ take i more) ++ (e ∷ drop (i + 1) more)
  whole i d e within is =
      ap (λ (z : List Entry). start ++ z) (sym (take-append-drop (i + 1) more))
      ∙ (sym (append_assoc start (take (i + 1) more) (drop (i + 1) more))
      ∙ (ap (λ (z : List Entry). z ++ drop (i + 1) more) (turn_next i d e within is) ∙ append_assoc (start ++ take i more) (e ∷ []) (drop (i + 1) more)))

  pub turn_stands : (i : ℕ) (d e : Entry) (end : LogEnd) → IsEnd schema (start ++ take i more) end → i < length more → e ≡ get_or more i d
      → StandsAt schema end.place e
  turn_stands i d e end is within here =
      subst (λ (p : Place). StandsAt schema p e) (sym is.place_is)
      (stand_behind schema first_place [] (start ++ take i more) (e ∷ drop (i + 1) more) (subst (AllStand schema first_place []) (whole i d e within here) written.stand)).0

  pub turn_counted : (i : ℕ) (end : LogEnd) → IsEnd schema (start ++ take i more) end → end.place.sequence + 1 < 2 ^ 64
  turn_counted i end is =
      let few : end.place.sequence ≤ 1 + length (start ++ take i more) = subst (λ (p : Place). p.sequence ≤ 1 + length (start ++ take i more)) (sym is.place_is) (few_counted schema (start ++ take i more)) in
      omega (arith, few, written.is_log.short, length-append start more, length-append start (take i more), length-take i more)

  pub turn_end : (i : ℕ) (d e : Entry) (old new : LogEnd) → i < length more → e ≡ get_or more i d
      → IsEnd schema (start ++ take i more) old → ((log : List Entry) → IsEnd schema log old → IsEnd schema (log ++ e ∷ []) new) → IsEnd schema (start ++ take (i + 1) more) new
  turn_end i d e old new within is end put = subst (λ (z : List Entry). IsEnd schema z new) (sym (turn_next i d e within is)) (put (start ++ take i more) end)

  pub turn_files : (i : ℕ) (d e : Entry) (end : LogEnd) (old new : List (List ℕ)) → i < length more → e ≡ get_or more i d
      → IsEnd schema (start ++ take i more) end
      → old ≡ added schema start (take i more) → new ≡ continued old (files_from schema end.place (start ++ take i more) (e ∷ [])) → new ≡ added schema start (take (i + 1) more)
  turn_files i d e end old new within is at so_far next =
      let front = take i more in
      let there : end.place ≡ place_from schema (end_of schema start) start front = at.place_is ∙ place_append schema first_place [] start front in
      next
      ∙ (ap (λ (z : List (List ℕ)). continued z (files_from schema end.place (start ++ front) (e ∷ []))) so_far
      ∙ (ap (λ (p : Place). continued (added schema start front) (files_from schema p (start ++ front) (e ∷ []))) there
      ∙ (sym (from_place schema (end_of schema start) start front (e ∷ []))
      ∙ ap (files_from schema (end_of schema start) start) (sym ((take_at_read more i d within).1 ∙ ap (λ (z : Entry). front ++ z ∷ []) (sym is))))))
