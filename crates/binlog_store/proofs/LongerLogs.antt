-- An entry of the next position, of no lower term, and within the limits makes a longer log of a log.
use Rattle.std.proofs.Common.{◌≡◌, ℕ, zero, suc, ◌+◌, ◌-◌, ◌^◌, ◌<◌, ◌≤◌, ◌⊎◌, inl, inr, ⊎_elim, true, List, [], ◌∷◌, ◌++◌, length, get_or, Some, refl, sym, ap, subst, ◌∙◌, arith, cond}
use Rattle.std.specs.Prelude.{slice_get}
use Rattle.std.proofs.lemmas.List.{get_or_append_left, length-append}
use Rattle.std.proofs.lemmas.List.Sums.{sum_by-append, sum_by-cons}
use Rattle.std.proofs.lemmas.Option.{get_or_from_slice_get, slice_get-get_or, slice_get_within}
use Rattle.std.proofs.Math.Seq.{get_or-append_seam}
use Rattle.std.proofs.Math.Nat.{eq-or-lt_of_le}
use Rattle.ring_types.specs.declared.entries.Entry.{Entry}
use Rattle.ring_types.specs.declared.entries.Payload.{Payload}
use Rattle.ring_types.specs.declared.entries.Payload.TheVariants as payload
use Rattle.ring_types.specs.declared.entries.Place.{Place}
use Rattle.ring_types.specs.declared.limits.TheConstants.{LAST_FILE}
use Rattle.ring_types.specs.declared.schemas.Schema.{Schema}
use Rattle.std.proofs.lemmas.Bool.Decides.{nat_tests}
use Rattle.entry_group.specs.Files.{first_place, place_behind}
use Rattle.entry_group.specs.Groups.{can_stand, kind_of}
use Rattle.entry_group.specs.Laws.{AllStand, StandsAt}
use Rattle.binlog_store.specs.Added.{end_of, place_from}
use Rattle.binlog_store.specs.Held.{IsEnd}
use Rattle.binlog_store.specs.Stands.{IsWritten}
use Rattle.binlog_store.specs.declared.ends.LogEnd.{LogEnd}
use Rattle.binlog_store.proofs.Counts.{count_files, few_counted}
use Rattle.binlog_store.proofs.NextPlaces.{next_begins_at_the_end}
use Rattle.ring_types.specs.Logs.{IsLog, entry_at, is_rotate, rotates, term_at}
use Rattle.binlog_store.specs.Following.{FollowsLog}
use Rattle.binlog_store.proofs.Prefixes.{term_still}

got_last : (log : List Entry) (e x : Entry) (i : ℕ) → slice_get (log ++ e ∷ []) i ≡ Some x → (slice_get log i ≡ Some x) ⊎ ((i ≡ length log) × (x ≡ e))
got_last log e x i is =
    let within : i ≤ length log = omega (arith, slice_get_within (log ++ e ∷ []) i x is, length-append log (e ∷ [])) in
    let read : get_or (log ++ e ∷ []) i x ≡ x = get_or_from_slice_get (log ++ e ∷ []) i x x is in
    ⊎_elim (λ (at : i ≡ length log). inr (at, sym read ∙ (ap (λ (k : ℕ). get_or (log ++ e ∷ []) k x) at ∙ get_or-append_seam log e [] x)))
    (λ (less : i < length log). inl (slice_get-get_or log i x less ∙ ap Some (sym (get_or_append_left log (e ∷ []) x i less) ∙ read)))
    (eq-or-lt_of_le within)

placed_next : (log : List Entry) (e : Entry) → IsLog log → FollowsLog log e → (k : ℕ) (x : Entry) → entry_at (log ++ e ∷ []) k ≡ Some x → x.opid.position ≡ k
placed_next log e is next zero x at = absurd cc
placed_next log e is next (suc k) x at =
    ⊎_elim (λ (old : slice_get log k ≡ Some x). is.placed (suc k) x old)
    (λ (new : (k ≡ length log) × (x ≡ e)). let here : e.opid.position ≡ length log + 1 = next.position in
    let same : x.opid.position ≡ e.opid.position = ap (λ (y : Entry). y.opid.position) new.1 in
    omega (arith, here, same, new.0))
    (got_last log e x k at)

pub term_last : (log : List Entry) (e : Entry) → term_at (log ++ e ∷ []) (suc (length log)) ≡ e.opid.term
term_last [] e = refl
term_last (x ∷ log) e = term_last_of log e
  where
    term_last_of : (log : List Entry) (e : Entry) → term_at (log ++ e ∷ []) (suc (length log)) ≡ e.opid.term
    term_last_of [] e = refl
    term_last_of (y ∷ log) e = term_last_of log e

rises_next : (log : List Entry) (e : Entry) → IsLog log → FollowsLog log e → (j k : ℕ) → j ≤ k → k ≤ length (log ++ e ∷ [])
    → term_at (log ++ e ∷ []) j ≤ term_at (log ++ e ∷ []) k
rises_next log e is next j k le within =
    ⊎_elim at_end inside (eq-or-lt_of_le within)
  where
    many : length (log ++ e ∷ []) ≡ length log + 1
    many = length-append log (e ∷ [])

    before : (i m : ℕ) → i ≤ m → m ≤ length log → term_at (log ++ e ∷ []) i ≤ term_at (log ++ e ∷ []) m
    before i m le short =
        let less = is.rises i m le short in
        omega (arith, less, term_still log (e ∷ []) i (omega (arith, le, short)), term_still log (e ∷ []) m short)

    inside : k < length (log ++ e ∷ []) → term_at (log ++ e ∷ []) j ≤ term_at (log ++ e ∷ []) k
    inside less = before j k le (omega (arith, less, many))

    at_end : k ≡ length (log ++ e ∷ []) → term_at (log ++ e ∷ []) j ≤ term_at (log ++ e ∷ []) k
    at_end end =
        let k_is : k ≡ suc (length log) = omega (arith, end, many) in
        let top : term_at (log ++ e ∷ []) k ≡ e.opid.term = ap (term_at (log ++ e ∷ [])) k_is ∙ term_last log e in
        ⊎_elim (λ (same : j ≡ k). subst (λ (i : ℕ). term_at (log ++ e ∷ []) i ≤ term_at (log ++ e ∷ []) k) (sym same) (omega arith))
        (λ (less : j < k).
        let short : j ≤ length log = omega (arith, less, k_is) in
        let up = before j (length log) short (omega arith) in
        let last_is = term_still log (e ∷ []) (length log) (omega arith) in
        omega (arith, up, last_is, next.term, top))
        (eq-or-lt_of_le le)

rotates_next : (log : List Entry) (e : Entry) → rotates (log ++ e ∷ []) ≡ rotates log + cond (is_rotate e) 1 0
rotates_next log e =
    let whole : rotates (log ++ e ∷ []) ≡ rotates log + rotates (e ∷ []) = sum_by-append (λ (x : Entry). cond (is_rotate x) 1 0) log (e ∷ []) in
    let one : rotates (e ∷ []) ≡ cond (is_rotate e) 1 0 + rotates [] = sum_by-cons (λ (x : Entry). cond (is_rotate x) 1 0) e [] in
    let none : rotates [] ≡ 0 = refl in
    omega (arith, whole, one, none)

pub log_next : (log : List Entry) (e : Entry) → IsLog log → FollowsLog log e → rotates log + cond (is_rotate e) 1 0 ≤ LAST_FILE - 1 → IsLog (log ++ e ∷ [])
log_next log e is next room = record {
  placed = placed_next log e is next;
  rises = rises_next log e is next;
  short = omega (arith, next.short, length-append log (e ∷ []));
  few_files = omega (arith, room, rotates_next log e);
}

-- ---- one entry more stands
stand_more : (schema : Schema) (p : Place) (before log : List Entry) (e : Entry) → AllStand schema p before log
    → StandsAt schema (place_from schema p before log) e
    → AllStand schema p before (log ++ e ∷ [])
stand_more schema p before [] e h stands = (stands, tt)
stand_more schema p before (x ∷ log) e h stands = (h.0, stand_more schema (place_behind schema before x p) (before ++ x ∷ []) log e h.1 stands)

-- a Rotate stands only where another file may be
rotate_fits : (schema : Schema) (p : Place) (e : Entry) (q : Payload) (n : ℕ) → e.payload ≡ q → can_stand schema p (kind_of q) ≡ true → p.file ≡ n + 1
    → n ≤ LAST_FILE - 1
    → n + cond (is_rotate e) 1 0 ≤ LAST_FILE - 1
rotate_fits schema p e payload.NoOp n is room at few = rw is (omega (arith, few))
rotate_fits schema p e payload.Rotate n is room at few = rw is (grind (arith, nat_tests, room, at))
rotate_fits schema p e (payload.Txn t) n is room at few = rw is (omega (arith, few))

pub written_at : (schema : Schema) (log : List Entry) (e : Entry) → IsWritten schema log → FollowsLog log e → StandsAt schema (end_of schema log) e
    → IsWritten schema (log ++ e ∷ [])
written_at schema log e written next stands =
    let at : (end_of schema log).file ≡ rotates log + 1 = omega (arith, count_files schema log, (next_begins_at_the_end schema log).0) in
    record {
      is_log = log_next log e written.is_log next (rotate_fits schema (end_of schema log) e e.payload (rotates log) refl stands.room at written.is_log.few_files);
      stand = stand_more schema first_place [] log e written.stand stands;
    }

pub written_next : (schema : Schema) (log : List Entry) (e : Entry) (end : LogEnd) → IsEnd schema log end → IsWritten schema log → FollowsLog log e
    → StandsAt schema end.place e
    → IsWritten schema (log ++ e ∷ [])
written_next schema log e end is written next stands = written_at schema log e written next (subst (λ (p : Place). StandsAt schema p e) is.place_is stands)

pub next_counted : (schema : Schema) (log : List Entry) (end : LogEnd) → IsEnd schema log end → IsWritten schema log → end.place.sequence + 1 < 2 ^ 64
next_counted schema log end is written =
    let few : end.place.sequence ≤ 1 + length log = subst (λ (p : Place). p.sequence ≤ 1 + length log) (sym is.place_is) (few_counted schema log) in
    omega (arith, few, written.is_log.short)
