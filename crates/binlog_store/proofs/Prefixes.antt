-- A prefix of a log that files can have is one too: what is asked of an entry asks of those before it alone.
use Rattle.std.proofs.Common.{◌≡◌, ℕ, zero, suc, ◌≤◌, List, [], ◌∷◌, ◌++◌, length, take, drop, Some, refl, sym, ap, subst, ◌∙◌, arith, take-append-drop}
use Rattle.std.specs.Prelude.{slice_get}
use Rattle.std.proofs.lemmas.List.{get_or_append_left, length-append}
use Rattle.std.proofs.lemmas.Option.{slice_get-get_or, slice_get_within}
use Rattle.ring_types.specs.declared.entries.Entry.{Entry}
use Rattle.ring_types.specs.declared.entries.Place.{Place}
use Rattle.ring_types.specs.declared.schemas.Schema.{Schema}
use Rattle.ring_types.specs.Logs.{IsLog, entry_at, term_at}
use Rattle.entry_group.specs.Files.{first_place, place_behind}
use Rattle.entry_group.specs.Laws.{AllStand}
use Rattle.binlog_store.specs.Stands.{IsWritten}
use Rattle.binlog_store.proofs.Counts.{count_added, count_files, some_added}

got_still : (log more : List Entry) (k : ℕ) (e : Entry) → slice_get log k ≡ Some e → slice_get (log ++ more) k ≡ Some e
got_still log more k e is =
    let within = slice_get_within log k e is in
    slice_get-get_or (log ++ more) k e (omega (arith, within, length-append log more))
    ∙ (ap Some (get_or_append_left log more e k within) ∙ (sym (slice_get-get_or log k e within) ∙ is))

at_still : (log more : List Entry) (k : ℕ) (e : Entry) → entry_at log k ≡ Some e → entry_at (log ++ more) k ≡ Some e
at_still log more zero e is = is
at_still log more (suc k) e is = got_still log more k e is

pub term_still : (log more : List Entry) (k : ℕ) → k ≤ length log → term_at (log ++ more) k ≡ term_at log k
term_still log more zero le = refl
term_still [] more (suc k) le = absurd (omega (arith, le))
term_still (e ∷ log) more (suc zero) le = refl
term_still (e ∷ log) more (suc (suc k)) le = term_still log more (suc k) (omega (arith, le))

stand_still : (schema : Schema) (p : Place) (before log more : List Entry) → AllStand schema p before (log ++ more) → AllStand schema p before log
stand_still schema p before [] more h = tt
stand_still schema p before (e ∷ log) more h = (h.0, stand_still schema (place_behind schema before e p) (before ++ e ∷ []) log more h.1)

log_still : (schema : Schema) (log more : List Entry) → IsLog (log ++ more) → IsLog log
log_still schema log more is = record {
  placed = λ k e at. is.placed k e (at_still log more k e at);
  rises = λ j k le within.
      let less = is.rises j k le (omega (arith, within, length-append log more)) in
      let first = term_still log more j (omega (arith, le, within)) in
      let second = term_still log more k within in
      omega (arith, less, first, second);
  short = omega (arith, is.short, length-append log more);
  few_files = omega (arith, is.few_files, count_files schema log, count_files schema (log ++ more), count_added schema log more, some_added schema log more);
}

pub written_still : (schema : Schema) (log more : List Entry) → IsWritten schema (log ++ more) → IsWritten schema log
written_still schema log more is = record { is_log = log_still schema log more is.is_log; stand = stand_still schema first_place [] log more is.stand }

pub written_first : (schema : Schema) (n : ℕ) (log : List Entry) → IsWritten schema log → IsWritten schema (take n log)
written_first schema n log is = written_still schema (take n log) (drop n log) (subst (IsWritten schema) (sym (take-append-drop n log)) is)
