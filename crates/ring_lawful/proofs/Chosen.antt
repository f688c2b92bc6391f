-- In every world of every run the chosen sequence, and each node's log, is valid and has no GTID twice: locks and checks keep a write apart from what is not applied yet, and its number is above its server's others.
use Rattle.std.proofs.Common.{◌≡◌, ℕ, [], ◌∷◌, ◌++◌, ◌∙◌, if◌then◌else◌, Bool, List, None, Option, Some, ap, drop, false, length, not, refl, subst, true}
use Rattle.std.specs.Prelude.{is_none, nat_le, nat_lt}
use Rattle.std.specs.List.{list_any}
use Rattle.ring_types.specs.declared.entries.Entry.{Entry}
use Rattle.ring_types.specs.declared.entries.Pair.{Pair}
use Rattle.ring_types.specs.declared.entries.Payload.TheVariants as payload
use Rattle.ring_types.specs.declared.values.Change.{Change}
use Rattle.ring_types.specs.declared.values.RowRefusal.{RowRefusal}
use Rattle.ring_types.specs.Gtids.{next_number}
use Rattle.ring_types.specs.Rings.{IsRing, Layout, runs_engine, server_of}
use Rattle.ring_types.specs.Rows.{check, is_valid, rows}
use Rattle.ring_types.specs.Sizes.{group_limit, group_size}
use Rattle.ring_model.specs.declared.effects.Cause.{Cause}
use Rattle.ring_model.specs.declared.effects.Cause.TheVariants as cause
use Rattle.ring_model.specs.declared.nodes.Durable.{Durable}
use Rattle.ring_model.specs.declared.nodes.Soft.{Soft}
use Rattle.ring_model.specs.Actions.{is_held, pairs_in}
use Rattle.ring_model.specs.Nodes.{is_leader, is_ready}
use Rattle.ring_model.specs.Runs.{IsRun, Move, world}
use Rattle.ring_model.specs.Safety.{ChosenIsValid, EveryRunAppliesChosen, EveryRunIsSafe}
use Rattle.ring_model.specs.Writes.{change_refusal, committed_rows, is_exhausted, is_handing, length_limit, lock_of, lock_refusal, size_refusal, write_entry, write_refusal, write_txn}
use Rattle.ring_types.proofs.Booleans.{both_false}
use Rattle.ring_model.proofs.Runs.{safe_logs}
use Rattle.ring_lawful.specs.Lawful.{EveryLogIsValid, EveryRunChoosesValid}
use Rattle.ring_lawful.proofs.Books.{IsKept, chosen_holds, logs_hold}
use Rattle.ring_lawful.proofs.EngineOwn.{write_holds, write_is_ready}
use Rattle.ring_lawful.proofs.EngineSteps.{EngineRuns}
use Rattle.ring_lawful.proofs.ValidLogs.{none_valid, valid_plain, valid_take, valid_write}
use Rattle.ring_lawful.proofs.Numbers.{Once, none_once, once_plain, once_take, once_write}
use Rattle.ring_lawful.proofs.Pairs.{between_all}
use Rattle.ring_lawful.proofs.EveryRun.{prepared_agrees}

-- ---- what a write that is not refused passed
-- its changes are accepted by the applied rows, and its server has a next number
record Passed (ring : Layout) (me : ℕ) (d : Durable) (changes : List Change) : Type 0 where
  accepted : check ring.schema (committed_rows ring d) changes ≡ None
  number : is_none (next_number (server_of ring me) d.log) ≡ false

sizes_passed : (ring : Layout) (me : ℕ) (d : Durable) (changes : List Change) → size_refusal ring me d changes ≡ None
    → is_none (next_number (server_of ring me) d.log) ≡ false
sizes_passed ring me d changes is = go (nat_lt group_limit (group_size ring.schema (payload.Txn (write_txn ring me d changes)))) (is_exhausted ring me d) refl is
  where
    go : (a b : Bool) → is_exhausted ring me d ≡ b
        → (if a then Some (cause.TooLarge (group_size ring.schema (payload.Txn (write_txn ring me d changes)))) else (if b then Some cause.Exhausted else None)) ≡ None
        → is_none (next_number (server_of ring me) d.log) ≡ false
    go true b y is = absurd cc
    go false true y is = absurd cc
    go false false y is = (both_false (is_none (next_number (server_of ring me) d.log)) (nat_le length_limit (length d.log)) y).0

locks_passed : (ring : Layout) (me : ℕ) (d : Durable) (changes : List Change) → lock_refusal ring me d changes ≡ None
    → is_none (next_number (server_of ring me) d.log) ≡ false
locks_passed ring me d changes is = go (lock_of d.prepared changes) is
  where
    go : (o : Option Cause) → ◌≡◌ {A = Option Cause} (elim o [ Some c ↦ Some c | None ↦ size_refusal ring me d changes ]) None
        → is_none (next_number (server_of ring me) d.log) ≡ false
    go (Some c) is = absurd cc
    go None is = sizes_passed ring me d changes is

changes_passed : (ring : Layout) (me : ℕ) (d : Durable) (changes : List Change) → change_refusal ring me d changes ≡ None → Passed ring me d changes
changes_passed ring me d changes is = go (check ring.schema (committed_rows ring d) changes) refl is
  where
    go : (o : Option RowRefusal) → check ring.schema (committed_rows ring d) changes ≡ o
        → ◌≡◌ {A = Option Cause} (elim o [ Some r ↦ Some (cause.Invalid r) | None ↦ lock_refusal ring me d changes ]) None → Passed ring me d changes
    go (Some r) x is = absurd cc
    go None x is = record { accepted = x; number = locks_passed ring me d changes is }

write_passed : (ring : Layout) (me : ℕ) (d : Durable) (s : Soft) (changes : List Change) → write_refusal ring me d s changes ≡ None → Passed ring me d changes
unfolding write_refusal
write_passed ring me d s changes is = go (is_leader s.role) (is_ready s) (runs_engine ring me) (is_handing s.transfer) is
  where
    go : (a b c e : Bool)
        → ◌≡◌ {A = Option Cause} (if not a then Some cause.NotLeader else (if not b then Some cause.NotReady else (if not c then Some cause.NoEngine else (if e then Some cause.Transferring else change_refusal ring me d changes)))) None
        → Passed ring me d changes
    go false b c e is = absurd cc
    go true false c e is = absurd cc
    go true true false e is = absurd cc
    go true true true true is = absurd cc
    go true true true false is = changes_passed ring me d changes is

-- ---- the property
abbrev pub IsGood : Layout → List Entry → Type 0
IsGood ring l = (is_valid ring.schema l ≡ true) × Once l

write_good : (ring : Layout) (id : ℕ) (d : Durable) (s : Soft) (changes : List Change) → write_refusal ring id d s changes ≡ None
    → (runs_engine ring id ≡ true → EngineRuns d s) → IsGood ring d.log → IsGood ring (d.log ++ write_entry ring id d changes ∷ [])
write_good ring id d s changes is runs x =
    let ready = write_is_ready ring id d s changes is in
    let p = write_passed ring id d s changes is in
    let pairs : d.prepared ≡ pairs_in (drop d.applied d.log) = ((runs ready.1).all ready.0).prepared ∙ ap pairs_in (between_all d.log d.applied) in
    let free : list_any (is_held (pairs_in (drop d.applied d.log))) changes ≡ false = subst (λ (ps : List Pair). list_any (is_held ps) changes ≡ false) pairs (write_holds ring id d s changes is) in (
      valid_write ring.schema d.log d.applied (write_entry ring id d changes) (write_txn ring id d changes) refl x.0 p.accepted free,
      once_write d.log (write_entry ring id d changes) (write_txn ring id d changes) (server_of ring id) refl refl p.number x.1,
    )

good_kept : (ring : Layout) → IsKept ring (IsGood ring)
good_kept ring = record {
  none = (none_valid ring.schema, none_once);
  begins = λ n l x. (valid_take ring.schema n l x.0, once_take n l x.1);
  plain = λ l e none x. (valid_plain ring.schema l e none x.0, once_plain l e none x.1);
  writes = write_good ring;
}

-- ---- the facts
chosen_is_valid : (ring : Layout) (run : List Move) → IsRing ring → IsRun ring run → ChosenIsValid ring (world ring run)
chosen_is_valid ring run valid is = let x = chosen_holds ring (IsGood ring) (good_kept ring) run valid is in record { accepted = x.0; gtids_once = x.1 }

pub every_run_chooses_valid : EveryRunChoosesValid
every_run_chooses_valid ring run valid is = chosen_is_valid ring run valid is

pub every_log_is_valid : EveryLogIsValid
every_log_is_valid ring run valid is id = logs_hold ring (IsGood ring) (good_kept ring) run valid is id

-- all seven facts, and what committed entries are to later leaders
pub every_run_is_safe : EveryRunIsSafe
every_run_is_safe ring run valid is =
    let x = safe_logs ring run valid in
    record {
      applied_prefix = x.applied_prefix;
      told_stands = x.told_stands;
      one_leader_a_term = x.one_leader_a_term;
      prepared_agrees = prepared_agrees ring run is;
      chosen_is_valid = chosen_is_valid ring run valid is;
      logs_match = x.logs_match;
      chosen_grows = x.chosen_grows;
      leaders_have = x.leaders_have;
    }

-- each engine's rows are those of a prefix of the chosen sequence
pub every_run_applies_chosen : EveryRunAppliesChosen
every_run_applies_chosen ring run valid is =
    let x = every_run_is_safe ring run valid is in
    record {
      rows_are = λ id. ap (rows ring.schema) (x.applied_prefix.applied id).same;
      accepted = λ id. valid_take ring.schema ((world ring run).nodes id).durable.applied (world ring run).chosen x.chosen_is_valid.accepted;
    }
