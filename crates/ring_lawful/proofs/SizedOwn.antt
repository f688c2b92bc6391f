-- A leader's own entries fit, for a write or a rotation that would go beyond a limit is refused.
use Rattle.std.proofs.Common.{◌≡◌, ℕ, ◌+◌, ◌-◌, ◌^◌, ◌<◌, ◌≤◌, ◌==◌, ◌&&◌, [], ◌∷◌, ◌∙◌, if◌then◌else◌, Bool, List, None, Option, Some, ap, arith, false, length, not, refl, suc, sym, true}
use Rattle.std.proofs.lemmas.Bool.Decides.{nat_tests}
use Rattle.std.specs.Prelude.{min, nat_le, nat_lt}
use Rattle.std.specs.List.{list_all}
use Rattle.ring_types.specs.declared.limits.TheConstants.{LAST_FILE, TERM_END}
use Rattle.ring_types.specs.declared.entries.Entry.{Entry}
use Rattle.ring_types.specs.declared.entries.Payload.TheVariants as payload
use Rattle.ring_types.specs.declared.values.Change.{Change}
use Rattle.ring_types.specs.Rings.{Layout, runs_engine}
use Rattle.ring_types.specs.Rows.{change_fits, check, is_number, payload_fits}
use Rattle.ring_types.specs.Gtids.{greatest_number}
use Rattle.ring_types.specs.Rings.{server_of}
use Rattle.ring_types.specs.Logs.{rotates}
use Rattle.ring_types.specs.Sizes.{group_bytes, group_limit, group_size}
use Rattle.ring_model.specs.declared.effects.Action.TheVariants as action
use Rattle.ring_model.specs.declared.effects.Cause.{Cause}
use Rattle.ring_model.specs.declared.effects.Cause.TheVariants as cause
use Rattle.ring_types.specs.declared.values.RowRefusal.{RowRefusal}
use Rattle.ring_model.specs.declared.messages.AppendReply.{AppendReply}
use Rattle.ring_model.specs.declared.messages.Body.TheVariants as body
use Rattle.ring_model.specs.declared.nodes.Durable.{Durable}
use Rattle.ring_model.specs.declared.nodes.Peer.{Peer}
use Rattle.ring_model.specs.declared.nodes.Role.{Role}
use Rattle.ring_model.specs.declared.nodes.Role.TheVariants.{Candidate, Follower, Leader}
use Rattle.ring_model.specs.declared.nodes.Soft.{Soft}
use Rattle.ring_model.specs.declared.nodes.Transfer.{Transfer}
use Rattle.ring_model.specs.declared.nodes.Transfer.TheVariants as transfer
use Rattle.ring_model.specs.Nodes.{is_leader, is_ready}
use Rattle.ring_model.specs.Replication.{counts, file_limit, file_number, heard_among, leader_hears, on_ack}
use Rattle.ring_model.specs.Steps.{demoted, idle, own_entry, stepped, unknowns}
use Rattle.ring_model.specs.Transfers.{after_ok, has_matched, on_answer, with_more}
use Rattle.ring_model.specs.Writes.{awaits, change_refusal, committed_rows, is_exhausted, is_handing, length_limit, lock_of, lock_refusal, refused, rotate, rotate_refusal, rotate_step, size_refusal, write, write_entry, write_entry_step, write_refusal, write_txn}
use Rattle.ring_types.proofs.Booleans.{both_false, both_true}
use Rattle.ring_lawful.proofs.Payloads.{checked_fit, number_fits}
use Rattle.ring_lawful.proofs.Sized.{AllFit, Sized, fit_join, rotates_is, turns}
use Rattle.ring_lawful.proofs.SizedSteps.{IsShort, Keeps, advance_keeps, idle_keeps, own_fits, quiet_keeps, raise_keeps}

-- ---- a leader's answers
leads_is : (s : Soft) → is_leader s.role ≡ true → s.role ≡ Leader
leads_is s is = go s.role refl
  where
    go : (r : Role) → s.role ≡ r → s.role ≡ Leader
    go Follower x = absurd (let z : false ≡ true = sym (ap is_leader x) ∙ is in cc)
    go Candidate x = absurd (let z : false ≡ true = sym (ap is_leader x) ∙ is in cc)
    go Leader x = x

ack_keeps : (ring : Layout) (me from : ℕ) (answer : AppendReply) (d : Durable) (s : Soft) → Sized ring d → IsShort d s → answer.term < TERM_END
    → Keeps ring d (on_ack ring me d s from answer)
unfolding on_ack
ack_keeps ring me from answer d s sized short fits = go (nat_lt d.term answer.term) refl (counts d s answer) refl
  where
    go : (a : Bool) → nat_lt d.term answer.term ≡ a → (b : Bool) → counts d s answer ≡ b
        → Keeps ring d (if a then stepped (action.SetTerm answer.term ∷ []) [] (unknowns s) (demoted s) else (if b then leader_hears ring me d s from answer else idle s))
    go true x b y = raise_keeps ring answer.term d s [] (unknowns s) (grind (arith, nat_tests, x)) fits tt
    go false x true y =
        advance_keeps ring me d (record s { peers = heard_among s.peers from answer.ok answer.position }) [] [] sized tt
        (leads_is s (both_true (is_leader s.role) (answer.term == d.term) (both_true (is_leader s.role && answer.term == d.term) (nat_le answer.position (length d.log)) y).0).0)
    go false x false y = idle_keeps ring d s short

over_fit : (ring : Layout) (me from : ℕ) (d : Durable) (peers : List Peer) (t : Transfer) → AllFit ring (after_ok me d peers from t)
over_fit ring me from d peers transfer.Off = tt
over_fit ring me from d peers (transfer.Mock target round client) = tt
over_fit ring me from d peers (transfer.Handing target client) = go (target == from) (has_matched peers target (length d.log))
  where
    go : (a b : Bool) → AllFit ring (if a then (if b then record { from = me; to = target; body = body.TimeoutNow d.term } ∷ [] else []) else [])
    go true true = (tt, tt)
    go true false = tt
    go false b = tt

pub answered_keeps : (ring : Layout) (me from : ℕ) (answer : AppendReply) (d : Durable) (s : Soft) → Sized ring d → IsShort d s → answer.term < TERM_END
    → Keeps ring d (on_answer ring me d s from answer)
unfolding on_answer
answered_keeps ring me from answer d s x short fits = go (counts d s answer && answer.ok)
  where
    b : Keeps ring d (on_ack ring me d s from answer)
    b = ack_keeps ring me from answer d s x short fits

    go : (a : Bool) → Keeps ring d (if a then with_more (on_ack ring me d s from answer) (after_ok me d (on_ack ring me d s from answer).soft.peers from s.transfer) else on_ack ring me d s from answer)
    go true = record {
      allowed = b.allowed;
      short = b.short;
      sent = fit_join ring (on_ack ring me d s from answer).plan.messages (after_ok me d (on_ack ring me d s from answer).soft.peers from s.transfer) b.sent (over_fit ring me from d (on_ack ring me d s from answer).soft.peers s.transfer);
    }
    go false = b

-- ---- own entries
record MayWrite (ring : Layout) (me : ℕ) (d : Durable) (s : Soft) (changes : List Change) : Type 0 where
  leads : s.role ≡ Leader
  small : group_bytes ring.schema (payload.Txn (write_txn ring me d changes)) ≤ group_limit
  short : suc (length d.log) < TERM_END
  fits : payload_fits ring.schema (payload.Txn (write_txn ring me d changes)) ≡ true

small_is : (n : ℕ) → nat_lt group_limit (min n (2 ^ 64 - 1)) ≡ false → n ≤ group_limit
small_is n is = grind (arith, nat_tests, is)

short_is : (n : ℕ) → nat_le (TERM_END - 1) n ≡ false → suc n < TERM_END
short_is n is = grind (arith, nat_tests, is)

sizes_fit : (ring : Layout) (me : ℕ) (d : Durable) (changes : List Change) → size_refusal ring me d changes ≡ None
    → (group_bytes ring.schema (payload.Txn (write_txn ring me d changes)) ≤ group_limit) × (suc (length d.log) < TERM_END) × (is_number (write_txn ring me d changes).gtid.number ≡ true)
sizes_fit ring me d changes is = go (nat_lt group_limit (group_size ring.schema (payload.Txn (write_txn ring me d changes)))) refl (is_exhausted ring me d) refl is
  where
    go : (a : Bool) → nat_lt group_limit (group_size ring.schema (payload.Txn (write_txn ring me d changes))) ≡ a → (b : Bool) → is_exhausted ring me d ≡ b
        → (if a then Some (cause.TooLarge (group_size ring.schema (payload.Txn (write_txn ring me d changes)))) else (if b then Some cause.Exhausted else None)) ≡ None
        → (group_bytes ring.schema (payload.Txn (write_txn ring me d changes)) ≤ group_limit) × (suc (length d.log) < TERM_END) × (is_number (write_txn ring me d changes).gtid.number ≡ true)
    go true x b y is = absurd cc
    go false x true y is = absurd cc
    go false x false y is =
        let room = both_false _ (nat_le length_limit (length d.log)) y in (
          small_is (group_bytes ring.schema (payload.Txn (write_txn ring me d changes))) x,
          short_is (length d.log) room.1,
          number_fits (greatest_number (server_of ring me) d.log) room.0,
        )

lock_asked : (ring : Layout) (me : ℕ) (d : Durable) (changes : List Change) → lock_refusal ring me d changes ≡ None → size_refusal ring me d changes ≡ None
lock_asked ring me d changes is = go (lock_of d.prepared changes) is
  where
    go : (o : Option Cause) → ◌≡◌ {A = Option Cause} (elim o [ Some c ↦ Some c | None ↦ size_refusal ring me d changes ]) None
        → size_refusal ring me d changes ≡ None
    go (Some c) is = absurd cc
    go None is = is

change_asked : (ring : Layout) (me : ℕ) (d : Durable) (changes : List Change) → change_refusal ring me d changes ≡ None → size_refusal ring me d changes ≡ None
change_asked ring me d changes is = go (check ring.schema (committed_rows ring d) changes) is
  where
    go : (o : Option RowRefusal) → ◌≡◌ {A = Option Cause} (elim o [ Some r ↦ Some (cause.Invalid r) | None ↦ lock_refusal ring me d changes ]) None
        → size_refusal ring me d changes ≡ None
    go (Some r) is = absurd cc
    go None is = lock_asked ring me d changes is

change_checked : (ring : Layout) (me : ℕ) (d : Durable) (changes : List Change) → change_refusal ring me d changes ≡ None
    → check ring.schema (committed_rows ring d) changes ≡ None
change_checked ring me d changes is = go (check ring.schema (committed_rows ring d) changes) refl is
  where
    go : (o : Option RowRefusal) → check ring.schema (committed_rows ring d) changes ≡ o
        → ◌≡◌ {A = Option Cause} (elim o [ Some r ↦ Some (cause.Invalid r) | None ↦ lock_refusal ring me d changes ]) None
        → check ring.schema (committed_rows ring d) changes ≡ None
    go (Some r) x is = absurd cc
    go None x is = x

all_three : (a b c : Bool) → a ≡ true → b ≡ true → c ≡ true → ((a && b) && c) ≡ true
all_three a b c x y z = rw (x, y, z) refl

may_write : (ring : Layout) (me : ℕ) (d : Durable) (s : Soft) (changes : List Change) → nat_lt 0 (length changes) ≡ true
    → write_refusal ring me d s changes ≡ None → MayWrite ring me d s changes
unfolding write_refusal
may_write ring me d s changes some is = go (is_leader s.role) refl (is_ready s) (runs_engine ring me) (is_handing s.transfer) is
  where
    go : (a : Bool) → is_leader s.role ≡ a → (b c e : Bool)
        → (if not a then Some cause.NotLeader else (if not b then Some cause.NotReady else (if not c then Some cause.NoEngine else (if e then Some cause.Transferring else change_refusal ring me d changes)))) ≡ None → MayWrite ring me d s changes
    go false x b c e is = absurd cc
    go true x false c e is = absurd cc
    go true x true false e is = absurd cc
    go true x true true true is = absurd cc
    go true x true true false is =
        let y = sizes_fit ring me d changes (change_asked ring me d changes is) in
        let c = checked_fit ring.schema (committed_rows ring d) changes (change_checked ring me d changes is) in
        let a : nat_le 1 (length changes) ≡ true = grind (arith, nat_tests, some) in
        let n = y.2 in
        record {
          leads = leads_is s x;
          small = y.0;
          short = y.1;
          fits = all_three (nat_le 1 (length changes)) (list_all (change_fits ring.schema) changes) (is_number (write_txn ring me d changes).gtid.number) a c n;
        }

pub write_keeps : (ring : Layout) (me client : ℕ) (changes : List Change) (d : Durable) (s : Soft) → nat_lt 0 (length changes) ≡ true → Sized ring d
    → IsShort d s → Keeps ring d (write ring me d s client changes)
unfolding write
write_keeps ring me client changes d s some x short = go (write_refusal ring me d s changes) refl
  where
    go : (c : Option Cause) → write_refusal ring me d s changes ≡ c
        → Keeps ring d (elim c [ Some c ↦ refused s client c | None ↦ write_entry_step ring me d s client (write_txn ring me d changes) (write_entry ring me d changes) ])
    go (Some c) is = quiet_keeps ring d s s [] _ short refl tt
    go None is =
        let m = may_write ring me d s changes some is in
        let e : Entry = write_entry ring me d changes in
        let n = x.files in
        advance_keeps ring me d (awaits s client e (write_txn ring me d changes).gtid)
        (action.Prepare (record { opid = e.opid; txn = write_txn ring me d changes }) ∷ action.Append (e ∷ []) ∷ []) [] x
        ((m.fits, m.small), ((own_fits ring me d (payload.Txn (write_txn ring me d changes)) m.small m.short m.fits, omega (arith, n)), tt)) m.leads

record MayRotate (d : Durable) (s : Soft) : Type 0 where
  leads : s.role ≡ Leader
  short : suc (length d.log) < TERM_END
  files : turns d.log + 1 ≤ LAST_FILE - 1

file_is : (n : ℕ) → nat_le file_limit (suc n) ≡ false → n + 1 ≤ LAST_FILE - 1
file_is n is = grind (arith, nat_tests, is)

may_rotate : (ring : Layout) (me : ℕ) (d : Durable) (s : Soft) → rotate_refusal ring me d s ≡ None → MayRotate d s
unfolding rotate_refusal
may_rotate ring me d s is = go (is_leader s.role) refl (is_ready s) (is_handing s.transfer) (is_exhausted ring me d) refl (nat_le file_limit (file_number d.log)) refl is
  where
    go : (a : Bool) → is_leader s.role ≡ a → (b c : Bool) (e : Bool) → is_exhausted ring me d ≡ e → (f : Bool) → nat_le file_limit (file_number d.log) ≡ f
        → (if not a then Some cause.NotLeader else (if not b then Some cause.NotReady else (if c then Some cause.Transferring else (if e then Some cause.Exhausted else (if f then Some cause.LastFile else None))))) ≡ None → MayRotate d s
    go false x b c e y f z is = absurd cc
    go true x false c e y f z is = absurd cc
    go true x true true e y f z is = absurd cc
    go true x true false true y f z is = absurd cc
    go true x true false false y true z is = absurd cc
    go true x true false false y false z is = record {
      leads = leads_is s x;
      short = short_is (length d.log) (both_false _ (nat_le length_limit (length d.log)) y).1;
      files = (let w = file_is (rotates d.log) z in let q = rotates_is d.log in omega (arith, w, q));
    }

pub rotate_keeps : (ring : Layout) (me client : ℕ) (d : Durable) (s : Soft) → Sized ring d → IsShort d s → Keeps ring d (rotate ring me d s client)
unfolding rotate
rotate_keeps ring me client d s x short = go (rotate_refusal ring me d s) refl
  where
    go : (c : Option Cause) → rotate_refusal ring me d s ≡ c
        → Keeps ring d (elim c [ Some c ↦ refused s client c | None ↦ rotate_step ring me d s client (own_entry ring me d payload.Rotate) ])
    go (Some c) is = quiet_keeps ring d s s [] _ short refl tt
    go None is =
        let m = may_rotate ring me d s is in
        let n = m.files in
        advance_keeps ring me d s (action.Append (own_entry ring me d payload.Rotate ∷ []) ∷ []) _ x
        ((own_fits ring me d payload.Rotate (omega arith) m.short refl, omega (arith, n)), tt) m.leads
