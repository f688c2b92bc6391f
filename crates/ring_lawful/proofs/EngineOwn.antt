-- A ready leader has prepared all of its log, so its own next entry, with its pair where it carries a transaction, lengthens the stretch by one.
use Rattle.std.proofs.Common.{◌≡◌, ℕ, ◌⊎◌, [], ◌∷◌, ◌++◌, ◌∙◌, ◌&&◌, if◌then◌else◌, Bool, List, None, Option, Some, false, inl, inr, length, not, refl, sym, true}
use Rattle.std.specs.Prelude.{find, nat_le, nat_lt}
use Rattle.ring_types.specs.declared.entries.Entry.{Entry}
use Rattle.ring_types.specs.declared.entries.Pair.{Pair}
use Rattle.ring_types.specs.declared.entries.Payload.TheVariants as payload
use Rattle.ring_types.specs.declared.values.Change.{Change}
use Rattle.ring_types.specs.Rings.{Layout, runs_engine}
use Rattle.ring_model.specs.declared.effects.Action.TheVariants as action
use Rattle.ring_model.specs.declared.effects.Cause.{Cause}
use Rattle.ring_model.specs.declared.effects.Cause.TheVariants as cause
use Rattle.ring_types.specs.declared.values.RowRefusal.{RowRefusal}
use Rattle.ring_types.specs.Rows.{change_key, check, table_name}
use Rattle.std.specs.List.{list_any}
use Rattle.ring_model.specs.declared.effects.What.TheVariants as what
use Rattle.ring_model.specs.declared.messages.AppendReply.{AppendReply}
use Rattle.ring_model.specs.declared.nodes.Durable.{Durable}
use Rattle.ring_model.specs.declared.nodes.Soft.{Soft}
use Rattle.ring_model.specs.Actions.{done, holder_of, is_held, writes_key}
use Rattle.ring_model.specs.Nodes.{is_leader, is_ready}
use Rattle.ring_model.specs.Replication.{counts, heard_among, leader_hears, on_ack}
use Rattle.ring_model.specs.Transfers.{after_ok, on_answer, with_more}
use Rattle.ring_model.specs.Writes.{awaits, change_refusal, committed_rows, is_handing, lock_of, lock_refusal, refused, size_refusal, rotate, rotate_refusal, rotate_step, write, write_entry, write_entry_step, write_refusal, write_txn}
use Rattle.ring_model.specs.Steps.{demoted, idle, own_entry, stepped, unknowns}
use Rattle.ring_types.proofs.Booleans.{both_true}
use Rattle.ring_lawful.proofs.Engine.{clean_has}
use Rattle.ring_lawful.proofs.EngineSteps.{advance_step, push_clean, written}
use Rattle.ring_lawful.proofs.EngineBoth.{Both, advance_tail, idle_both, quiet_both, raise_both}

-- ---- a leader's answers and its own entries
hears_both : (ring : Layout) (me from : ℕ) (answer : AppendReply) (d : Durable) (s : Soft) → Both ring me d s (leader_hears ring me d s from answer)
hears_both ring me from answer d s = record {
  engine = λ runs r. elim (ready_cases s) [
    | inl ready ↦ advance_step ring me d (record s { peers = heard_among s.peers from answer.ok answer.position }) [] [] (length d.log) runs (clean_has d (length d.log) (r.all ready)) tt (r.all ready) r.follows
        (λ led. inl ((both_true (is_leader s.role) (nat_le s.ready_at s.commit) ready).1, refl))
    | inr unready ↦ advance_step ring me d (record s { peers = heard_among s.peers from answer.ok answer.position }) [] [] r.k runs (clean_has d r.k r.clean) tt r.clean r.follows
        (λ led. elim (r.ends led) [ inl low ↦ absurd (unready led low) | inr end ↦ inr end ])
  ];
  tail = λ runs. advance_tail ring me d (record s { peers = heard_among s.peers from answer.ok answer.position }) [] [] runs tt;
}
  where
    ready_cases : (s : Soft) → (is_ready s ≡ true) ⊎ (is_leader s.role ≡ true → nat_le s.ready_at s.commit ≡ true → ⊥)
    ready_cases s = go (is_leader s.role) refl (nat_le s.ready_at s.commit) refl
      where
        go : (a : Bool) → is_leader s.role ≡ a → (b : Bool) → nat_le s.ready_at s.commit ≡ b
            → (is_ready s ≡ true) ⊎ (is_leader s.role ≡ true → nat_le s.ready_at s.commit ≡ true → ⊥)
        go true x true y = inl (rw (x, y) refl)
        go true x false y = inr (λ led low. absurd (let z : true ≡ false = sym low ∙ y in cc))
        go false x b y = inr (λ led low. absurd (let z : true ≡ false = sym led ∙ x in cc))

ack_both : (ring : Layout) (me from : ℕ) (answer : AppendReply) (d : Durable) (s : Soft) → Both ring me d s (on_ack ring me d s from answer)
unfolding on_ack
ack_both ring me from answer d s = go (nat_lt d.term answer.term) (counts d s answer)
  where
    go : (a b : Bool) → Both ring me d s (if a then stepped (action.SetTerm answer.term ∷ []) [] (unknowns s) (demoted s) else (if b then leader_hears ring me d s from answer else idle s))
    go true b = raise_both ring me answer.term d s [] (unknowns s)
    go false true = hears_both ring me from answer d s
    go false false = idle_both ring me d s

pub answered_both : (ring : Layout) (me from : ℕ) (answer : AppendReply) (d : Durable) (s : Soft) → Both ring me d s (on_answer ring me d s from answer)
unfolding on_answer
answered_both ring me from answer d s = go (counts d s answer && answer.ok)
  where
    b : Both ring me d s (on_ack ring me d s from answer)
    b = ack_both ring me from answer d s

    go : (a : Bool) → Both ring me d s (if a then with_more (on_ack ring me d s from answer) (after_ok me d (on_ack ring me d s from answer).soft.peers from s.transfer) else on_ack ring me d s from answer)
    go true = record { engine = λ runs r. (let x = b.engine runs r in record { along = x.along; can = x.can; after = x.after }); tail = b.tail }
    go false = b

pub write_is_ready : (ring : Layout) (me : ℕ) (d : Durable) (s : Soft) (changes : List Change) → write_refusal ring me d s changes ≡ None
    → (is_ready s ≡ true) × (runs_engine ring me ≡ true)
unfolding write_refusal
write_is_ready ring me d s changes is = go (is_leader s.role) refl (nat_le s.ready_at s.commit) refl (runs_engine ring me) refl
  where
    go : (a : Bool) → is_leader s.role ≡ a → (b : Bool) → nat_le s.ready_at s.commit ≡ b → (c : Bool) → runs_engine ring me ≡ c
        → (is_ready s ≡ true) × (runs_engine ring me ≡ true)
    go false x b y c z = absurd (let u = rw x at is in cc)
    go true x false y c z = absurd (let u = rw (x, y) at is in cc)
    go true x true y false z = absurd (let u = rw (x, y, z) at is in cc)
    go true x true y true z = (rw (x, y) refl, z)

unlocked : (pairs : List Pair) (changes : List Change) → lock_of pairs changes ≡ None → list_any (is_held pairs) changes ≡ false
unlocked pairs [] is = refl
unlocked pairs (c ∷ changes) is = go (holder_of pairs c) refl is (unlocked pairs changes)
  where
    none_writes : (ps : List Pair) → find (writes_key c) ps ≡ None → list_any (writes_key c) ps ≡ false
    none_writes [] x = refl
    none_writes (p ∷ ps) x = pick (writes_key c p) refl x (none_writes ps)
      where
        pick : (b : Bool) → writes_key c p ≡ b → find (writes_key c) (p ∷ ps) ≡ None → (find (writes_key c) ps ≡ None → list_any (writes_key c) ps ≡ false)
            → list_any (writes_key c) (p ∷ ps) ≡ false
        pick true y x rest = absurd (let u = rw y at x in cc)
        pick false y x rest = rw y (rest (let u = rw y at x in u))

    go : (o : Option Pair) → holder_of pairs c ≡ o
        → ◌≡◌ {A = Option Cause} (elim o [ Some p ↦ Some (cause.Locked (table_name c) (change_key c) p.opid) | None ↦ lock_of pairs changes ]) None
        → (lock_of pairs changes ≡ None → list_any (is_held pairs) changes ≡ false) → list_any (is_held pairs) (c ∷ changes) ≡ false
    go (Some p) x y rest = absurd cc
    go None x y rest = let here = none_writes pairs x in rw here (rest y)

lock_passed : (ring : Layout) (me : ℕ) (d : Durable) (changes : List Change) → lock_refusal ring me d changes ≡ None → lock_of d.prepared changes ≡ None
lock_passed ring me d changes is = go (lock_of d.prepared changes) refl is
  where
    go : (o : Option Cause) → lock_of d.prepared changes ≡ o
        → ◌≡◌ {A = Option Cause} (elim o [ Some c ↦ Some c | None ↦ size_refusal ring me d changes ]) None → lock_of d.prepared changes ≡ None
    go (Some c) x y = absurd cc
    go None x y = x

rows_passed : (ring : Layout) (me : ℕ) (d : Durable) (changes : List Change) → change_refusal ring me d changes ≡ None → lock_refusal ring me d changes ≡ None
rows_passed ring me d changes is = go (check ring.schema (committed_rows ring d) changes) is
  where
    go : (o : Option RowRefusal) → ◌≡◌ {A = Option Cause} (elim o [ Some r ↦ Some (cause.Invalid r) | None ↦ lock_refusal ring me d changes ]) None
        → lock_refusal ring me d changes ≡ None
    go (Some r) y = absurd cc
    go None y = y

pub write_holds : (ring : Layout) (me : ℕ) (d : Durable) (s : Soft) (changes : List Change) → write_refusal ring me d s changes ≡ None
    → list_any (is_held d.prepared) changes ≡ false
unfolding write_refusal
write_holds ring me d s changes is = go (is_leader s.role) (is_ready s) (runs_engine ring me) (is_handing s.transfer) is
  where
    go : (a b c e : Bool)
        → ◌≡◌ {A = Option Cause} (if not a then Some cause.NotLeader else (if not b then Some cause.NotReady else (if not c then Some cause.NoEngine else (if e then Some cause.Transferring else change_refusal ring me d changes)))) None
        → list_any (is_held d.prepared) changes ≡ false
    go false b c e is = absurd cc
    go true false c e is = absurd cc
    go true true false e is = absurd cc
    go true true true true is = absurd cc
    go true true true false is = unlocked d.prepared changes (lock_passed ring me d changes (rows_passed ring me d changes is))

pub rotate_is_ready : (ring : Layout) (me : ℕ) (d : Durable) (s : Soft) → rotate_refusal ring me d s ≡ None → is_ready s ≡ true
unfolding rotate_refusal
rotate_is_ready ring me d s is = go (is_leader s.role) refl (nat_le s.ready_at s.commit) refl
  where
    go : (a : Bool) → is_leader s.role ≡ a → (b : Bool) → nat_le s.ready_at s.commit ≡ b → is_ready s ≡ true
    go false x b y = absurd (let u = rw x at is in cc)
    go true x false y = absurd (let u = rw (x, y) at is in cc)
    go true x true y = rw (x, y) refl

pub write_both : (ring : Layout) (me client : ℕ) (changes : List Change) (d : Durable) (s : Soft) → Both ring me d s (write ring me d s client changes)
unfolding write
write_both ring me client changes d s = go (write_refusal ring me d s changes) refl
  where
    go : (c : Option Cause) → write_refusal ring me d s changes ≡ c
        → Both ring me d s (elim c [ Some c ↦ refused s client c | None ↦ write_entry_step ring me d s client (write_txn ring me d changes) (write_entry ring me d changes) ])
    go (Some c) is = quiet_both ring me d s s [] _ refl refl refl
    go None is =
        let x : Entry = write_entry ring me d changes in
        let p : Pair = record { opid = (write_entry ring me d changes).opid; txn = write_txn ring me d changes } in
        let ready = write_is_ready ring me d s changes is in
        record {
          engine = λ runs r.
              let w = written d p x (r.all ready.0) refl refl refl in
              advance_step ring me d (awaits s client x (write_txn ring me d changes).gtid) (action.Prepare p ∷ action.Append (x ∷ []) ∷ []) []
              (length (d.log ++ x ∷ [])) runs w.along (write_holds ring me d s changes is, (tt, tt)) w.clean r.follows
              (λ led. inl ((both_true (is_leader s.role) (nat_le s.ready_at s.commit) ready.0).1, refl));
          tail = λ runs. absurd (let z : true ≡ false = sym ready.1 ∙ runs in cc);
        }

pub rotate_both : (ring : Layout) (me client : ℕ) (d : Durable) (s : Soft) → Both ring me d s (rotate ring me d s client)
unfolding rotate
rotate_both ring me client d s = go (rotate_refusal ring me d s) refl
  where
    go : (c : Option Cause) → rotate_refusal ring me d s ≡ c
        → Both ring me d s (elim c [ Some c ↦ refused s client c | None ↦ rotate_step ring me d s client (own_entry ring me d payload.Rotate) ])
    go (Some c) is = quiet_both ring me d s s [] _ refl refl refl
    go None is =
        let x : Entry = own_entry ring me d payload.Rotate in
        let ready = rotate_is_ready ring me d s is in
        record {
          engine = λ runs r.
              let c = r.all ready in
              let y = push_clean d x c refl refl in
              advance_step ring me d s (action.Append (x ∷ []) ∷ []) (record { client = client; what = what.Rotated x.opid } ∷ [])
              (length (d.log ++ x ∷ [])) runs (clean_has d (length d.log) c, clean_has (done d (action.Append (x ∷ []))) (length (d.log ++ x ∷ [])) y)
              (tt, tt) y r.follows
              (λ led. inl ((both_true (is_leader s.role) (nat_le s.ready_at s.commit) ready).1, refl));
          tail = λ runs. advance_tail ring me d s (action.Append (x ∷ []) ∷ []) _ runs (tt, tt);
        }
