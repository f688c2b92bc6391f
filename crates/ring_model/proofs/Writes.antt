-- A leader that adds an entry of its own, for a write or a rotate: its book goes on with it, and its commit count rises as the holders allow.
use Rattle.std.proofs.Common.{◌≡◌, ℕ, ◌≤◌, [], ◌∷◌, ◌++◌, ◌∙◌, List, None, Option, Some, ap, arith, length, length-append, refl, subst, suc, sym}
use Rattle.ring_types.specs.declared.values.Change.{Change}
use Rattle.ring_types.specs.declared.entries.Entry.{Entry}
use Rattle.ring_types.specs.Rings.{Layout, region_of}
use Rattle.ring_model.specs.declared.effects.Action.{Action}
use Rattle.ring_model.specs.declared.nodes.Role.TheVariants.{Candidate, Follower, Leader}
use Rattle.ring_model.specs.declared.effects.Cause.{Cause}
use Rattle.ring_model.specs.declared.nodes.Durable.{Durable}
use Rattle.ring_model.specs.declared.nodes.Role.{Role}
use Rattle.ring_model.specs.declared.effects.Say.{Say}
use Rattle.ring_model.specs.declared.nodes.Soft.{Soft}
use Rattle.ring_model.specs.Steps.{advance, own_entry}
use Rattle.ring_model.specs.Actions.{all_done, done}
use Rattle.ring_model.specs.Writes.{awaits, refused, rotate, rotate_refusal, rotate_step, write, write_entry, write_entry_step, write_refusal, write_txn}
use Rattle.ring_model.specs.Nodes.{is_leader}
use Rattle.ring_model.specs.declared.effects.Action.TheVariants as action
use Rattle.ring_types.specs.declared.entries.Payload.TheVariants as payload
use Rattle.ring_model.specs.declared.effects.What.TheVariants as what
use Rattle.ring_model.proofs.Invariant.{HasRole, History, IsHistory, IsLeader, IsNode, IsRunning, IsSealed}
use Rattle.ring_model.proofs.Growth.{leader_stays}
use Rattle.ring_model.proofs.Leading.{MayAdd, with_book}
use Rattle.ring_model.proofs.Moves.{Adds}
use Rattle.ring_model.proofs.Paths.{Ends, Goes_on, Path, path_keeps}
use Rattle.ring_model.proofs.HeldElections.{done_join, path_join, quiet_join}
use Rattle.ring_model.proofs.Turns.{IsRow}
use Rattle.ring_model.proofs.Advance.{Led_on, QuietPath, advance_row, engine_action, leader_at, no_actions}
use Rattle.ring_model.proofs.Plain.{said_row, same_role}
use Rattle.ring_model.proofs.Elect.{seal_longer}

-- a leader adds an entry, after the engine's work alone
add_row : (ring : Layout) (h : History) (id : ℕ) (d : Durable) (s t : Soft) (first : List Action) (x : Entry) (says : List Say) → IsHistory ring h
    → IsNode ring h id d → IsRunning ring h id d s → s.role ≡ Leader
    → t.role ≡ s.role → t.commit ≡ s.commit → t.peers ≡ s.peers → QuietPath ring id h d first → x.opid.term ≡ d.term → x.opid.position ≡ suc (length d.log)
    → x.region ≡ region_of ring id
    → IsRow ring h id d s (advance ring id d t (first ++ (action.Append (x ∷ []) ∷ [])) says)
add_row ring h id d s t first x says k n r role same_role same_count same_peers q x_term x_place x_region =
    let e : Durable = all_done d first in
    let same = q.same in
    let l : IsLeader h id d s = subst (λ (o : Role). HasRole h id d s o) role r.role in
    let before = path_keeps ring id h h d first k n q.path in
    let may : MayAdd ring h id e l.election x = record {
      led = l.led;
      by = l.by;
      of_term = l.of_term ∙ sym same.term;
      x_term = x_term ∙ sym same.term;
      x_region = x_region;
      x_place = x_place ∙ ap (λ (w : List Entry). suc (length w)) (sym same.log);
    } in
    let m : History = with_book h e.term (e.log ++ x ∷ []) in
    let step : Path ring id h e (action.Append (x ∷ []) ∷ []) m = Goes_on (Adds l.election x refl may refl) Ends in
    let a = path_keeps ring id h m e (action.Append (x ∷ []) ∷ []) k before.node step in
    let j = done_join d first (action.Append (x ∷ []) ∷ []) in
    let f : Durable = done e (action.Append (x ∷ [])) in
    let sealed : IsSealed ring h e.term t.commit e.log = subst (λ (c : ℕ). IsSealed ring h e.term c e.log) (sym same_count)
    (subst (λ (u : ℕ). IsSealed ring h u s.commit e.log) (sym same.term) (subst (λ (w : List Entry). IsSealed ring h d.term s.commit w) (sym same.log) r.sealed)) in
    advance_row ring h m id d s t (first ++ (action.Append (x ∷ []) ∷ [])) says
    (path_join ring id h h m d first (action.Append (x ∷ []) ∷ []) q.path (Goes_on (Adds l.election x refl may refl) Ends)) a.history
    (subst (λ (w : Durable). IsNode ring m id w) (sym j) a.node) (same_role ∙ role)
    (subst (λ (w : Durable). IsLeader m id w t) (sym j) (leader_at m id d f s t same.term (omega (arith, ap length same.log, length-append e.log (x ∷ []))) same_peers (leader_stays ring id h m a.grows id d s l)))
    (subst (λ (w : Durable). IsSealed ring m w.term t.commit w.log) (sym j) (seal_longer ring id h m e.term t.commit e.log (x ∷ []) a.grows sealed))
    (subst (λ (w : Durable). w.applied ≤ t.commit) (sym j) (omega (arith, same.applied, same_count, r.applied)))
    (Led_on (ap is_leader role) (quiet_join ring id h h m d first (action.Append (x ∷ []) ∷ []) q.path (Goes_on (Adds l.election x refl may refl) Ends) q.quiet refl))

pub refused_row : (ring : Layout) (h : History) (id client : ℕ) (c : Cause) (d : Durable) (s : Soft) → IsRunning ring h id d s
    → IsRow ring h id d s (refused s client c)
refused_row ring h id client c d s r = said_row ring h id d s _ r

-- only a leader is not refused
pub write_leads : (ring : Layout) (id : ℕ) (d : Durable) (s : Soft) (changes : List Change) → write_refusal ring id d s changes ≡ None → s.role ≡ Leader
unfolding write_refusal
write_leads ring id d s changes is = go s.role refl
  where
    go : (r : Role) → s.role ≡ r → s.role ≡ Leader
    go Follower x = absurd (let u = rw x at is in cc)
    go Candidate x = absurd (let u = rw x at is in cc)
    go Leader x = x

pub rotate_leads : (ring : Layout) (id : ℕ) (d : Durable) (s : Soft) → rotate_refusal ring id d s ≡ None → s.role ≡ Leader
unfolding rotate_refusal
rotate_leads ring id d s is = go s.role refl
  where
    go : (r : Role) → s.role ≡ r → s.role ≡ Leader
    go Follower x = absurd (let u = rw x at is in cc)
    go Candidate x = absurd (let u = rw x at is in cc)
    go Leader x = x

pub write_row : (ring : Layout) (h : History) (id client : ℕ) (changes : List Change) (d : Durable) (s : Soft) → IsHistory ring h → IsNode ring h id d
    → IsRunning ring h id d s → IsRow ring h id d s (write ring id d s client changes)
unfolding write
write_row ring h id client changes d s k n r = go (write_refusal ring id d s changes) refl
  where
    go : (c : Option Cause) → write_refusal ring id d s changes ≡ c
        → IsRow ring h id d s (elim c [ Some c ↦ refused s client c | None ↦ write_entry_step ring id d s client (write_txn ring id d changes) (write_entry ring id d changes) ])
    go (Some c) is = refused_row ring h id client c d s r
    go None is = add_row ring h id d s (awaits s client (write_entry ring id d changes) (write_txn ring id d changes).gtid)
        (action.Prepare (record { opid = (write_entry ring id d changes).opid; txn = write_txn ring id d changes }) ∷ [])
        (write_entry ring id d changes) [] k n r (write_leads ring id d s changes is) refl refl refl
        (engine_action ring id h d (action.Prepare (record { opid = (write_entry ring id d changes).opid; txn = write_txn ring id d changes })) (record { term = refl; votes = refl; log = refl; applied = refl })) refl refl refl

pub rotate_row : (ring : Layout) (h : History) (id client : ℕ) (d : Durable) (s : Soft) → IsHistory ring h → IsNode ring h id d → IsRunning ring h id d s
    → IsRow ring h id d s (rotate ring id d s client)
unfolding rotate
rotate_row ring h id client d s k n r = go (rotate_refusal ring id d s) refl
  where
    go : (c : Option Cause) → rotate_refusal ring id d s ≡ c
        → IsRow ring h id d s (elim c [ Some c ↦ refused s client c | None ↦ rotate_step ring id d s client (own_entry ring id d payload.Rotate) ])
    go (Some c) is = refused_row ring h id client c d s r
    go None is =
        add_row ring h id d s s [] (own_entry ring id d payload.Rotate)
        (record { client = client; what = what.Rotated (own_entry ring id d payload.Rotate).opid } ∷ []) k n r (rotate_leads ring id d s is) refl refl refl
        (no_actions ring id h d) refl refl refl
