-- A leader that hears answers changes its peers alone, and one that adds an entry of its own has it at the end of its log, where what waits finds it.
use Rattle.std.proofs.Common.{◌≡◌, ℕ, ◌≤◌, ◌&&◌, [], ◌∷◌, ◌++◌, ◌∙◌, if◌then◌else◌, Bool, List, None, Option, Some, arith, false, inl, inr, length, map, refl, subst, suc, sym, true, zero}
use Rattle.std.proofs.lemmas.List.Elements.{Contains-push_cases}
use Rattle.std.proofs.lemmas.Option.{slice_get_within}
use Rattle.std.specs.Prelude.{nat_le, nat_lt}
use Rattle.ring_types.specs.declared.entries.Entry.{Entry}
use Rattle.ring_types.specs.declared.entries.Payload.TheVariants as payload
use Rattle.ring_types.specs.declared.values.Change.{Change}
use Rattle.ring_types.specs.Rings.{Layout}
use Rattle.ring_types.specs.Logs.{entry_at}
use Rattle.ring_model.specs.declared.effects.Action.TheVariants as action
use Rattle.ring_model.specs.declared.effects.Cause.{Cause}
use Rattle.ring_model.specs.declared.messages.AppendReply.{AppendReply}
use Rattle.ring_model.specs.declared.nodes.Durable.{Durable}
use Rattle.ring_model.specs.declared.nodes.Peer.{Peer}
use Rattle.ring_model.specs.declared.nodes.Pending.{Pending}
use Rattle.ring_model.specs.declared.nodes.Soft.{Soft}
use Rattle.ring_model.specs.Nodes.{IsPendingIn, is_leader, is_ready}
use Rattle.ring_model.specs.Replication.{beat, beat_to, counts, heard_among, leader_hears, on_ack, quieter}
use Rattle.ring_model.specs.Steps.{demoted, idle, own_entry, stepped, unknowns}
use Rattle.ring_model.specs.Transfers.{after_ok, on_answer, with_more}
use Rattle.ring_model.specs.Writes.{awaits, refused, rotate, rotate_refusal, rotate_step, write, write_entry, write_entry_step, write_refusal, write_txn}
use Rattle.ring_model.proofs.OwnEntry.{entry_more, get_end, length_push}
use Rattle.ring_types.proofs.Booleans.{both_true}
use Rattle.ring_lawful.proofs.EngineOwn.{rotate_is_ready, write_is_ready}
use Rattle.ring_lawful.proofs.Leads.{LeaderFits, SoftFits, SoftStep, advance_soft, demoted_fits, heard_nodes, heard_silent, quieter_nodes, quieter_silent, rises_push}

-- ---- answers
with_peers : (ring : Layout) (me : ℕ) (log : List Entry) (s : Soft) (peers : List Peer) → SoftFits ring me log s
    → (LeaderFits ring me log s → LeaderFits ring me log (record s { peers = peers })) → SoftFits ring me log (record s { peers = peers })
with_peers ring me log s peers x fits =
    record { learner = x.learner; alone = x.alone; leads = λ is. fits (x.leads is); rises = x.rises; transfer = x.transfer; mock = x.mock }

hears_soft : (ring : Layout) (me from : ℕ) (answer : AppendReply) (d : Durable) (s : Soft) → SoftFits ring me d.log s → s.commit ≤ length d.log
    → SoftStep ring me d (leader_hears ring me d s from answer)
hears_soft ring me from answer d s x inside =
    advance_soft ring me d (record s { peers = heard_among s.peers from answer.ok answer.position }) [] []
    (with_peers ring me d.log s (heard_among s.peers from answer.ok answer.position) x (λ l. record {
      votes = l.votes;
      others = heard_nodes s.peers from answer.ok answer.position ∙ l.others;
      silent = heard_silent s.peers from answer.ok answer.position l.silent;
      low = l.low;
      inside = l.inside;
      ends = l.ends;
      waits = l.waits;
    })) inside

ack_soft : (ring : Layout) (me from : ℕ) (answer : AppendReply) (d : Durable) (s : Soft) → SoftFits ring me d.log s → s.commit ≤ length d.log
    → SoftStep ring me d (on_ack ring me d s from answer)
unfolding on_ack
ack_soft ring me from answer d s x inside = go (nat_lt d.term answer.term) (counts d s answer)
  where
    go : (a b : Bool) → SoftStep ring me d (if a then stepped (action.SetTerm answer.term ∷ []) [] (unknowns s) (demoted s) else (if b then leader_hears ring me d s from answer else idle s))
    go true b = demoted_fits ring me d.log s
    go false true = hears_soft ring me from answer d s x inside
    go false false = x

pub answered_soft : (ring : Layout) (me from : ℕ) (answer : AppendReply) (d : Durable) (s : Soft) → SoftFits ring me d.log s → s.commit ≤ length d.log
    → SoftStep ring me d (on_answer ring me d s from answer)
unfolding on_answer
answered_soft ring me from answer d s x inside = go (counts d s answer && answer.ok)
  where
    go : (a : Bool) → SoftStep ring me d (if a then with_more (on_ack ring me d s from answer) (after_ok me d (on_ack ring me d s from answer).soft.peers from s.transfer) else on_ack ring me d s from answer)
    go true = ack_soft ring me from answer d s x inside
    go false = ack_soft ring me from answer d s x inside

pub beat_soft : (ring : Layout) (me : ℕ) (d : Durable) (s : Soft) → SoftFits ring me d.log s → SoftStep ring me d (beat ring me d s)
unfolding beat
beat_soft ring me d s x = go (is_leader s.role)
  where
    go : (b : Bool) → SoftStep ring me d (if b then stepped [] (map (beat_to ring me d s) s.peers) [] (record s { peers = map quieter s.peers }) else idle s)
    go true = with_peers ring me d.log s (map quieter s.peers) x (λ l. record {
      votes = l.votes;
      others = quieter_nodes s.peers ∙ l.others;
      silent = quieter_silent s.peers;
      low = l.low;
      inside = l.inside;
      ends = l.ends;
      waits = l.waits;
    })
    go false = x

-- ---- own entries
at_within : (log : List Entry) (k : ℕ) (e : Entry) → entry_at log k ≡ Some e → k ≤ length log
at_within log zero e is = absurd cc
at_within log (suc k) e is = let z = slice_get_within log k e is in omega (arith, z)

ready_low : (s : Soft) → is_ready s ≡ true → nat_le s.ready_at s.commit ≡ true
ready_low s is = (both_true (is_leader s.role) (nat_le s.ready_at s.commit) is).1

-- a ready leader's log with one more entry
pushed : (ring : Layout) (me : ℕ) (log : List Entry) (s : Soft) (x : Entry) → is_ready s ≡ true → SoftFits ring me log s → SoftFits ring me (log ++ x ∷ []) s
pushed ring me log s x ready f = record {
  learner = f.learner;
  alone = f.alone;
  leads = λ is. (let l = f.leads is in record {
    votes = l.votes;
    others = l.others;
    silent = l.silent;
    low = l.low;
    inside = (let n = length_push log x in let y = l.inside in omega (arith, n, y));
    ends = inl (ready_low s ready);
    waits = λ p in_p. (let w = l.waits p in_p in (w.0, (w.1.0, entry_more log (x ∷ []) p.opid.position w.1.0 w.1.1, w.1.2, w.1.3)));
  });
  rises = f.rises;
  transfer = f.transfer;
  mock = f.mock;
}

pub write_soft : (ring : Layout) (me client : ℕ) (changes : List Change) (d : Durable) (s : Soft) → SoftFits ring me d.log s → s.commit ≤ length d.log
    → SoftStep ring me d (write ring me d s client changes)
unfolding write
write_soft ring me client changes d s x inside = go (write_refusal ring me d s changes) refl
  where
    go : (c : Option Cause) → write_refusal ring me d s changes ≡ c
        → SoftStep ring me d (elim c [ Some c ↦ refused s client c | None ↦ write_entry_step ring me d s client (write_txn ring me d changes) (write_entry ring me d changes) ])
    go (Some c) is = x
    go None is =
        let e : Entry = write_entry ring me d changes in
        let ready = (write_is_ready ring me d s changes is).0 in
        let leads : is_leader s.role ≡ true = (both_true (is_leader s.role) (nat_le s.ready_at s.commit) ready).0 in
        let f = pushed ring me d.log s e ready x in
        let new : Pending = record { client = client; gtid = (write_txn ring me d changes).gtid; opid = e.opid } in
        let n = length_push d.log e in
        advance_soft ring me d (awaits s client e (write_txn ring me d changes).gtid)
        (action.Prepare (record { opid = e.opid; txn = write_txn ring me d changes }) ∷ action.Append (e ∷ []) ∷ []) []
        (record {
          learner = f.learner;
          alone = λ bad. absurd (let z : true ≡ false = sym leads ∙ bad in cc);
          leads = λ is. (let l = f.leads is in record {
            votes = l.votes;
            others = l.others;
            silent = l.silent;
            low = l.low;
            inside = l.inside;
            ends = l.ends;
            waits = λ p in_p. elim (Contains-push_cases s.pending new p in_p) [
              | inl old ↦ l.waits p old
              | inr here ↦ subst (λ (q : Pending). IsPendingIn (d.log ++ e ∷ []) s.commit q) here (omega (arith, inside), (e, get_end d.log e, refl, refl))
            ];
          });
          rises = rises_push s.pending new f.rises
              (λ p in_p. let w = (x.leads leads).waits p in_p in let y = at_within d.log p.opid.position w.1.0 w.1.1 in omega (arith, y));
          transfer = f.transfer;
          mock = f.mock;
        }) (omega (arith, inside, n))

pub rotate_soft : (ring : Layout) (me client : ℕ) (d : Durable) (s : Soft) → SoftFits ring me d.log s → s.commit ≤ length d.log
    → SoftStep ring me d (rotate ring me d s client)
unfolding rotate
rotate_soft ring me client d s x inside = go (rotate_refusal ring me d s) refl
  where
    go : (c : Option Cause) → rotate_refusal ring me d s ≡ c
        → SoftStep ring me d (elim c [ Some c ↦ refused s client c | None ↦ rotate_step ring me d s client (own_entry ring me d payload.Rotate) ])
    go (Some c) is = x
    go None is =
        let e : Entry = own_entry ring me d payload.Rotate in
        let n = length_push d.log e in
        advance_soft ring me d s (action.Append (e ∷ []) ∷ []) _ (pushed ring me d.log s e (rotate_is_ready ring me d s is) x) (omega (arith, inside, n))
