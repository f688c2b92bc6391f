-- Messages of replication and a client's words tell of waiting writes alone, and a new write that waits stands in the leader's log.
use Rattle.std.proofs.Common.{◌≡◌, ℕ, ◌+◌, ◌-◌, ◌==◌, ◌&&◌, [], ◌∷◌, ◌++◌, if◌then◌else◌, Bool, List, None, Option, Some, ap, false, inl, inr, length, map, refl, subst, suc, true}
use Rattle.std.proofs.lemmas.List.Elements.{Contains-push_cases}
use Rattle.std.specs.List.{Contains}
use Rattle.std.specs.Prelude.{nat_le, nat_lt}
use Rattle.ring_types.specs.declared.values.Change.{Change}
use Rattle.ring_types.specs.declared.entries.Entry.{Entry}
use Rattle.ring_types.specs.declared.values.Gtid.{Gtid}
use Rattle.ring_types.specs.Rings.{Layout}
use Rattle.ring_types.specs.declared.entries.Opid.{Opid}
use Rattle.ring_types.specs.declared.values.Txn.{Txn}
use Rattle.ring_types.specs.Logs.{last, term_at}
use Rattle.ring_model.specs.declared.effects.Action.{Action}
use Rattle.ring_model.specs.declared.messages.Append.{Append}
use Rattle.ring_model.specs.declared.messages.AppendReply.{AppendReply}
use Rattle.ring_model.specs.declared.nodes.Role.TheVariants.{Candidate, Follower, Leader}
use Rattle.ring_model.specs.declared.effects.Cause.{Cause}
use Rattle.ring_model.specs.declared.nodes.Durable.{Durable}
use Rattle.ring_model.specs.declared.nodes.Pending.{Pending}
use Rattle.ring_model.specs.declared.messages.ProxyAppend.{ProxyAppend}
use Rattle.ring_model.specs.declared.nodes.Role.{Role}
use Rattle.ring_model.specs.declared.effects.Say.{Say}
use Rattle.ring_model.specs.declared.nodes.Soft.{Soft}
use Rattle.ring_model.specs.declared.effects.Tear.{Tear}
use Rattle.ring_model.specs.Replication.{accept, beat, beat_to, counts, follow_append, found, heard_among, leader_hears, leads_it, match_append, on_ack, on_append, outgrows, quieter, relay, reply, tear_in, unmatched}
use Rattle.ring_model.specs.Steps.{demoted, idle, message, own_entry, stepped, unknowns}
use Rattle.ring_model.specs.Transfers.{after_ok, ask_transfer, begin_round, cancel, is_off, on_answer, transfer_refusal, with_more}
use Rattle.ring_model.specs.Writes.{awaits, refused, rotate, rotate_refusal, rotate_step, write, write_entry, write_entry_step, write_refusal, write_txn}
use Rattle.ring_model.specs.Nodes.{is_leader}
use Rattle.ring_model.specs.declared.effects.Action.TheVariants as action
use Rattle.ring_model.specs.declared.messages.Body.TheVariants as body
use Rattle.ring_types.specs.declared.entries.Payload.TheVariants as payload
use Rattle.ring_model.specs.declared.nodes.Transfer.TheVariants as transfer
use Rattle.ring_model.specs.declared.effects.What.TheVariants as what
use Rattle.ring_model.proofs.Lists.{none_contained}
use Rattle.ring_model.proofs.OwnEntry.{entry_more, get_end}
use Rattle.ring_model.proofs.OnAnswer.{counted}
use Rattle.ring_model.proofs.Writes.{rotate_leads, write_leads}
use Rattle.ring_model.proofs.TellingLeader.{AreOther, IsEntryFor, KeepsPending, Tells, advance_tells, empty_tells, idle_tells, no_says, one_say, same_tells, unknowns_other}

-- ---- replication
pub beat_tells : (ring : Layout) (me : ℕ) (d : Durable) (s : Soft) → KeepsPending d.log s → Tells d (beat ring me d s)
unfolding beat
beat_tells ring me d s k = go (is_leader s.role)
  where
    go : (b : Bool) → Tells d (if b then stepped [] (map (beat_to ring me d s) s.peers) [] (record s { peers = map quieter s.peers }) else idle s)
    go true = same_tells d s (record s { peers = map quieter s.peers }) [] (map (beat_to ring me d s) s.peers) [] k refl refl refl no_says
    go false = idle_tells d s k

match_tells : (ring : Layout) (me : ℕ) (d : Durable) (s : Soft) (first : List Action) (says : List Say) (sent : Append) → s.pending ≡ [] → AreOther says
    → Tells d (match_append ring me d s first says sent)
match_tells ring me d s first says sent none other = go (nat_lt (length d.log) sent.prev.position) (term_at d.log sent.prev.position == sent.prev.term)
  where
    last_matched : ℕ
    last_matched = sent.prev.position + length sent.entries

    rest : List Entry
    rest = unmatched d.log sent.prev.position sent.entries

    go : (a b : Bool) → Tells d (if a then stepped first (reply me sent.leader sent.term false (length d.log) ∷ []) says s
        else (if b then accept ring me d s first says sent else stepped first (reply me sent.leader sent.term false (sent.prev.position - 1) ∷ []) says s))
    go true b = empty_tells d s first (reply me sent.leader sent.term false (length d.log) ∷ []) says none other
    go false true = record {
      pending = record { none = λ is. none; each = λ p in_p. absurd (none_contained p (subst (λ (ps : List Pending). Contains ps p) none in_p)) };
      says = λ x in_x gtid opid term is. absurd (other x in_x gtid opid term is);
    }
    go false false = empty_tells d s first (reply me sent.leader sent.term false (sent.prev.position - 1) ∷ []) says none other

pub append_tells : (ring : Layout) (me : ℕ) (d : Durable) (s : Soft) (sent : Append) → KeepsPending d.log s → Tells d (on_append ring me d s sent)
unfolding on_append
append_tells ring me d s sent k = go (outgrows d sent) (nat_lt sent.term d.term) (leads_it d s sent) (tear_in d s sent)
  where
    follows : (b : Bool) (o : Role) → s.role ≡ o → Tells d (if b then match_append ring me d (demoted s) (action.SetTerm sent.term ∷ []) (unknowns s) sent
        else elim o [ Follower ↦ match_append ring me d s [] [] sent | Candidate ↦ match_append ring me d (demoted s) [] (unknowns s) sent | Leader ↦ idle s ])
    follows true o is = match_tells ring me d (demoted s) (action.SetTerm sent.term ∷ []) (unknowns s) sent refl (unknowns_other s)
    follows false Follower is = match_tells ring me d s [] [] sent (k.none (ap is_leader is)) no_says
    follows false Candidate is = match_tells ring me d (demoted s) [] (unknowns s) sent refl (unknowns_other s)
    follows false Leader is = idle_tells d s k

    go : (a b c : Bool) (t : Option Tear)
        → Tells d (if a then idle s else (if b then stepped [] (reply me sent.leader d.term false 0 ∷ []) [] s else (if c then idle s else elim t [ Some t ↦ idle s | None ↦ follow_append ring me d s sent ])))
    go true b c t = idle_tells d s k
    go false true c t = same_tells d s s [] (reply me sent.leader d.term false 0 ∷ []) [] k refl refl refl no_says
    go false false true t = idle_tells d s k
    go false false false (Some t) = idle_tells d s k
    go false false false None = follows (nat_lt d.term sent.term) s.role refl

ack_tells : (ring : Layout) (me from : ℕ) (d : Durable) (s : Soft) (answer : AppendReply) → KeepsPending d.log s → Tells d (on_ack ring me d s from answer)
unfolding on_ack
ack_tells ring me from d s answer k = go (nat_lt d.term answer.term) s.role refl (answer.term == d.term && nat_le answer.position (length d.log)) (counts d s answer) refl
  where
    go : (a : Bool) (o : Role) → s.role ≡ o → (u b : Bool) → counts d s answer ≡ b
        → Tells d (if a then stepped (action.SetTerm answer.term ∷ []) [] (unknowns s) (demoted s) else (if b then leader_hears ring me d s from answer else idle s))
    go true o is u b c = empty_tells d (demoted s) (action.SetTerm answer.term ∷ []) [] (unknowns s) refl (unknowns_other s)
    go false o is u false c = idle_tells d s k
    go false o is u true c =
        advance_tells ring me d (record s { peers = heard_among s.peers from answer.ok answer.position }) [] []
        (ap is_leader (counted d s answer c).leads) k.each no_says

pub answered_tells : (ring : Layout) (me from : ℕ) (d : Durable) (s : Soft) (answer : AppendReply) → KeepsPending d.log s
    → Tells d (on_answer ring me d s from answer)
unfolding on_answer
answered_tells ring me from d s answer k = go (counts d s answer && answer.ok)
  where
    go : (a : Bool) → Tells d (if a then with_more (on_ack ring me d s from answer) (after_ok me d (on_ack ring me d s from answer).soft.peers from s.transfer) else on_ack ring me d s from answer)
    go true = let x = ack_tells ring me from d s answer k in record { pending = x.pending; says = x.says }
    go false = ack_tells ring me from d s answer k

pub relay_tells : (me from : ℕ) (d : Durable) (s : Soft) (sent : ProxyAppend) → KeepsPending d.log s → Tells d (relay me d s from sent)
unfolding relay
relay_tells me from d s sent k =
    same_tells d s s [] (message me sent.target (body.Append (record { term = sent.term; leader = from; prev = sent.prev; commit = sent.commit; entries = found d.log sent.opids })) ∷ []) [] k refl refl refl no_says

-- ---- a client's words
refused_tells : (d : Durable) (s : Soft) (client : ℕ) (c : Cause) → KeepsPending d.log s → Tells d (refused s client c)
refused_tells d s client c k =
    same_tells d s s [] [] (record { client = client; what = what.Refused c } ∷ []) k refl refl refl
    (one_say (record { client = client; what = what.Refused c }) (λ g o t is. absurd cc))

more_stands : (l r : List Entry) (gtid : Gtid) (opid : Opid) → IsEntryFor l gtid opid → IsEntryFor (l ++ r) gtid opid
more_stands l r gtid opid x = record { entry = x.entry; at = entry_more l r opid.position x.entry x.at; named = x.named; numbered = x.numbered }

pub write_tells : (ring : Layout) (me client : ℕ) (d : Durable) (s : Soft) (changes : List Change) → KeepsPending d.log s
    → Tells d (write ring me d s client changes)
unfolding write
write_tells ring me client d s changes k = go (write_refusal ring me d s changes) refl
  where
    go : (c : Option Cause) → write_refusal ring me d s changes ≡ c
        → Tells d (elim c [ Some c ↦ refused s client c | None ↦ write_entry_step ring me d s client (write_txn ring me d changes) (write_entry ring me d changes) ])
    go (Some c) is = refused_tells d s client c k
    go None is =
        let e : Entry = write_entry ring me d changes in
        let t : Txn = write_txn ring me d changes in
        let new : Pending = record { client = client; gtid = t.gtid; opid = e.opid } in
        advance_tells ring me d (awaits s client e t.gtid) (action.Prepare (record { opid = e.opid; txn = t }) ∷ action.Append (e ∷ []) ∷ []) []
        (ap is_leader (write_leads ring me d s changes is))
        (λ p in_p. elim (Contains-push_cases s.pending new p in_p) [
          | inl old ↦ more_stands d.log (e ∷ []) p.gtid p.opid (k.each p old)
          | inr here ↦ subst (λ (w : Pending). IsEntryFor (d.log ++ e ∷ []) w.gtid w.opid) here (record { entry = e; at = get_end d.log e; named = refl; numbered = refl })
        ]) no_says

pub rotate_tells : (ring : Layout) (me client : ℕ) (d : Durable) (s : Soft) → KeepsPending d.log s → Tells d (rotate ring me d s client)
unfolding rotate
rotate_tells ring me client d s k = go (rotate_refusal ring me d s) refl
  where
    go : (c : Option Cause) → rotate_refusal ring me d s ≡ c
        → Tells d (elim c [ Some c ↦ refused s client c | None ↦ rotate_step ring me d s client (own_entry ring me d payload.Rotate) ])
    go (Some c) is = refused_tells d s client c k
    go None is =
        let e : Entry = own_entry ring me d payload.Rotate in
        advance_tells ring me d s (action.Append (e ∷ []) ∷ []) (record { client = client; what = what.Rotated e.opid } ∷ [])
        (ap is_leader (rotate_leads ring me d s is))
        (λ p in_p. more_stands d.log (e ∷ []) p.gtid p.opid (k.each p in_p))
        (one_say (record { client = client; what = what.Rotated e.opid }) (λ g o t is. absurd cc))

pub transfer_tells : (ring : Layout) (me client target : ℕ) (d : Durable) (s : Soft) → KeepsPending d.log s → Tells d (ask_transfer ring me d s client target)
unfolding ask_transfer
transfer_tells ring me client target d s k = go (transfer_refusal ring me s target)
  where
    go : (c : Option Cause) → Tells d (elim c [ Some c ↦ refused s client c | None ↦ begin_round me d s client target ])
    go (Some c) = refused_tells d s client c k
    go None =
        same_tells d s (record s { rounds = suc s.rounds; transfer = transfer.Mock target (suc s.rounds) client }) []
        (message me target (body.MockStart (record { term = d.term; round = suc s.rounds; last = last d.log })) ∷ []) [] k refl refl refl no_says

pub cancel_tells : (d : Durable) (s : Soft) (client : ℕ) → KeepsPending d.log s → Tells d (cancel s client)
unfolding cancel
cancel_tells d s client k = go (is_off s.transfer)
  where
    go : (b : Bool) → Tells d (if b then idle s else stepped [] [] (record { client = client; what = what.Cancelled } ∷ []) (record s { transfer = transfer.Off }))
    go true = idle_tells d s k
    go false =
        same_tells d s (record s { transfer = transfer.Off }) [] [] (record { client = client; what = what.Cancelled } ∷ []) k refl refl refl
        (one_say (record { client = client; what = what.Cancelled }) (λ g o t is. absurd cc))
