-- Elections, real and mock, tell no client that a write is committed but where the winner's own entry moves its commit count.
use Rattle.std.proofs.Common.{◌≡◌, ℕ, ◌==◌, ◌&&◌, ◌||◌, [], ◌∷◌, ◌++◌, ◌∙◌, if◌then◌else◌, Bool, List, None, Option, Some, ap, false, length, not, refl, subst, suc, true}
use Rattle.std.specs.List.{Contains}
use Rattle.std.specs.Prelude.{nat_lt}
use Rattle.ring_types.specs.declared.entries.Entry.{Entry}
use Rattle.ring_types.specs.declared.entries.Grant.{Grant}
use Rattle.ring_types.specs.Rings.{Layout, votes}
use Rattle.ring_types.specs.declared.entries.Opid.{Opid}
use Rattle.ring_types.specs.declared.entries.Vote.{Vote}
use Rattle.ring_types.specs.Logs.{at_least, last}
use Rattle.ring_model.specs.declared.effects.Action.{Action}
use Rattle.ring_model.specs.declared.nodes.Role.TheVariants.{Candidate, Follower, Leader}
use Rattle.ring_model.specs.declared.nodes.Durable.{Durable}
use Rattle.ring_model.specs.declared.messages.Message.{Message}
use Rattle.ring_model.specs.declared.nodes.Mock.{Mock}
use Rattle.ring_model.specs.declared.messages.MockReply.{MockReply}
use Rattle.ring_model.specs.declared.messages.MockRequest.{MockRequest}
use Rattle.ring_model.specs.declared.messages.MockResult.{MockResult}
use Rattle.ring_model.specs.declared.messages.MockStart.{MockStart}
use Rattle.ring_model.specs.declared.nodes.Pending.{Pending}
use Rattle.ring_model.specs.declared.messages.RequestVote.{RequestVote}
use Rattle.ring_model.specs.declared.nodes.Role.{Role}
use Rattle.ring_model.specs.declared.effects.Say.{Say}
use Rattle.ring_model.specs.declared.nodes.Soft.{Soft}
use Rattle.ring_model.specs.declared.nodes.Transfer.{Transfer}
use Rattle.ring_model.specs.declared.messages.VoteReply.{VoteReply}
use Rattle.ring_model.specs.Replication.{reply}
use Rattle.ring_model.specs.Steps.{demoted, idle, message, own_entry, stepped, unknowns}
use Rattle.ring_model.specs.Transfers.{begin_mock, deciding, hand_over, is_old_round, mock_hears, on_mock_reply, on_mock_request, on_mock_result, on_mock_start, on_timeout, opening, own_failed, own_passed, passes, result_heard, transfer_hears, verdict, with_answer}
use Rattle.ring_model.specs.Actions.{all_done, has_room, vote_in}
use Rattle.ring_model.specs.Elections.{answer_by, answer_request, cast_actions, elect, floor_of, grant_vote, granted_now, has_granted, has_won, lead, lead_or_ask, leading, may_elect, new_vote, on_reply, on_request, own_grant, refuse_vote, refused_now, requests, stand, stand_actions}
use Rattle.ring_model.specs.Nodes.{is_follower, is_leader}
use Rattle.ring_model.specs.Quorums.{is_listed}
use Rattle.ring_model.specs.Worlds.{passed}
use Rattle.ring_model.specs.declared.effects.Action.TheVariants as action
use Rattle.ring_model.specs.declared.messages.Body.TheVariants as body
use Rattle.ring_types.specs.declared.entries.Payload.TheVariants as payload
use Rattle.ring_model.specs.declared.nodes.Transfer.TheVariants as transfer
use Rattle.ring_model.specs.declared.nodes.Mock.TheVariants as mock
use Rattle.ring_model.specs.declared.effects.What.TheVariants as what
use Rattle.ring_model.proofs.Lists.{none_contained}
use Rattle.ring_model.proofs.HeldElections.{done_join}
use Rattle.ring_model.proofs.TellingLeader.{AreOther, KeepsPending, Tells, advance_tells, empty_tells, idle_tells, no_says, one_say, same_tells, unknowns_other}

-- ---- elections
ask_tells : (ring : Layout) (me : ℕ) (d : Durable) (s : Soft) (first : List Action) (says : List Say) (grants : List Grant) (asks : List Message)
    → s.pending ≡ [] → AreOther says → Tells d (lead_or_ask ring me d s first says grants asks)
unfolding lead_or_ask
ask_tells ring me d s first says grants asks none other = go (has_won ring me (all_done d first) grants)
  where
    go : (b : Bool) → Tells d (if b then lead ring me d s first says grants else stepped first asks says (record s { role = Candidate; grants = grants }))
    go true =
        advance_tells ring me d (leading ring me (suc (length (all_done d first).log)) s grants)
        (first ++ (action.Append (own_entry ring me (all_done d first) payload.NoOp ∷ []) ∷ [])) says refl
        (λ p in_p. absurd (none_contained p (subst (λ (ps : List Pending). Contains ps p) none in_p))) other
    go false = empty_tells d (record s { role = Candidate; grants = grants }) first asks says none other

pub elect_tells : (ring : Layout) (me : ℕ) (d : Durable) (s : Soft) → KeepsPending d.log s → Tells d (elect ring me d s)
unfolding elect
elect_tells ring me d s k = go (may_elect ring me d s)
  where
    go : (b : Bool) → Tells d (if b then stand ring me d s else idle s)
    go true =
        ask_tells ring me d (demoted s) (stand_actions ring me d s) (unknowns s) (own_grant me (all_done d (stand_actions ring me d s)) ∷ [])
        (requests me (suc d.term) (last d.log) ring.members) refl (unknowns_other s)
    go false = idle_tells d s k

pub timeout_tells : (ring : Layout) (me : ℕ) (d : Durable) (s : Soft) (term : ℕ) → KeepsPending d.log s → Tells d (on_timeout ring me d s term)
unfolding on_timeout
timeout_tells ring me d s term k = go (term == d.term && votes ring me && not (is_leader s.role))
  where
    go : (b : Bool) → Tells d (if b then elect ring me d s else idle s)
    go true = elect_tells ring me d s k
    go false = idle_tells d s k

-- the answer of a voter, after actions that leave the log
answer_tells : (ring : Layout) (me : ℕ) (d : Durable) (s : Soft) (first : List Action) (says : List Say) (from : ℕ) (asked : RequestVote)
    → KeepsPending d.log s → (all_done d first).log ≡ d.log → AreOther says
    → Tells d (answer_request ring me d s first says from asked)
answer_tells ring me d s first says from asked k log other = go (vote_in d.votes asked.term)
  where
    cast_log : (all_done d (cast_actions ring d s first from asked.term)).log ≡ d.log
    cast_log = ap (λ (w : Durable). w.log) (done_join d first (action.Vote (new_vote ring asked.term from) (floor_of d s) ∷ [])) ∙ log

    refuses : Tells d (refused_now me s first says from asked.term)
    refuses = same_tells d s s first (refuse_vote me from asked.term ∷ []) says k log refl refl other

    kept : (b : Bool) → Tells d (if b then granted_now me d s first says from asked else refused_now me s first says from asked.term)
    kept true = same_tells d s s first (grant_vote me from asked (all_done d first) ∷ []) says k log refl refl other
    kept false = refuses

    fresh : (a b : Bool) → Tells d (if a then (if b then granted_now me d s (cast_actions ring d s first from asked.term) says from asked else refused_now me s first says from asked.term) else refused_now me s first says from asked.term)
    fresh true true =
        same_tells d s s (cast_actions ring d s first from asked.term)
        (grant_vote me from asked (all_done d (cast_actions ring d s first from asked.term)) ∷ []) says k cast_log refl refl other
    fresh true false = refuses
    fresh false b = refuses

    go : (v : Option Vote) → Tells d (answer_by ring me d s first says from asked v)
    go (Some w) = kept (w.candidate == from)
    go None = fresh (at_least asked.last (last d.log)) (has_room (floor_of d s) d.votes)

demoted_keeps : (log : List Entry) (s : Soft) → KeepsPending log (demoted s)
demoted_keeps log s = record { none = λ is. refl; each = λ p in_p. absurd (none_contained p in_p) }

pub request_tells : (ring : Layout) (me from : ℕ) (d : Durable) (s : Soft) (asked : RequestVote) → KeepsPending d.log s
    → Tells d (on_request ring me d s from asked)
unfolding on_request
request_tells ring me from d s asked k = go (votes ring me) (nat_lt asked.term d.term) (nat_lt d.term asked.term)
  where
    go : (v a b : Bool) → Tells d (if v then (if a then refused_now me s [] [] from d.term
        else (if b then answer_request ring me d (demoted s) (action.SetTerm asked.term ∷ []) (unknowns s) from asked else answer_request ring me d s [] [] from asked)) else idle s)
    go false a b = idle_tells d s k
    go true true b = same_tells d s s [] (refuse_vote me from d.term ∷ []) [] k refl refl refl no_says
    go true false true =
        answer_tells ring me d (demoted s) (action.SetTerm asked.term ∷ []) (unknowns s) from asked (demoted_keeps d.log s) refl (unknowns_other s)
    go true false false = answer_tells ring me d s [] [] from asked k refl no_says

pub reply_tells : (ring : Layout) (me from : ℕ) (d : Durable) (s : Soft) (reply : VoteReply) → KeepsPending d.log s → Tells d (on_reply ring me d s from reply)
unfolding on_reply
reply_tells ring me from d s reply k = go s.role refl (nat_lt d.term reply.term) (reply.granted && reply.term == d.term && not (has_granted s.grants from))
  where
    go : (o : Role) → s.role ≡ o → (a b : Bool) → Tells d (elim o [
      | Follower ↦ idle s
      | Candidate ↦ (if a then stepped (action.SetTerm reply.term ∷ []) [] (unknowns s) (demoted s) else (if b then lead_or_ask ring me d s [] [] (s.grants ++ record { voter = from; votes = reply.votes } ∷ []) [] else idle s))
      | Leader ↦ idle s
    ])
    go Follower is a b = idle_tells d s k
    go Leader is a b = idle_tells d s k
    go Candidate is true b = empty_tells d (demoted s) (action.SetTerm reply.term ∷ []) [] (unknowns s) refl (unknowns_other s)
    go Candidate is false true =
        ask_tells ring me d s [] [] (s.grants ++ record { voter = from; votes = reply.votes } ∷ []) [] (k.none (ap is_leader is)) no_says
    go Candidate is false false = idle_tells d s k

-- ---- the mock election
pub mock_start_tells : (ring : Layout) (me from : ℕ) (d : Durable) (s : Soft) (sent : MockStart) → KeepsPending d.log s
    → Tells d (on_mock_start ring me d s from sent)
unfolding on_mock_start
mock_start_tells ring me from d s sent k = go (sent.term == d.term && votes ring me && is_follower s.role && not (is_old_round s.mock from sent.round))
  where
    go : (b : Bool) → Tells d (if b then begin_mock ring me d s from sent else idle s)
    go true =
        same_tells d s (record s { mock = mock.On from sent.round sent.last (own_passed me d sent) (own_failed me d sent) }) []
        (opening ring me d from sent) [] k refl refl refl no_says
    go false = idle_tells d s k

pub mock_request_tells : (ring : Layout) (me from : ℕ) (d : Durable) (s : Soft) (sent : MockRequest) → KeepsPending d.log s
    → Tells d (on_mock_request ring me d s from sent)
unfolding on_mock_request
mock_request_tells ring me from d s sent k = go (sent.term == d.term && votes ring me)
  where
    go : (b : Bool) → Tells d (if b then stepped [] (message me from (body.MockReply (record { term = d.term; round = sent.round; ok = passes d sent.last })) ∷ []) [] s else idle s)
    go true =
        same_tells d s s [] (message me from (body.MockReply (record { term = d.term; round = sent.round; ok = passes d sent.last })) ∷ []) [] k refl refl refl no_says
    go false = idle_tells d s k

with_answer_tells : (ring : Layout) (me : ℕ) (d : Durable) (s : Soft) (leader round : ℕ) (asked : Opid) (passed failed more_passed more_failed : List ℕ)
    → KeepsPending d.log s
    → Tells d (with_answer ring me d s leader round asked passed failed more_passed more_failed)
with_answer_tells ring me d s leader round asked passed failed more_passed more_failed k =
    same_tells d s (record s { mock = mock.On leader round asked more_passed more_failed }) []
    (deciding me leader d.term round (verdict ring leader me passed failed) (verdict ring leader me more_passed more_failed)) [] k refl refl refl no_says

mock_tells : (ring : Layout) (me from : ℕ) (d : Durable) (s : Soft) (answer : MockReply) (held : Mock) → KeepsPending d.log s
    → Tells d (mock_hears ring me d s from answer held)
mock_tells ring me from d s answer mock.Off k = idle_tells d s k
mock_tells ring me from d s answer (mock.On leader round asked passed failed) k = go (answer.term == d.term && answer.round == round) (is_listed passed from || is_listed failed from) answer.ok
  where
    go : (a b c : Bool) → Tells d (if a then (if b then idle s
        else (if c then with_answer ring me d s leader answer.round asked passed failed (passed ++ from ∷ []) failed
        else with_answer ring me d s leader answer.round asked passed failed passed (failed ++ from ∷ []))) else idle s)
    go false b c = idle_tells d s k
    go true true c = idle_tells d s k
    go true false true = with_answer_tells ring me d s leader answer.round asked passed failed (passed ++ from ∷ []) failed k
    go true false false = with_answer_tells ring me d s leader answer.round asked passed failed passed (failed ++ from ∷ []) k

pub mock_reply_tells : (ring : Layout) (me from : ℕ) (d : Durable) (s : Soft) (answer : MockReply) → KeepsPending d.log s
    → Tells d (on_mock_reply ring me d s from answer)
unfolding on_mock_reply
mock_reply_tells ring me from d s answer k = mock_tells ring me from d s answer s.mock k

result_tells : (me : ℕ) (d : Durable) (s : Soft) (ok : Bool) (target client : ℕ) → KeepsPending d.log s → Tells d (result_heard me d s ok target client)
result_tells me d s true target client k =
    same_tells d s (record s { transfer = transfer.Handing target client }) [] (hand_over me d s.peers target)
    (record { client = client; what = what.Moving target } ∷ []) k refl refl refl
    (one_say (record { client = client; what = what.Moving target }) (λ g o t is. absurd cc))
result_tells me d s false target client k =
    same_tells d s (record s { transfer = transfer.Off }) [] [] (record { client = client; what = what.MoveFailed target } ∷ []) k refl refl refl
    (one_say (record { client = client; what = what.MoveFailed target }) (λ g o t is. absurd cc))

hearing_tells : (me : ℕ) (d : Durable) (s : Soft) (sent : MockResult) (t : Transfer) → KeepsPending d.log s → Tells d (transfer_hears me d s sent t)
hearing_tells me d s sent transfer.Off k = idle_tells d s k
hearing_tells me d s sent (transfer.Mock target round client) k = go (sent.term == d.term && sent.round == round)
  where
    go : (b : Bool) → Tells d (if b then result_heard me d s sent.ok target client else idle s)
    go true = result_tells me d s sent.ok target client k
    go false = idle_tells d s k
hearing_tells me d s sent (transfer.Handing target client) k = idle_tells d s k

pub mock_result_tells : (me : ℕ) (d : Durable) (s : Soft) (sent : MockResult) → KeepsPending d.log s → Tells d (on_mock_result me d s sent)
unfolding on_mock_result
mock_result_tells me d s sent k = hearing_tells me d s sent s.transfer k
