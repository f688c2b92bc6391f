-- Handing leadership over: no step of it has an action, and its messages claim nothing, so role, commit count, grants and peers stay.
use Rattle.std.proofs.Common.{◌≡◌, ℕ, ◌==◌, ◌&&◌, ◌||◌, [], ◌∷◌, ◌++◌, if◌then◌else◌, Bool, List, None, Option, Some, false, inl, inr, length, not, refl, subst, suc, true}
use Rattle.std.specs.List.{Contains}
use Rattle.ring_types.specs.Rings.{Layout, is_voter, votes}
use Rattle.ring_types.specs.declared.members.Member.{Member}
use Rattle.ring_types.specs.declared.entries.Opid.{Opid}
use Rattle.ring_types.specs.Logs.{last}
use Rattle.ring_model.specs.declared.messages.Body.{Body}
use Rattle.ring_model.specs.declared.effects.Cause.{Cause}
use Rattle.ring_model.specs.declared.nodes.Durable.{Durable}
use Rattle.ring_model.specs.declared.messages.Message.{Message}
use Rattle.ring_model.specs.declared.nodes.Mock.{Mock}
use Rattle.ring_model.specs.declared.messages.MockReply.{MockReply}
use Rattle.ring_model.specs.declared.messages.MockRequest.{MockRequest}
use Rattle.ring_model.specs.declared.messages.MockResult.{MockResult}
use Rattle.ring_model.specs.declared.messages.MockStart.{MockStart}
use Rattle.ring_model.specs.declared.nodes.Peer.{Peer}
use Rattle.ring_model.specs.declared.effects.Say.{Say}
use Rattle.ring_model.specs.declared.nodes.Soft.{Soft}
use Rattle.ring_model.specs.declared.nodes.Transfer.{Transfer}
use Rattle.ring_model.specs.Transfers.{ask_transfer, begin_mock, begin_round, cancel, count_answer, deciding, hand_over, has_matched, is_off, is_old_round, mock_hears, mock_requests, mock_result, on_mock_reply, on_mock_request, on_mock_result, on_mock_start, opening, own_failed, own_passed, passes, result_heard, transfer_hears, transfer_refusal, verdict, with_answer}
use Rattle.ring_model.specs.Steps.{idle, message, stepped}
use Rattle.ring_model.specs.Nodes.{is_follower}
use Rattle.ring_model.specs.Quorums.{is_listed}
use Rattle.ring_model.specs.Worlds.{passed}
use Rattle.ring_model.specs.Writes.{refused}
use Rattle.ring_model.specs.Replication.{reply}
use Rattle.ring_model.specs.declared.messages.Body.TheVariants as body
use Rattle.ring_model.specs.declared.nodes.Transfer.TheVariants as transfer
use Rattle.ring_model.specs.declared.nodes.Mock.TheVariants as mock
use Rattle.ring_model.specs.declared.effects.What.TheVariants as what
use Rattle.ring_model.proofs.Lists.{cons_cases, none_contained}
use Rattle.ring_model.proofs.Invariant.{History, IsHistory, IsNode, IsRunning, IsSent}
use Rattle.ring_model.proofs.Turns.{IsRow}
use Rattle.ring_model.proofs.Plain.{idle_row, plain_row, same_role}
use Rattle.ring_model.proofs.Writes.{refused_row}

-- what such a message says claims nothing
abbrev IsMute : Body → Type 0
IsMute (body.MockStart sent) = Unit {0}
IsMute (body.MockRequest sent) = Unit {0}
IsMute (body.MockReply sent) = Unit {0}
IsMute (body.MockResult sent) = Unit {0}
IsMute (body.TimeoutNow term) = Unit {0}
IsMute _ = ⊥

mute_sent : (ring : Layout) (h : History) (from to : ℕ) (b : Body) → IsMute b → IsSent ring h from to b
mute_sent ring h from to (body.MockStart sent) x = tt
mute_sent ring h from to (body.MockRequest sent) x = tt
mute_sent ring h from to (body.MockReply sent) x = tt
mute_sent ring h from to (body.MockResult sent) x = tt
mute_sent ring h from to (body.TimeoutNow term) x = tt
mute_sent ring h from to (body.RequestVote asked) x = absurd x
mute_sent ring h from to (body.VoteReply reply) x = absurd x
mute_sent ring h from to (body.Append sent) x = absurd x
mute_sent ring h from to (body.AppendReply answer) x = absurd x
mute_sent ring h from to (body.ProxyAppend sent) x = absurd x
mute_sent ring h from to (body.ClientWrite changes) x = absurd x
mute_sent ring h from to body.ClientRotate x = absurd x
mute_sent ring h from to (body.ClientTransfer target) x = absurd x
mute_sent ring h from to body.ClientCancel x = absurd x
mute_sent ring h from to (body.ClientReply what) x = absurd x

-- each message is the node's own and claims nothing
abbrev AreMute : ℕ → List Message → Type 0
AreMute id ms = (m : Message) → Contains ms m → (m.from ≡ id) × IsMute m.body

mute_none : (id : ℕ) → AreMute id []
mute_none id m in_m = absurd (none_contained m in_m)

mute_cons : (id to : ℕ) (b : Body) (ms : List Message) → IsMute b → AreMute id ms → AreMute id (message id to b ∷ ms)
mute_cons id to b ms x rest m in_m = elim (cons_cases (message id to b) ms m in_m) [
  | inl here ↦ subst (λ (w : Message). (w.from ≡ id) × IsMute w.body) here (refl, x)
  | inr there ↦ rest m there
]

-- a step without actions that leaves what safety looks at, and whose messages claim nothing
mute_row : (ring : Layout) (h : History) (id : ℕ) (d : Durable) (s o : Soft) (ms : List Message) (says : List Say) → IsHistory ring h → IsNode ring h id d → IsRunning ring h id d s
    → o.role ≡ s.role → o.commit ≡ s.commit → o.grants ≡ s.grants → o.peers ≡ s.peers → AreMute id ms → IsRow ring h id d s (stepped [] ms says o)
mute_row ring h id d s o ms says k n r same count grants peers mute =
    plain_row ring h id d s o ms says k n r same count (same_role h id d s o s.role grants peers r.role)
    (λ m in_m. let x = mute m in_m in record {
      sent = mute_sent ring h m.from m.to m.body x.1;
      from = x.0;
      never = λ u v is. subst IsMute is x.1;
    })

-- ---- a client's words
pub transfer_row : (ring : Layout) (h : History) (id client target : ℕ) (d : Durable) (s : Soft) → IsHistory ring h → IsNode ring h id d → IsRunning ring h id d s → IsRow ring h id d s (ask_transfer ring id d s client target)
unfolding ask_transfer
transfer_row ring h id client target d s k n r = go (transfer_refusal ring id s target)
  where
    go : (c : Option Cause) → IsRow ring h id d s (elim c [ Some c ↦ refused s client c | None ↦ begin_round id d s client target ])
    go (Some c) = refused_row ring h id client c d s r
    go None = mute_row ring h id d s (record s { rounds = suc s.rounds; transfer = transfer.Mock target (suc s.rounds) client })
        (message id target (body.MockStart (record { term = d.term; round = suc s.rounds; last = last d.log })) ∷ []) [] k n r refl refl refl refl
        (mute_cons id target (body.MockStart (record { term = d.term; round = suc s.rounds; last = last d.log })) [] tt (mute_none id))

pub cancel_row : (ring : Layout) (h : History) (id client : ℕ) (d : Durable) (s : Soft) → IsHistory ring h → IsNode ring h id d → IsRunning ring h id d s → IsRow ring h id d s (cancel s client)
unfolding cancel
cancel_row ring h id client d s k n r = go (is_off s.transfer)
  where
    go : (b : Bool) → IsRow ring h id d s (if b then idle s else stepped [] [] (record { client = client; what = what.Cancelled } ∷ []) (record s { transfer = transfer.Off }))
    go true = idle_row ring h id d s r
    go false = mute_row ring h id d s (record s { transfer = transfer.Off }) [] (record { client = client; what = what.Cancelled } ∷ []) k n r refl refl refl refl (mute_none id)

-- ---- the mock election
result_mute : (id leader term round : ℕ) (ok : Bool) → AreMute id (mock_result id leader term round ok ∷ [])
result_mute id leader term round ok = mute_cons id leader (body.MockResult (record { term = term; round = round; ok = ok })) [] tt (mute_none id)

requests_mute : (id term round : ℕ) (asked : Opid) (members : List Member) → AreMute id (mock_requests id term round asked members)
requests_mute id term round asked [] = mute_none id
requests_mute id term round asked (m ∷ members) = go (m.id == id) (is_voter m.kind) (requests_mute id term round asked members)
  where
    go : (a b : Bool) → AreMute id (mock_requests id term round asked members)
        → AreMute id (if a then mock_requests id term round asked members
        else (if b then message id m.id (body.MockRequest (record { term = term; round = round; last = asked })) ∷ mock_requests id term round asked members else mock_requests id term round asked members))
    go true b rest = rest
    go false true rest = mute_cons id m.id (body.MockRequest (record { term = term; round = round; last = asked })) (mock_requests id term round asked members) tt rest
    go false false rest = rest

opening_mute : (ring : Layout) (id from : ℕ) (d : Durable) (sent : MockStart) → AreMute id (opening ring id d from sent)
opening_mute ring id from d sent = go (verdict ring from id (own_passed id d sent) (own_failed id d sent))
  where
    go : (v : Option Bool) → AreMute id (elim v [ Some ok ↦ mock_result id from sent.term sent.round ok ∷ [] | None ↦ mock_requests id sent.term sent.round sent.last ring.members ])
    go (Some ok) = result_mute id from sent.term sent.round ok
    go None = requests_mute id sent.term sent.round sent.last ring.members

pub mock_start_row : (ring : Layout) (h : History) (id from : ℕ) (sent : MockStart) (d : Durable) (s : Soft) → IsHistory ring h → IsNode ring h id d → IsRunning ring h id d s → IsRow ring h id d s (on_mock_start ring id d s from sent)
unfolding on_mock_start
mock_start_row ring h id from sent d s k n r = go (sent.term == d.term && votes ring id && is_follower s.role && not (is_old_round s.mock from sent.round))
  where
    go : (b : Bool) → IsRow ring h id d s (if b then begin_mock ring id d s from sent else idle s)
    go true = mute_row ring h id d s (record s { mock = mock.On from sent.round sent.last (own_passed id d sent) (own_failed id d sent) }) (opening ring id d from sent) [] k n r refl refl refl refl (opening_mute ring id from d sent)
    go false = idle_row ring h id d s r

pub mock_request_row : (ring : Layout) (h : History) (id from : ℕ) (sent : MockRequest) (d : Durable) (s : Soft) → IsHistory ring h → IsNode ring h id d → IsRunning ring h id d s → IsRow ring h id d s (on_mock_request ring id d s from sent)
unfolding on_mock_request
mock_request_row ring h id from sent d s k n r = go (sent.term == d.term && votes ring id)
  where
    go : (b : Bool) → IsRow ring h id d s (if b then stepped [] (message id from (body.MockReply (record { term = d.term; round = sent.round; ok = passes d sent.last })) ∷ []) [] s else idle s)
    go true = mute_row ring h id d s s (message id from (body.MockReply (record { term = d.term; round = sent.round; ok = passes d sent.last })) ∷ []) [] k n r refl refl refl refl
        (mute_cons id from (body.MockReply (record { term = d.term; round = sent.round; ok = passes d sent.last })) [] tt (mute_none id))
    go false = idle_row ring h id d s r

deciding_mute : (id leader term round : ℕ) (before after : Option Bool) → AreMute id (deciding id leader term round before after)
deciding_mute id leader term round (Some b) after = mute_none id
deciding_mute id leader term round None None = mute_none id
deciding_mute id leader term round None (Some ok) = result_mute id leader term round ok

with_answer_row : (ring : Layout) (h : History) (id : ℕ) (d : Durable) (s : Soft) (leader round : ℕ) (asked : Opid) (passed failed more_passed more_failed : List ℕ) → IsHistory ring h → IsNode ring h id d → IsRunning ring h id d s
    → IsRow ring h id d s (with_answer ring id d s leader round asked passed failed more_passed more_failed)
with_answer_row ring h id d s leader round asked passed failed more_passed more_failed k n r =
    mute_row ring h id d s (record s { mock = mock.On leader round asked more_passed more_failed }) (deciding id leader d.term round (verdict ring leader id passed failed) (verdict ring leader id more_passed more_failed)) [] k n r refl refl refl refl
    (deciding_mute id leader d.term round (verdict ring leader id passed failed) (verdict ring leader id more_passed more_failed))

count_row : (ring : Layout) (h : History) (id from : ℕ) (answer : MockReply) (d : Durable) (s : Soft) (leader : ℕ) (asked : Opid) (passed failed : List ℕ) → IsHistory ring h → IsNode ring h id d → IsRunning ring h id d s
    → IsRow ring h id d s (count_answer ring id d s from answer leader asked passed failed)
count_row ring h id from answer d s leader asked passed failed k n r = go (is_listed passed from || is_listed failed from) answer.ok
  where
    go : (a b : Bool) → IsRow ring h id d s (if a then idle s
        else (if b then with_answer ring id d s leader answer.round asked passed failed (passed ++ from ∷ []) failed
        else with_answer ring id d s leader answer.round asked passed failed passed (failed ++ from ∷ [])))
    go true b = idle_row ring h id d s r
    go false true = with_answer_row ring h id d s leader answer.round asked passed failed (passed ++ from ∷ []) failed k n r
    go false false = with_answer_row ring h id d s leader answer.round asked passed failed passed (failed ++ from ∷ []) k n r

mock_row : (ring : Layout) (h : History) (id from : ℕ) (answer : MockReply) (d : Durable) (s : Soft) (held : Mock) → IsHistory ring h → IsNode ring h id d → IsRunning ring h id d s → IsRow ring h id d s (mock_hears ring id d s from answer held)
mock_row ring h id from answer d s mock.Off k n r = idle_row ring h id d s r
mock_row ring h id from answer d s (mock.On leader round asked passed failed) k n r = go (answer.term == d.term && answer.round == round)
  where
    go : (b : Bool) → IsRow ring h id d s (if b then count_answer ring id d s from answer leader asked passed failed else idle s)
    go true = count_row ring h id from answer d s leader asked passed failed k n r
    go false = idle_row ring h id d s r

pub mock_reply_row : (ring : Layout) (h : History) (id from : ℕ) (answer : MockReply) (d : Durable) (s : Soft) → IsHistory ring h → IsNode ring h id d → IsRunning ring h id d s → IsRow ring h id d s (on_mock_reply ring id d s from answer)
unfolding on_mock_reply
mock_reply_row ring h id from answer d s k n r = mock_row ring h id from answer d s s.mock k n r

-- ---- the result at the leader
over_mute : (id : ℕ) (d : Durable) (peers : List Peer) (target : ℕ) → AreMute id (hand_over id d peers target)
over_mute id d peers target = go (has_matched peers target (length d.log))
  where
    go : (b : Bool) → AreMute id (if b then message id target (body.TimeoutNow d.term) ∷ [] else [])
    go true = mute_cons id target (body.TimeoutNow d.term) [] tt (mute_none id)
    go false = mute_none id

result_row : (ring : Layout) (h : History) (id : ℕ) (d : Durable) (s : Soft) (ok : Bool) (target client : ℕ) → IsHistory ring h → IsNode ring h id d → IsRunning ring h id d s → IsRow ring h id d s (result_heard id d s ok target client)
result_row ring h id d s true target client k n r =
    mute_row ring h id d s (record s { transfer = transfer.Handing target client }) (hand_over id d s.peers target) (record { client = client; what = what.Moving target } ∷ []) k n r refl refl refl refl (over_mute id d s.peers target)
result_row ring h id d s false target client k n r =
    mute_row ring h id d s (record s { transfer = transfer.Off }) [] (record { client = client; what = what.MoveFailed target } ∷ []) k n r refl refl refl refl (mute_none id)

hearing_row : (ring : Layout) (h : History) (id : ℕ) (d : Durable) (s : Soft) (sent : MockResult) (t : Transfer) → IsHistory ring h → IsNode ring h id d → IsRunning ring h id d s → IsRow ring h id d s (transfer_hears id d s sent t)
hearing_row ring h id d s sent transfer.Off k n r = idle_row ring h id d s r
hearing_row ring h id d s sent (transfer.Mock target round client) k n r = go (sent.term == d.term && sent.round == round)
  where
    go : (b : Bool) → IsRow ring h id d s (if b then result_heard id d s sent.ok target client else idle s)
    go true = result_row ring h id d s sent.ok target client k n r
    go false = idle_row ring h id d s r
hearing_row ring h id d s sent (transfer.Handing target client) k n r = idle_row ring h id d s r

pub mock_result_row : (ring : Layout) (h : History) (id : ℕ) (sent : MockResult) (d : Durable) (s : Soft) → IsHistory ring h → IsNode ring h id d → IsRunning ring h id d s → IsRow ring h id d s (on_mock_result id d s sent)
unfolding on_mock_result
mock_result_row ring h id sent d s k n r = hearing_row ring h id d s sent s.transfer k n r
