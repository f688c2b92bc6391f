-- Handing leadership over: a mock election at the target first, then the word to elect itself (MyRaft's mock elections, Raft's leadership transfer).
use Rattle.std.specs.Prelude.{◌≡◌, ℕ, zero, suc, ◌+◌, ◌-◌, ◌^◌, ◌==◌, nat_lt, nat_le, if◌then◌else◌, Bool, true, false, not, ◌&&◌, ◌||◌, List, [], ◌∷◌, ◌++◌, length, map, filter, Option, Some, None}
use Rattle.ring_types.specs.declared.limits.TheConstants.{LAST_ROUND, MOCK_LAG}
use Rattle.ring_types.specs.declared.members.Member.{Member}
use Rattle.ring_types.specs.declared.entries.Opid.{Opid}
use Rattle.ring_types.specs.Rings.{Layout, region_of, is_voter, votes}
use Rattle.ring_types.specs.Logs.{last}
use Rattle.ring_model.specs.Quorums.{is_listed, covers}
use Rattle.ring_model.specs.Nodes.{is_leader, is_follower, is_ready}
use Rattle.ring_model.specs.Steps.{stepped, idle, message}
use Rattle.ring_model.specs.Elections.{elect}
use Rattle.ring_model.specs.Replication.{counts, on_ack}
use Rattle.ring_model.specs.Writes.{refused}
use Rattle.ring_model.specs.declared.nodes.Durable.{Durable}
use Rattle.ring_model.specs.declared.nodes.Soft.{Soft}
use Rattle.ring_model.specs.declared.nodes.Peer.{Peer}
use Rattle.ring_model.specs.declared.nodes.Transfer.{Transfer}
use Rattle.ring_model.specs.declared.nodes.Transfer.TheVariants as transfer
use Rattle.ring_model.specs.declared.nodes.Mock.{Mock}
use Rattle.ring_model.specs.declared.nodes.Mock.TheVariants as mock
use Rattle.ring_model.specs.declared.effects.Step.{Step}
use Rattle.ring_model.specs.declared.effects.Say.{Say}
use Rattle.ring_model.specs.declared.effects.What.TheVariants as what
use Rattle.ring_model.specs.declared.effects.Cause.{Cause}
use Rattle.ring_model.specs.declared.effects.Cause.TheVariants as cause
use Rattle.ring_model.specs.declared.messages.Message.{Message}
use Rattle.ring_model.specs.declared.messages.Body.TheVariants as body
use Rattle.ring_model.specs.declared.messages.AppendReply.{AppendReply}
use Rattle.ring_model.specs.declared.messages.MockStart.{MockStart}
use Rattle.ring_model.specs.declared.messages.MockRequest.{MockRequest}
use Rattle.ring_model.specs.declared.messages.MockReply.{MockReply}
use Rattle.ring_model.specs.declared.messages.MockResult.{MockResult}

-- ---- a client asks for a transfer
abbrev pub is_off : Transfer → Bool
is_off transfer.Off = true
is_off (transfer.Mock target round client) = false
is_off (transfer.Handing target client) = false

abbrev pub round_limit : ℕ
round_limit = LAST_ROUND

unfoldable pub transfer_refusal : Layout → ℕ → Soft → ℕ → Option Cause
transfer_refusal ring me s target =
    if not (is_leader s.role) then Some cause.NotLeader
    else (if not (is_ready s) then Some cause.NotReady
    else (if not (is_off s.transfer) then Some cause.Transferring
    else (if nat_le round_limit s.rounds then Some cause.Exhausted
    else (if target == me || not (votes ring target) then Some cause.BadTarget
    else None))))

-- a new round of mock election at the target
abbrev pub begin_round : ℕ → Durable → Soft → ℕ → ℕ → Step
begin_round me d s client target =
    stepped [] (message me target (body.MockStart (record { term = d.term; round = suc s.rounds; last = last d.log })) ∷ []) []
    (record s { rounds = suc s.rounds; transfer = transfer.Mock target (suc s.rounds) client })

unfoldable pub ask_transfer : Layout → ℕ → Durable → Soft → ℕ → ℕ → Step
ask_transfer ring me d s client target = elim (transfer_refusal ring me s target) [ Some c ↦ refused s client c | None ↦ begin_round me d s client target ]

-- a cancel ends a transfer; with none on, nothing happens
unfoldable pub cancel : Soft → ℕ → Step
cancel s client =
    if is_off s.transfer then idle s
    else stepped [] [] (record { client = client; what = what.Cancelled } ∷ []) (record s { transfer = transfer.Off })

-- ---- the mock election at the target
abbrev pub lag_limit : ℕ
lag_limit = MOCK_LAG

-- a voter passes where its log is at most so many entries behind the leader's
abbrev pub passes : Durable → Opid → Bool
passes d asked = nat_le asked.position (length d.log + lag_limit)

-- the voters among these cover the leader's region and the node's own
abbrev pub covers_both : Layout → ℕ → ℕ → List ℕ → Bool
covers_both ring leader me ids = covers ring (region_of ring leader) ids && covers ring (region_of ring me) ids

-- the members that are not among the failed
abbrev pub unfailed : Layout → List ℕ → List ℕ
unfailed ring failed = map (λ (m : Member). m.id) (filter (λ (m : Member). not (is_listed failed m.id)) ring.members)

-- decided ok once the passed cover both regions; not ok once the voters that have not failed no longer do
abbrev pub verdict : Layout → ℕ → ℕ → List ℕ → List ℕ → Option Bool
verdict ring leader me passed failed =
    if covers_both ring leader me passed then Some true
    else (if covers_both ring leader me (unfailed ring failed) then None else Some false)

abbrev pub mock_result : ℕ → ℕ → ℕ → ℕ → Bool → Message
mock_result me leader term round ok = message me leader (body.MockResult (record { term = term; round = round; ok = ok }))

-- the request to every other voter, in ring order
abbrev pub mock_requests : ℕ → ℕ → ℕ → Opid → List Member → List Message
mock_requests me term round asked [] = []
mock_requests me term round asked (m ∷ members) =
    if m.id == me then mock_requests me term round asked members
    else (if is_voter m.kind then message me m.id (body.MockRequest (record { term = term; round = round; last = asked })) ∷ mock_requests me term round asked members
    else mock_requests me term round asked members)

-- a mock state of the same leader and of this or a greater round is kept
abbrev pub is_old_round : Mock → ℕ → ℕ → Bool
is_old_round mock.Off from round = false
is_old_round (mock.On leader kept last passed failed) from round = leader == from && nat_le round kept

abbrev pub own_passed : ℕ → Durable → MockStart → List ℕ
own_passed me d sent = if passes d sent.last then me ∷ [] else []

abbrev pub own_failed : ℕ → Durable → MockStart → List ℕ
own_failed me d sent = if passes d sent.last then [] else me ∷ []

-- the result alone where the node's own test decides it; else the requests
abbrev pub opening : Layout → ℕ → Durable → ℕ → MockStart → List Message
opening ring me d from sent =
    elim (verdict ring from me (own_passed me d sent) (own_failed me d sent)) [
      | Some ok ↦ mock_result me from sent.term sent.round ok ∷ []
      | None ↦ mock_requests me sent.term sent.round sent.last ring.members
    ]

abbrev pub begin_mock : Layout → ℕ → Durable → Soft → ℕ → MockStart → Step
begin_mock ring me d s from sent =
    stepped [] (opening ring me d from sent) []
    (record s { mock = mock.On from sent.round sent.last (own_passed me d sent) (own_failed me d sent) })

-- a voter that follows in the same term, and keeps no mock state of this leader's round or a later one
unfoldable pub on_mock_start : Layout → ℕ → Durable → Soft → ℕ → MockStart → Step
on_mock_start ring me d s from sent =
    if sent.term == d.term && votes ring me && is_follower s.role && not (is_old_round s.mock from sent.round) then begin_mock ring me d s from sent else idle s

-- ---- the other voters
unfoldable pub on_mock_request : Layout → ℕ → Durable → Soft → ℕ → MockRequest → Step
on_mock_request ring me d s from sent =
    if sent.term == d.term && votes ring me
    then stepped [] (message me from (body.MockReply (record { term = d.term; round = sent.round; ok = passes d sent.last })) ∷ []) [] s
    else idle s

-- ---- their answers at the target
-- the result is sent in the step that decides it
abbrev pub deciding : ℕ → ℕ → ℕ → ℕ → Option Bool → Option Bool → List Message
deciding me leader term round (Some before) after = []
deciding me leader term round None None = []
deciding me leader term round None (Some ok) = mock_result me leader term round ok ∷ []

abbrev pub with_answer : Layout → ℕ → Durable → Soft → ℕ → ℕ → Opid → List ℕ → List ℕ → List ℕ → List ℕ → Step
with_answer ring me d s leader round asked passed failed more_passed more_failed =
    stepped [] (deciding me leader d.term round (verdict ring leader me passed failed) (verdict ring leader me more_passed more_failed)) []
    (record s { mock = mock.On leader round asked more_passed more_failed })

-- a second answer of one voter changes nothing
abbrev pub count_answer : Layout → ℕ → Durable → Soft → ℕ → MockReply → ℕ → Opid → List ℕ → List ℕ → Step
count_answer ring me d s from answer leader asked passed failed =
    if is_listed passed from || is_listed failed from then idle s
    else (if answer.ok then with_answer ring me d s leader answer.round asked passed failed (passed ++ from ∷ []) failed
    else with_answer ring me d s leader answer.round asked passed failed passed (failed ++ from ∷ []))

abbrev pub mock_hears : Layout → ℕ → Durable → Soft → ℕ → MockReply → Mock → Step
mock_hears ring me d s from answer mock.Off = idle s
mock_hears ring me d s from answer (mock.On leader round asked passed failed) =
    if answer.term == d.term && answer.round == round then count_answer ring me d s from answer leader asked passed failed else idle s

unfoldable pub on_mock_reply : Layout → ℕ → Durable → Soft → ℕ → MockReply → Step
on_mock_reply ring me d s from answer = mock_hears ring me d s from answer s.mock

-- ---- the result at the leader, and handing over
-- the peer has matched so many entries
abbrev pub has_matched : List Peer → ℕ → ℕ → Bool
has_matched [] id position = false
has_matched (p ∷ peers) id position = if p.node == id then p.matched == position else has_matched peers id position

-- the target is told to elect itself once it has the whole log
abbrev pub hand_over : ℕ → Durable → List Peer → ℕ → List Message
hand_over me d peers target = if has_matched peers target (length d.log) then message me target (body.TimeoutNow d.term) ∷ [] else []

abbrev pub result_heard : ℕ → Durable → Soft → Bool → ℕ → ℕ → Step
result_heard me d s true target client = stepped [] (hand_over me d s.peers target) (record { client = client; what = what.Moving target } ∷ []) (record s { transfer = transfer.Handing target client })
result_heard me d s false target client = stepped [] [] (record { client = client; what = what.MoveFailed target } ∷ []) (record s { transfer = transfer.Off })

abbrev pub transfer_hears : ℕ → Durable → Soft → MockResult → Transfer → Step
transfer_hears me d s sent transfer.Off = idle s
transfer_hears me d s sent (transfer.Mock target round client) = if sent.term == d.term && sent.round == round then result_heard me d s sent.ok target client else idle s
transfer_hears me d s sent (transfer.Handing target client) = idle s

unfoldable pub on_mock_result : ℕ → Durable → Soft → MockResult → Step
on_mock_result me d s sent = transfer_hears me d s sent s.transfer

-- at each ok reply from the target of a hand-over
abbrev pub after_ok : ℕ → Durable → List Peer → ℕ → Transfer → List Message
after_ok me d peers from transfer.Off = []
after_ok me d peers from (transfer.Mock target round client) = []
after_ok me d peers from (transfer.Handing target client) = if target == from then hand_over me d peers target else []

abbrev pub with_more : Step → List Message → Step
with_more st messages = record { plan = record { actions = st.plan.actions; messages = st.plan.messages ++ messages; says = st.plan.says }; soft = st.soft }

-- the whole rule of an answer to an Append
unfoldable pub on_answer : Layout → ℕ → Durable → Soft → ℕ → AppendReply → Step
on_answer ring me d s from answer =
    if counts d s answer && answer.ok
    then with_more (on_ack ring me d s from answer) (after_ok me d (on_ack ring me d s from answer).soft.peers from s.transfer)
    else on_ack ring me d s from answer

-- ---- TimeoutNow: a voter stands for election if the word is of its term and it does not lead (Raft's leadership transfer)
unfoldable pub on_timeout : Layout → ℕ → Durable → Soft → ℕ → Step
on_timeout ring me d s term = if term == d.term && votes ring me && not (is_leader s.role) then elect ring me d s else idle s
