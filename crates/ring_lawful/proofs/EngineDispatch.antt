-- The step of a node on any input keeps its prepared pairs: each input has its rule.
use Rattle.std.proofs.Common.{ℕ, ◌==◌, ◌&&◌, ◌||◌, [], ◌∷◌, ◌++◌, if◌then◌else◌, Bool, List, None, Option, Some, false, map, not, refl, suc, true}
use Rattle.ring_types.specs.declared.entries.Opid.{Opid}
use Rattle.ring_types.specs.Rings.{Layout, votes}
use Rattle.ring_model.specs.declared.effects.Cause.{Cause}
use Rattle.ring_model.specs.declared.effects.What.TheVariants as what
use Rattle.ring_model.specs.declared.messages.Body.{Body}
use Rattle.ring_model.specs.declared.messages.Body.TheVariants as body
use Rattle.ring_model.specs.declared.messages.Input.{Input}
use Rattle.ring_model.specs.declared.messages.Input.TheVariants as input
use Rattle.ring_model.specs.declared.messages.Message.{Message}
use Rattle.ring_model.specs.declared.messages.MockReply.{MockReply}
use Rattle.ring_model.specs.declared.messages.MockRequest.{MockRequest}
use Rattle.ring_model.specs.declared.messages.MockResult.{MockResult}
use Rattle.ring_model.specs.declared.messages.MockStart.{MockStart}
use Rattle.ring_model.specs.declared.messages.ProxyAppend.{ProxyAppend}
use Rattle.ring_model.specs.declared.nodes.Durable.{Durable}
use Rattle.ring_model.specs.declared.nodes.Mock.{Mock}
use Rattle.ring_model.specs.declared.nodes.Mock.TheVariants as mock
use Rattle.ring_model.specs.declared.nodes.Soft.{Soft}
use Rattle.ring_model.specs.declared.nodes.Transfer.{Transfer}
use Rattle.ring_model.specs.declared.nodes.Transfer.TheVariants as transfer
use Rattle.ring_model.specs.Dispatch.{body_step, deliver, is_foreign, step}
use Rattle.ring_model.specs.Elections.{elect}
use Rattle.ring_model.specs.Nodes.{is_follower, is_leader}
use Rattle.ring_model.specs.Quorums.{is_listed}
use Rattle.ring_model.specs.Replication.{beat, beat_to, quieter, relay}
use Rattle.ring_model.specs.Steps.{idle, message, stepped}
use Rattle.ring_model.specs.Transfers.{ask_transfer, begin_mock, begin_round, cancel, count_answer, is_off, is_old_round, mock_hears, on_mock_reply, on_mock_request, on_mock_result, on_mock_start, on_timeout, passes, result_heard, transfer_hears, transfer_refusal, with_answer}
use Rattle.ring_model.specs.Writes.{refused}
use Rattle.ring_lawful.proofs.EngineBoth.{Both, idle_both, quiet_both}
use Rattle.ring_lawful.proofs.EngineElections.{elect_both, reply_both, request_both}
use Rattle.ring_lawful.proofs.EngineOwn.{answered_both, rotate_both, write_both}
use Rattle.ring_lawful.proofs.EngineAppend.{Fits, append_both}

-- ---- rules without actions
beat_both : (ring : Layout) (me : ℕ) (d : Durable) (s : Soft) → Both ring me d s (beat ring me d s)
unfolding beat
beat_both ring me d s = go (is_leader s.role)
  where
    go : (b : Bool) → Both ring me d s (if b then stepped [] (map (beat_to ring me d s) s.peers) [] (record s { peers = map quieter s.peers }) else idle s)
    go true = quiet_both ring me d s (record s { peers = map quieter s.peers }) _ [] refl refl refl
    go false = idle_both ring me d s

relay_both : (ring : Layout) (me from : ℕ) (sent : ProxyAppend) (d : Durable) (s : Soft) → Both ring me d s (relay me d s from sent)
unfolding relay
relay_both ring me from sent d s = quiet_both ring me d s s _ [] refl refl refl

transfer_both : (ring : Layout) (me client target : ℕ) (d : Durable) (s : Soft) → Both ring me d s (ask_transfer ring me d s client target)
unfolding ask_transfer
transfer_both ring me client target d s = go (transfer_refusal ring me s target)
  where
    go : (c : Option Cause) → Both ring me d s (elim c [ Some c ↦ refused s client c | None ↦ begin_round me d s client target ])
    go (Some c) = quiet_both ring me d s s [] _ refl refl refl
    go None = quiet_both ring me d s (record s { rounds = suc s.rounds; transfer = transfer.Mock target (suc s.rounds) client }) _ [] refl refl refl

cancel_both : (ring : Layout) (me client : ℕ) (d : Durable) (s : Soft) → Both ring me d s (cancel s client)
unfolding cancel
cancel_both ring me client d s = go (is_off s.transfer)
  where
    go : (b : Bool) → Both ring me d s (if b then idle s else stepped [] [] (record { client = client; what = what.Cancelled } ∷ []) (record s { transfer = transfer.Off }))
    go true = idle_both ring me d s
    go false = quiet_both ring me d s (record s { transfer = transfer.Off }) [] _ refl refl refl

start_both : (ring : Layout) (me from : ℕ) (sent : MockStart) (d : Durable) (s : Soft) → Both ring me d s (on_mock_start ring me d s from sent)
unfolding on_mock_start
start_both ring me from sent d s = go (sent.term == d.term && votes ring me && is_follower s.role && not (is_old_round s.mock from sent.round))
  where
    go : (b : Bool) → Both ring me d s (if b then begin_mock ring me d s from sent else idle s)
    go true = quiet_both ring me d s (begin_mock ring me d s from sent).soft _ [] refl refl refl
    go false = idle_both ring me d s

asked_both : (ring : Layout) (me from : ℕ) (sent : MockRequest) (d : Durable) (s : Soft) → Both ring me d s (on_mock_request ring me d s from sent)
unfolding on_mock_request
asked_both ring me from sent d s = go (sent.term == d.term && votes ring me)
  where
    go : (b : Bool) → Both ring me d s (if b then stepped [] (message me from (body.MockReply (record { term = d.term; round = sent.round; ok = passes d sent.last })) ∷ []) [] s else idle s)
    go true = quiet_both ring me d s s _ [] refl refl refl
    go false = idle_both ring me d s

count_both : (ring : Layout) (me from : ℕ) (answer : MockReply) (d : Durable) (s : Soft) (leader : ℕ) (asked : Opid) (passed failed : List ℕ)
    → Both ring me d s (count_answer ring me d s from answer leader asked passed failed)
count_both ring me from answer d s leader asked passed failed = go (is_listed passed from || is_listed failed from) answer.ok
  where
    with_both : (more_passed more_failed : List ℕ) → Both ring me d s (with_answer ring me d s leader answer.round asked passed failed more_passed more_failed)
    with_both more_passed more_failed =
        quiet_both ring me d s (record s { mock = mock.On leader answer.round asked more_passed more_failed }) _ [] refl refl refl

    go : (a b : Bool) → Both ring me d s (if a then idle s
        else (if b then with_answer ring me d s leader answer.round asked passed failed (passed ++ from ∷ []) failed else with_answer ring me d s leader answer.round asked passed failed passed (failed ++ from ∷ [])))
    go true b = idle_both ring me d s
    go false true = with_both (passed ++ from ∷ []) failed
    go false false = with_both passed (failed ++ from ∷ [])

heard_both : (ring : Layout) (me from : ℕ) (answer : MockReply) (d : Durable) (s : Soft) (m : Mock) → Both ring me d s (mock_hears ring me d s from answer m)
heard_both ring me from answer d s mock.Off = idle_both ring me d s
heard_both ring me from answer d s (mock.On leader round asked passed failed) = go (answer.term == d.term && answer.round == round)
  where
    go : (b : Bool) → Both ring me d s (if b then count_answer ring me d s from answer leader asked passed failed else idle s)
    go true = count_both ring me from answer d s leader asked passed failed
    go false = idle_both ring me d s

mock_reply_both : (ring : Layout) (me from : ℕ) (answer : MockReply) (d : Durable) (s : Soft) → Both ring me d s (on_mock_reply ring me d s from answer)
unfolding on_mock_reply
mock_reply_both ring me from answer d s = heard_both ring me from answer d s s.mock

result_both : (ring : Layout) (me : ℕ) (d : Durable) (s : Soft) (ok : Bool) (target client : ℕ) → Both ring me d s (result_heard me d s ok target client)
result_both ring me d s true target client = quiet_both ring me d s (record s { transfer = transfer.Handing target client }) _ _ refl refl refl
result_both ring me d s false target client = quiet_both ring me d s (record s { transfer = transfer.Off }) [] _ refl refl refl

transfer_heard : (ring : Layout) (me : ℕ) (d : Durable) (s : Soft) (sent : MockResult) (t : Transfer) → Both ring me d s (transfer_hears me d s sent t)
transfer_heard ring me d s sent transfer.Off = idle_both ring me d s
transfer_heard ring me d s sent (transfer.Handing target client) = idle_both ring me d s
transfer_heard ring me d s sent (transfer.Mock target round client) = go (sent.term == d.term && sent.round == round)
  where
    go : (b : Bool) → Both ring me d s (if b then result_heard me d s sent.ok target client else idle s)
    go true = result_both ring me d s sent.ok target client
    go false = idle_both ring me d s

mock_result_both : (ring : Layout) (me : ℕ) (sent : MockResult) (d : Durable) (s : Soft) → Both ring me d s (on_mock_result me d s sent)
unfolding on_mock_result
mock_result_both ring me sent d s = transfer_heard ring me d s sent s.transfer

timeout_both : (ring : Layout) (me : ℕ) (d : Durable) (s : Soft) (term : ℕ) → Both ring me d s (on_timeout ring me d s term)
unfolding on_timeout
timeout_both ring me d s term = go (term == d.term && votes ring me && not (is_leader s.role))
  where
    go : (b : Bool) → Both ring me d s (if b then elect ring me d s else idle s)
    go true = elect_both ring me d s
    go false = idle_both ring me d s

-- ---- any input
body_both : (ring : Layout) (me from : ℕ) (d : Durable) (s : Soft) (b : Body)
    → Fits d (body_step ring me d s from b).plan.actions (body_step ring me d s from b).soft.commit → Both ring me d s (body_step ring me d s from b)
body_both ring me from d s (body.RequestVote asked) f = request_both ring me from asked d s
body_both ring me from d s (body.VoteReply reply) f = reply_both ring me from reply d s
body_both ring me from d s (body.Append sent) f = append_both ring me sent d s f
body_both ring me from d s (body.AppendReply answer) f = answered_both ring me from answer d s
body_both ring me from d s (body.ProxyAppend sent) f = relay_both ring me from sent d s
body_both ring me from d s (body.MockStart sent) f = start_both ring me from sent d s
body_both ring me from d s (body.MockRequest sent) f = asked_both ring me from sent d s
body_both ring me from d s (body.MockReply sent) f = mock_reply_both ring me from sent d s
body_both ring me from d s (body.MockResult sent) f = mock_result_both ring me sent d s
body_both ring me from d s (body.TimeoutNow term) f = timeout_both ring me d s term
body_both ring me from d s (body.ClientWrite changes) f = write_both ring me from changes d s
body_both ring me from d s body.ClientRotate f = rotate_both ring me from d s
body_both ring me from d s (body.ClientTransfer target) f = transfer_both ring me from target d s
body_both ring me from d s body.ClientCancel f = cancel_both ring me from d s
body_both ring me from d s (body.ClientReply what) f = idle_both ring me d s

deliver_both : (ring : Layout) (me : ℕ) (d : Durable) (s : Soft) (m : Message)
    → Fits d (deliver ring me d s m).plan.actions (deliver ring me d s m).soft.commit → Both ring me d s (deliver ring me d s m)
deliver_both ring me d s m f = go (is_foreign ring me m) f
  where
    go : (b : Bool) → Fits d (if b then idle s else body_step ring me d s m.from m.body).plan.actions (if b then idle s else body_step ring me d s m.from m.body).soft.commit → Both ring me d s (if b then idle s else body_step ring me d s m.from m.body)
    go true f = idle_both ring me d s
    go false f = body_both ring me m.from d s m.body f

pub step_both : (ring : Layout) (me : ℕ) (d : Durable) (s : Soft) (i : Input) → Fits d (step ring me d s i).plan.actions (step ring me d s i).soft.commit
    → Both ring me d s (step ring me d s i)
step_both ring me d s input.Elect f = elect_both ring me d s
step_both ring me d s input.Beat f = beat_both ring me d s
step_both ring me d s (input.Deliver m) f = deliver_both ring me d s m f
step_both ring me d s (input.Write client changes) f = write_both ring me client changes d s
step_both ring me d s (input.Rotate client) f = rotate_both ring me client d s
step_both ring me d s (input.Transfer client target) f = transfer_both ring me client target d s
step_both ring me d s (input.Cancel client) f = cancel_both ring me client d s
