-- What each rule adds to a log: an entry without a transaction, a write's, or what the term's leader sends; so what these keep holds of the books.
use Rattle.std.proofs.Common.{◌≡◌, ℕ, ◌==◌, ◌&&◌, ◌||◌, [], ◌∷◌, ◌++◌, if◌then◌else◌, Bool, List, None, Option, Some, false, map, not, refl, true}
use Rattle.ring_types.specs.declared.entries.Entry.{Entry}
use Rattle.ring_types.specs.declared.entries.Opid.{Opid}
use Rattle.ring_types.specs.Rings.{Layout, votes}
use Rattle.ring_model.specs.declared.effects.Cause.{Cause}
use Rattle.ring_model.specs.declared.effects.What.TheVariants as what
use Rattle.ring_model.specs.declared.messages.Body.{Body}
use Rattle.ring_model.specs.declared.messages.Body.TheVariants as body
use Rattle.ring_model.specs.declared.messages.Input.{Input}
use Rattle.ring_model.specs.declared.messages.Input.TheVariants as input
use Rattle.ring_model.specs.declared.messages.Message.{Message}
use Rattle.ring_model.specs.declared.messages.MockReply.{MockReply}
use Rattle.ring_model.specs.declared.messages.MockRequest.{MockRequest}
use Rattle.ring_model.specs.declared.messages.MockResult.{MockResult}
use Rattle.ring_model.specs.declared.messages.MockStart.{MockStart}
use Rattle.ring_model.specs.declared.messages.ProxyAppend.{ProxyAppend}
use Rattle.ring_model.specs.declared.nodes.Durable.{Durable}
use Rattle.ring_model.specs.declared.nodes.Mock.{Mock}
use Rattle.ring_model.specs.declared.nodes.Mock.TheVariants as mock
use Rattle.ring_model.specs.declared.nodes.Soft.{Soft}
use Rattle.ring_model.specs.declared.nodes.Transfer.{Transfer}
use Rattle.ring_model.specs.declared.nodes.Transfer.TheVariants as transfer
use Rattle.ring_model.specs.Dispatch.{body_step, is_foreign, step}
use Rattle.ring_model.specs.Elections.{elect}
use Rattle.ring_model.specs.Nodes.{is_follower, is_leader}
use Rattle.ring_model.specs.Quorums.{is_listed}
use Rattle.ring_model.specs.Replication.{beat, beat_to, quieter, relay, reply}
use Rattle.ring_model.specs.Steps.{idle, message, stepped}
use Rattle.ring_model.specs.Transfers.{ask_transfer, begin_mock, begin_round, cancel, count_answer, is_off, is_old_round, mock_hears, on_mock_reply, on_mock_request, on_mock_result, on_mock_start, on_timeout, passes, result_heard, transfer_hears, transfer_refusal, with_answer}
use Rattle.ring_model.specs.Writes.{refused}
use Rattle.ring_model.proofs.Invariant.{History}
use Rattle.ring_lawful.proofs.Growing.{Adds, AppendIsLed, InputIsLed, KeptByPlain, WritesKeep}
use Rattle.ring_lawful.proofs.GrowingElections.{elect_logs, reply_logs, request_logs}
use Rattle.ring_lawful.proofs.GrowingEntries.{answered_logs, append_logs, rotate_logs, write_logs}

module _ (ring : Layout) (h : History) (me : ℕ) (P : List Entry → Type 0) (plain : KeptByPlain P) where
  -- ---- rules without actions
  beat_logs : (d : Durable) (s : Soft) → Adds h me P d (beat ring me d s)
  unfolding beat
  beat_logs d s = go (is_leader s.role)
    where
      go : (b : Bool) → Adds h me P d (if b then stepped [] (map (beat_to ring me d s) s.peers) [] (record s { peers = map quieter s.peers }) else idle s)
      go true = tt
      go false = tt

  relay_logs : (from : ℕ) (sent : ProxyAppend) (d : Durable) (s : Soft) → Adds h me P d (relay me d s from sent)
  unfolding relay
  relay_logs from sent d s = tt

  transfer_logs : (client target : ℕ) (d : Durable) (s : Soft) → Adds h me P d (ask_transfer ring me d s client target)
  unfolding ask_transfer
  transfer_logs client target d s = go (transfer_refusal ring me s target)
    where
      go : (c : Option Cause) → Adds h me P d (elim c [ Some c ↦ refused s client c | None ↦ begin_round me d s client target ])
      go (Some c) = tt
      go None = tt

  cancel_logs : (client : ℕ) (d : Durable) (s : Soft) → Adds h me P d (cancel s client)
  unfolding cancel
  cancel_logs client d s = go (is_off s.transfer)
    where
      go : (b : Bool) → Adds h me P d (if b then idle s else stepped [] [] (record { client = client; what = what.Cancelled } ∷ []) (record s { transfer = transfer.Off }))
      go true = tt
      go false = tt

  start_logs : (from : ℕ) (sent : MockStart) (d : Durable) (s : Soft) → Adds h me P d (on_mock_start ring me d s from sent)
  unfolding on_mock_start
  start_logs from sent d s = go (sent.term == d.term && votes ring me && is_follower s.role && not (is_old_round s.mock from sent.round))
    where
      go : (b : Bool) → Adds h me P d (if b then begin_mock ring me d s from sent else idle s)
      go true = tt
      go false = tt

  asked_logs : (from : ℕ) (sent : MockRequest) (d : Durable) (s : Soft) → Adds h me P d (on_mock_request ring me d s from sent)
  unfolding on_mock_request
  asked_logs from sent d s = go (sent.term == d.term && votes ring me)
    where
      go : (b : Bool) → Adds h me P d (if b then stepped [] (message me from (body.MockReply (record { term = d.term; round = sent.round; ok = passes d sent.last })) ∷ []) [] s else idle s)
      go true = tt
      go false = tt

  count_logs : (from : ℕ) (answer : MockReply) (d : Durable) (s : Soft) (leader : ℕ) (asked : Opid) (passed failed : List ℕ)
      → Adds h me P d (count_answer ring me d s from answer leader asked passed failed)
  count_logs from answer d s leader asked passed failed = go (is_listed passed from || is_listed failed from) answer.ok
    where
      with_logs : (more_passed more_failed : List ℕ) → Adds h me P d (with_answer ring me d s leader answer.round asked passed failed more_passed more_failed)
      with_logs more_passed more_failed = tt

      go : (a b : Bool) → Adds h me P d (if a then idle s
          else (if b then with_answer ring me d s leader answer.round asked passed failed (passed ++ from ∷ []) failed else with_answer ring me d s leader answer.round asked passed failed passed (failed ++ from ∷ [])))
      go true b = tt
      go false true = with_logs (passed ++ from ∷ []) failed
      go false false = with_logs passed (failed ++ from ∷ [])

  heard_logs : (from : ℕ) (answer : MockReply) (d : Durable) (s : Soft) (m : Mock) → Adds h me P d (mock_hears ring me d s from answer m)
  heard_logs from answer d s mock.Off = tt
  heard_logs from answer d s (mock.On leader round asked passed failed) = go (answer.term == d.term && answer.round == round)
    where
      go : (b : Bool) → Adds h me P d (if b then count_answer ring me d s from answer leader asked passed failed else idle s)
      go true = count_logs from answer d s leader asked passed failed
      go false = tt

  mock_reply_logs : (from : ℕ) (answer : MockReply) (d : Durable) (s : Soft) → Adds h me P d (on_mock_reply ring me d s from answer)
  unfolding on_mock_reply
  mock_reply_logs from answer d s = heard_logs from answer d s s.mock

  result_logs : (d : Durable) (s : Soft) (ok : Bool) (target client : ℕ) → Adds h me P d (result_heard me d s ok target client)
  result_logs d s true target client = tt
  result_logs d s false target client = tt

  transfer_heard : (d : Durable) (s : Soft) (sent : MockResult) (t : Transfer) → Adds h me P d (transfer_hears me d s sent t)
  transfer_heard d s sent transfer.Off = tt
  transfer_heard d s sent (transfer.Handing target client) = tt
  transfer_heard d s sent (transfer.Mock target round client) = go (sent.term == d.term && sent.round == round)
    where
      go : (b : Bool) → Adds h me P d (if b then result_heard me d s sent.ok target client else idle s)
      go true = result_logs d s sent.ok target client
      go false = tt

  mock_result_logs : (sent : MockResult) (d : Durable) (s : Soft) → Adds h me P d (on_mock_result me d s sent)
  unfolding on_mock_result
  mock_result_logs sent d s = transfer_heard d s sent s.transfer

  timeout_logs : (d : Durable) (s : Soft) (term : ℕ) → Adds h me P d (on_timeout ring me d s term)
  unfolding on_timeout
  timeout_logs d s term = go (term == d.term && votes ring me && not (is_leader s.role))
    where
      go : (b : Bool) → Adds h me P d (if b then elect ring me d s else idle s)
      go true = elect_logs ring h me P plain d s
      go false = tt

  -- ---- any input
  body_logs : (m : Message) (d : Durable) (s : Soft) (b : Body) → WritesKeep ring me P d s → AppendIsLed h me b → Adds h me P d (body_step ring me d s m.from b)
  body_logs m d s (body.RequestVote asked) w f = request_logs ring h me P plain m.from asked d s
  body_logs m d s (body.VoteReply reply) w f = reply_logs ring h me P plain m.from reply d s
  body_logs m d s (body.Append sent) w f = append_logs ring h me P sent d s f
  body_logs m d s (body.AppendReply answer) w f = answered_logs ring h me P m.from answer d s
  body_logs m d s (body.ProxyAppend sent) w f = relay_logs m.from sent d s
  body_logs m d s (body.MockStart sent) w f = start_logs m.from sent d s
  body_logs m d s (body.MockRequest sent) w f = asked_logs m.from sent d s
  body_logs m d s (body.MockReply sent) w f = mock_reply_logs m.from sent d s
  body_logs m d s (body.MockResult sent) w f = mock_result_logs sent d s
  body_logs m d s (body.TimeoutNow term) w f = timeout_logs d s term
  body_logs m d s (body.ClientWrite changes) w f = write_logs ring h me P m.from changes d s w
  body_logs m d s body.ClientRotate w f = rotate_logs ring h me P plain m.from d s
  body_logs m d s (body.ClientTransfer target) w f = transfer_logs m.from target d s
  body_logs m d s body.ClientCancel w f = cancel_logs m.from d s
  body_logs m d s (body.ClientReply what) w f = tt

  pub step_logs : (d : Durable) (s : Soft) (i : Input) → WritesKeep ring me P d s → InputIsLed ring h me i → Adds h me P d (step ring me d s i)
  step_logs d s input.Elect w f = elect_logs ring h me P plain d s
  step_logs d s input.Beat w f = beat_logs d s
  step_logs d s (input.Deliver m) w f = go (is_foreign ring me m) refl
    where
      go : (b : Bool) → is_foreign ring me m ≡ b → Adds h me P d (if b then idle s else body_step ring me d s m.from m.body)
      go true is = tt
      go false is = body_logs m d s m.body w (f is)
  step_logs d s (input.Write client changes) w f = write_logs ring h me P client changes d s w
  step_logs d s (input.Rotate client) w f = rotate_logs ring h me P plain client d s
  step_logs d s (input.Transfer client target) w f = transfer_logs client target d s
  step_logs d s (input.Cancel client) w f = cancel_logs client d s
