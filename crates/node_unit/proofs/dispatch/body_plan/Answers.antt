use Rattle.std.proofs.Common.{◌≡◌, true, false, sym, ap, ◌∙◌}
use Rattle.node_unit.specs.Plans.{is_answer}
use Rattle.node_unit.proofs.Torn.{not_torn}
use Rattle.node_unit.proofs.dispatch.body_plan.Goals.{in-RequestVote, in-VoteReply, in-Append, in-AppendReply, in-ProxyAppend, in-MockStart, in-MockRequest, in-MockReply, in-MockResult, in-TimeoutNow, in-ClientWrite, in-ClientRotate, in-ClientTransfer, in-ClientCancel, in-ClientReply}
use Rattle.node_unit.proofs.dispatch.body_plan.Goals as goal

pub returns-clause-told : goal.returns-clause-told
returns-clause-told g c = elim c.match-body.branch [
  | in-RequestVote w ↦ rw (w.in-RequestVote.is, w.soft-is, w.result-is) w.on_request.ensures.told
  | in-VoteReply w ↦ rw (w.in-VoteReply.is, w.soft-is, w.result-is) w.on_reply.ensures.told
  | in-Append w ↦ rw (w.in-Append.is, w.soft-is, w.result-is) w.append_plan.ensures.told
  | in-AppendReply w ↦ absurd (let z : true ≡ false = sym (ap is_answer w.in-AppendReply.is) ∙ c.requires.other in cc)
  | in-ProxyAppend w ↦ rw (w.in-ProxyAppend.is, w.soft-is, w.result-is) w.relay_plan.ensures.told
  | in-MockStart w ↦ rw (w.in-MockStart.is, w.soft-is, w.result-is) w.on_mock_start.ensures.told
  | in-MockRequest w ↦ rw (w.in-MockRequest.is, w.soft-is, w.result-is) w.on_mock_request.ensures.told
  | in-MockReply w ↦ rw (w.in-MockReply.is, w.soft-is, w.result-is) w.on_mock_reply.ensures.told
  | in-MockResult w ↦ rw (w.in-MockResult.is, w.soft-is, w.result-is) w.on_mock_result.ensures.told
  | in-TimeoutNow w ↦ rw (w.in-TimeoutNow.is, w.soft-is, w.result-is) w.start_if_told.ensures.told
  | in-ClientWrite w ↦ rw (w.in-ClientWrite.is, w.soft-is, w.result-is) w.write.ensures.told
  | in-ClientRotate w ↦ rw (w.in-ClientRotate.is, w.soft-is, w.result-is) w.rotate.ensures.told
  | in-ClientTransfer w ↦ rw (w.in-ClientTransfer.is, w.soft-is, w.result-is) w.ask.ensures.told
  | in-ClientCancel w ↦ rw (w.in-ClientCancel.is, w.soft-is, w.result-is) w.cancel.ensures.told
  | in-ClientReply w ↦ rw (w.in-ClientReply.is, w.soft-is, w.result-is) w.rest-in-ClientReply.ensures.told
]

pub returns-clause-torn : goal.returns-clause-torn
returns-clause-torn g c = elim c.match-body.branch [
  | in-RequestVote w ↦ rw w.result-is (not_torn _ _ _ w.on_request.result _ _ w.on_request.ensures.failed)
  | in-VoteReply w ↦ rw w.result-is (not_torn _ _ _ w.on_reply.result _ _ w.on_reply.ensures.failed)
  | in-Append w ↦ rw (w.in-Append.is, w.result-is) w.append_plan.ensures.torn
  | in-AppendReply w ↦ absurd (let z : true ≡ false = sym (ap is_answer w.in-AppendReply.is) ∙ c.requires.other in cc)
  | in-ProxyAppend w ↦ rw w.result-is (not_torn _ _ _ w.relay_plan.result _ _ w.relay_plan.ensures.failed)
  | in-MockStart w ↦ rw w.result-is (not_torn _ _ _ w.on_mock_start.result _ _ w.on_mock_start.ensures.failed)
  | in-MockRequest w ↦ rw w.result-is (not_torn _ _ _ w.on_mock_request.result _ _ w.on_mock_request.ensures.failed)
  | in-MockReply w ↦ rw w.result-is (not_torn _ _ _ w.on_mock_reply.result _ _ w.on_mock_reply.ensures.failed)
  | in-MockResult w ↦ rw w.result-is (not_torn _ _ _ w.on_mock_result.result _ _ w.on_mock_result.ensures.failed)
  | in-TimeoutNow w ↦ rw w.result-is (not_torn _ _ _ w.start_if_told.result _ _ w.start_if_told.ensures.failed)
  | in-ClientWrite w ↦ rw w.result-is (not_torn _ _ _ w.write.result _ _ w.write.ensures.failed)
  | in-ClientRotate w ↦ rw w.result-is (not_torn _ _ _ w.rotate.result _ _ w.rotate.ensures.failed)
  | in-ClientTransfer w ↦ rw w.result-is (not_torn _ _ _ w.ask.result _ _ w.ask.ensures.failed)
  | in-ClientCancel w ↦ rw w.result-is (not_torn _ _ _ w.cancel.result _ _ w.cancel.ensures.failed)
  | in-ClientReply w ↦ rw w.result-is (not_torn _ _ _ w.rest-in-ClientReply.result _ _ w.rest-in-ClientReply.ensures.failed)
]
