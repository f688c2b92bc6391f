-- Only a leader says that a write is committed, and only of an entry of its log up to its commit count; each input runs one of the rules.
use Rattle.std.proofs.Common.{ℕ, if◌then◌else◌, Bool, false, true}
use Rattle.ring_types.specs.Rings.{Layout}
use Rattle.ring_model.specs.declared.messages.Body.{Body}
use Rattle.ring_model.specs.declared.nodes.Durable.{Durable}
use Rattle.ring_model.specs.declared.messages.Input.{Input}
use Rattle.ring_model.specs.declared.messages.Message.{Message}
use Rattle.ring_model.specs.declared.nodes.Soft.{Soft}
use Rattle.ring_model.specs.Replication.{reply}
use Rattle.ring_model.specs.Steps.{idle}
use Rattle.ring_model.specs.Dispatch.{body_step, deliver, is_foreign, step}
use Rattle.ring_model.specs.declared.messages.Body.TheVariants as body
use Rattle.ring_model.specs.declared.messages.Input.TheVariants as input
use Rattle.ring_model.proofs.TellingEntries.{answered_tells, append_tells, beat_tells, cancel_tells, relay_tells, rotate_tells, transfer_tells, write_tells}
use Rattle.ring_model.proofs.TellingElections.{elect_tells, mock_reply_tells, mock_request_tells, mock_result_tells, mock_start_tells, reply_tells, request_tells, timeout_tells}
use Rattle.ring_model.proofs.TellingLeader.{KeepsPending, Tells, idle_tells}

-- ---- any input
body_tells : (ring : Layout) (me from : ℕ) (d : Durable) (s : Soft) (b : Body) → KeepsPending d.log s → Tells d (body_step ring me d s from b)
body_tells ring me from d s (body.RequestVote asked) k = request_tells ring me from d s asked k
body_tells ring me from d s (body.VoteReply reply) k = reply_tells ring me from d s reply k
body_tells ring me from d s (body.Append sent) k = append_tells ring me d s sent k
body_tells ring me from d s (body.AppendReply answer) k = answered_tells ring me from d s answer k
body_tells ring me from d s (body.ProxyAppend sent) k = relay_tells me from d s sent k
body_tells ring me from d s (body.MockStart sent) k = mock_start_tells ring me from d s sent k
body_tells ring me from d s (body.MockRequest sent) k = mock_request_tells ring me from d s sent k
body_tells ring me from d s (body.MockReply sent) k = mock_reply_tells ring me from d s sent k
body_tells ring me from d s (body.MockResult sent) k = mock_result_tells me d s sent k
body_tells ring me from d s (body.TimeoutNow term) k = timeout_tells ring me d s term k
body_tells ring me from d s (body.ClientWrite changes) k = write_tells ring me from d s changes k
body_tells ring me from d s body.ClientRotate k = rotate_tells ring me from d s k
body_tells ring me from d s (body.ClientTransfer target) k = transfer_tells ring me from target d s k
body_tells ring me from d s body.ClientCancel k = cancel_tells d s from k
body_tells ring me from d s (body.ClientReply what) k = idle_tells d s k

deliver_tells : (ring : Layout) (me : ℕ) (d : Durable) (s : Soft) (m : Message) → KeepsPending d.log s → Tells d (deliver ring me d s m)
deliver_tells ring me d s m k = go (is_foreign ring me m)
  where
    go : (b : Bool) → Tells d (if b then idle s else body_step ring me d s m.from m.body)
    go true = idle_tells d s k
    go false = body_tells ring me m.from d s m.body k

pub step_tells : (ring : Layout) (me : ℕ) (d : Durable) (s : Soft) (i : Input) → KeepsPending d.log s → Tells d (step ring me d s i)
step_tells ring me d s input.Elect k = elect_tells ring me d s k
step_tells ring me d s input.Beat k = beat_tells ring me d s k
step_tells ring me d s (input.Deliver m) k = deliver_tells ring me d s m k
step_tells ring me d s (input.Write client changes) k = write_tells ring me client d s changes k
step_tells ring me d s (input.Rotate client) k = rotate_tells ring me client d s k
step_tells ring me d s (input.Transfer client target) k = transfer_tells ring me client target d s k
step_tells ring me d s (input.Cancel client) k = cancel_tells d s client k
