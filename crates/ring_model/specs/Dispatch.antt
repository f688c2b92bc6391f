-- The step of a node on an input: foreign messages are left aside, and each input has its rule.
use Rattle.std.specs.Prelude.{ℕ, ◌==◌, if◌then◌else◌, Bool, true, false, not, ◌&&◌, ◌||◌, Option, Some, None}
use Rattle.ring_types.specs.Rings.{Layout, is_member, is_client}
use Rattle.ring_model.specs.Steps.{idle}
use Rattle.ring_model.specs.Elections.{elect, on_request, on_reply}
use Rattle.ring_model.specs.Replication.{beat, on_append, append_tear, relay}
use Rattle.ring_model.specs.Writes.{write, rotate}
use Rattle.ring_model.specs.Transfers.{ask_transfer, cancel, on_answer, on_mock_start, on_mock_request, on_mock_reply, on_mock_result, on_timeout}
use Rattle.ring_model.specs.declared.nodes.Durable.{Durable}
use Rattle.ring_model.specs.declared.nodes.Soft.{Soft}
use Rattle.ring_model.specs.declared.effects.Step.{Step}
use Rattle.ring_model.specs.declared.effects.Tear.{Tear}
use Rattle.ring_model.specs.declared.messages.Message.{Message}
use Rattle.ring_model.specs.declared.messages.Body.{Body}
use Rattle.ring_model.specs.declared.messages.Body.TheVariants as body
use Rattle.ring_model.specs.declared.messages.Input.{Input}
use Rattle.ring_model.specs.declared.messages.Input.TheVariants as input

-- the number is that of another member
abbrev pub is_other : Layout → ℕ → ℕ → Bool
is_other ring me id = is_member ring id && not (id == me)

-- a message between nodes comes from another member, and names another member where it names one; a client's message comes from a declared client; an answer to a client is for no node
abbrev pub is_foreign_body : Layout → ℕ → ℕ → Body → Bool
is_foreign_body ring me from (body.Append sent) = not (is_other ring me from) || not (is_other ring me sent.leader)
is_foreign_body ring me from (body.ProxyAppend sent) = not (is_other ring me from) || not (is_other ring me sent.target)
is_foreign_body ring me from (body.ClientWrite changes) = not (is_client ring from)
is_foreign_body ring me from body.ClientRotate = not (is_client ring from)
is_foreign_body ring me from (body.ClientTransfer target) = not (is_client ring from)
is_foreign_body ring me from body.ClientCancel = not (is_client ring from)
is_foreign_body ring me from (body.ClientReply what) = true
is_foreign_body ring me from _ = not (is_other ring me from)

abbrev pub is_foreign : Layout → ℕ → Message → Bool
is_foreign ring me m = is_foreign_body ring me m.from m.body

-- a client's message is the input of that name
abbrev pub body_step : Layout → ℕ → Durable → Soft → ℕ → Body → Step
body_step ring me d s from (body.RequestVote asked) = on_request ring me d s from asked
body_step ring me d s from (body.VoteReply reply) = on_reply ring me d s from reply
body_step ring me d s from (body.Append sent) = on_append ring me d s sent
body_step ring me d s from (body.AppendReply answer) = on_answer ring me d s from answer
body_step ring me d s from (body.ProxyAppend sent) = relay me d s from sent
body_step ring me d s from (body.MockStart sent) = on_mock_start ring me d s from sent
body_step ring me d s from (body.MockRequest sent) = on_mock_request ring me d s from sent
body_step ring me d s from (body.MockReply sent) = on_mock_reply ring me d s from sent
body_step ring me d s from (body.MockResult sent) = on_mock_result me d s sent
body_step ring me d s from (body.TimeoutNow term) = on_timeout ring me d s term
body_step ring me d s from (body.ClientWrite changes) = write ring me d s from changes
body_step ring me d s from body.ClientRotate = rotate ring me d s from
body_step ring me d s from (body.ClientTransfer target) = ask_transfer ring me d s from target
body_step ring me d s from body.ClientCancel = cancel s from
body_step ring me d s from (body.ClientReply what) = idle s

-- a foreign message does nothing
abbrev pub deliver : Layout → ℕ → Durable → Soft → Message → Step
deliver ring me d s m = if is_foreign ring me m then idle s else body_step ring me d s m.from m.body

-- the step of a running node
abbrev pub step : Layout → ℕ → Durable → Soft → Input → Step
step ring me d s input.Elect = elect ring me d s
step ring me d s input.Beat = beat ring me d s
step ring me d s (input.Deliver m) = deliver ring me d s m
step ring me d s (input.Write client changes) = write ring me d s client changes
step ring me d s (input.Rotate client) = rotate ring me d s client
step ring me d s (input.Transfer client target) = ask_transfer ring me d s client target
step ring me d s (input.Cancel client) = cancel s client

-- where an input's step is torn
abbrev pub body_tear : Durable → Soft → Body → Option Tear
body_tear d s (body.Append sent) = append_tear d s sent
body_tear d s _ = None

abbrev pub tear_of : Layout → ℕ → Durable → Soft → Input → Option Tear
tear_of ring me d s (input.Deliver m) = if is_foreign ring me m then None else body_tear d s m.body
tear_of ring me d s _ = None
