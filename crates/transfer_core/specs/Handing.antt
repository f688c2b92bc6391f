-- Handing over, by the length of the log alone.
use Rattle.std.specs.Prelude.{ℕ, ◌==◌, ◌&&◌, if◌then◌else◌, Bool, false, List, [], ◌∷◌, Option, Some, None}
use Rattle.ring_model.specs.Steps.{message}
use Rattle.ring_model.specs.Transfers.{has_matched}
use Rattle.ring_model.specs.declared.nodes.Peer.{Peer}
use Rattle.ring_model.specs.declared.nodes.Transfer.{Transfer}
use Rattle.ring_model.specs.declared.nodes.Transfer.TheVariants as transfer
use Rattle.ring_model.specs.declared.effects.Plan.{Plan}
use Rattle.ring_model.specs.declared.effects.What.TheVariants as what
use Rattle.ring_model.specs.declared.messages.Message.{Message}
use Rattle.ring_model.specs.declared.messages.MockResult.{MockResult}
use Rattle.ring_model.specs.declared.messages.Body.TheVariants as body
use Rattle.transfer_core.specs.declared.handing.Polled.{Polled}

-- the transfer that waits for this result: it is of the leader's term and of the transfer's round
abbrev pub ended : Transfer → ℕ → MockResult → Option Polled
ended transfer.Off term sent = None
ended (transfer.Mock target round client) term sent = if sent.term == term && sent.round == round then Some (record { target = target; client = client }) else None
ended (transfer.Handing target client) term sent = None

abbrev pub hands_to : Transfer → ℕ → Bool
hands_to transfer.Off id = false
hands_to (transfer.Mock target round client) id = false
hands_to (transfer.Handing target client) id = target == id

-- the target is told to elect itself once it has the whole log
abbrev pub hand_over : ℕ → ℕ → ℕ → List Peer → ℕ → List Message
hand_over me term end peers target = if has_matched peers target end then message me target (body.TimeoutNow term) ∷ [] else []

-- these messages, and the client is told that its transfer goes on
abbrev pub handing : ℕ → ℕ → List Message → Plan
handing client target messages = record { actions = []; messages = messages; says = record { client = client; what = what.Moving target } ∷ [] }
