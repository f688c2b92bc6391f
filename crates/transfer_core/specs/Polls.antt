-- A mock election at its target as one value.
use Rattle.std.specs.Prelude.{ℕ, ◌+◌, ◌==◌, nat_le, ◌&&◌, ◌||◌, not, if◌then◌else◌, Bool, true, false, List, [], ◌∷◌, ◌++◌, Option, Some, None}
use Rattle.ring_types.specs.declared.entries.Opid.{Opid}
use Rattle.ring_types.specs.Rings.{Layout, votes}
use Rattle.ring_model.specs.Nodes.{is_follower}
use Rattle.ring_model.specs.Quorums.{is_listed}
use Rattle.ring_model.specs.Transfers.{lag_limit, is_old_round, mock_requests, mock_result, deciding, verdict}
use Rattle.ring_model.specs.declared.nodes.Mock.{Mock}
use Rattle.ring_model.specs.declared.nodes.Mock.TheVariants as mock
use Rattle.ring_model.specs.declared.nodes.Soft.{Soft}
use Rattle.ring_model.specs.declared.messages.Message.{Message}
use Rattle.ring_model.specs.declared.messages.MockReply.{MockReply}
use Rattle.ring_model.specs.declared.messages.MockStart.{MockStart}
use Rattle.transfer_core.specs.declared.polls.Poll.{Poll}

-- a voter with a log of this length passes
abbrev pub passes : ℕ → Opid → Bool
passes end asked = nat_le asked.position (end + lag_limit)

abbrev pub mock_of : Poll → Mock
mock_of p = mock.On p.leader p.round p.last p.passed p.failed

-- how it is decided, if it is
abbrev pub decided : Layout → ℕ → Poll → Option Bool
decided ring me p = verdict ring p.leader me p.passed p.failed

-- one reply more
abbrev pub with_reply : Poll → ℕ → Bool → Poll
with_reply p from true = record p { passed = p.passed ++ from ∷ [] }
with_reply p from false = record p { failed = p.failed ++ from ∷ [] }

-- ---- how it begins
-- the node votes and follows in the message's term, and keeps no mock state of this leader's round or a later one
abbrev pub begins : Layout → ℕ → ℕ → Soft → ℕ → MockStart → Bool
begins ring me term s from sent = sent.term == term && votes ring me && is_follower s.role && not (is_old_round s.mock from sent.round)

-- with the node's own test alone, whose log has this length
abbrev pub begun : ℕ → ℕ → ℕ → MockStart → Poll
begun me end from sent = with_reply (record { leader = from; round = sent.round; last = sent.last; passed = []; failed = [] }) me (passes end sent.last)

-- the result alone where it is decided; else the requests
abbrev pub opening : Layout → ℕ → ℕ → Poll → List Message
opening ring me term p = elim (decided ring me p) [ Some ok ↦ mock_result me p.leader term p.round ok ∷ [] | None ↦ mock_requests me term p.round p.last ring.members ]

-- ---- how a reply counts
-- the mock election that counts the reply: it is of the reply's round, the reply of the node's term, and the voter's first
abbrev pub heard_poll : Mock → ℕ → ℕ → MockReply → Option Poll
heard_poll mock.Off term from answer = None
heard_poll (mock.On leader round asked passed failed) term from answer =
    if answer.term == term && answer.round == round
    then (if is_listed passed from || is_listed failed from then None
    else Some (record { leader = leader; round = round; last = asked; passed = passed; failed = failed }))
    else None

-- what is sent once the poll is this one, which was decided so before
abbrev pub deciding_now : Layout → ℕ → ℕ → Option Bool → Poll → List Message
deciding_now ring me term before p = deciding me p.leader term p.round before (decided ring me p)
