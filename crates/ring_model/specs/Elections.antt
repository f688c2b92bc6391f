-- Elections: standing for one, answering a request, counting a grant, and leading (Raft, with FlexiRaft's needed regions).
use Rattle.std.specs.Prelude.{◌≡◌, ℕ, zero, suc, ◌+◌, ◌-◌, ◌^◌, ◌==◌, nat_lt, nat_le, if◌then◌else◌, Bool, true, false, not, ◌&&◌, ◌||◌, List, [], ◌∷◌, ◌++◌, length, map, filter, Option, Some, None}
use Rattle.std.specs.List.{list_any}
use Rattle.ring_types.specs.declared.limits.TheConstants.{TERM_END}
use Rattle.ring_types.specs.declared.members.Member.{Member}
use Rattle.ring_types.specs.declared.entries.Opid.{Opid}
use Rattle.ring_types.specs.declared.entries.Vote.{Vote}
use Rattle.ring_types.specs.declared.entries.Grant.{Grant}
use Rattle.ring_types.specs.declared.entries.Entry.{Entry}
use Rattle.ring_types.specs.declared.entries.Payload.TheVariants as payload
use Rattle.ring_types.specs.Rings.{Layout, region_of, is_voter, votes}
use Rattle.ring_types.specs.Logs.{term_at, region_at, last, at_least}
use Rattle.ring_model.specs.Needs.{wins, votes_between}
use Rattle.ring_model.specs.Actions.{all_done, vote_in, has_room}
use Rattle.ring_model.specs.Nodes.{is_leader}
use Rattle.ring_model.specs.Steps.{stepped, idle, message, demoted, unknowns, advance, own_entry}
use Rattle.ring_model.specs.declared.nodes.Durable.{Durable}
use Rattle.ring_model.specs.declared.nodes.Soft.{Soft}
use Rattle.ring_model.specs.declared.nodes.Role.TheVariants.{Follower, Candidate, Leader}
use Rattle.ring_model.specs.declared.nodes.Peer.{Peer}
use Rattle.ring_model.specs.declared.effects.Action.{Action}
use Rattle.ring_model.specs.declared.effects.Action.TheVariants as action
use Rattle.ring_model.specs.declared.effects.Step.{Step}
use Rattle.ring_model.specs.declared.effects.Say.{Say}
use Rattle.ring_model.specs.declared.messages.Message.{Message}
use Rattle.ring_model.specs.declared.messages.Body.TheVariants as body
use Rattle.ring_model.specs.declared.messages.RequestVote.{RequestVote}
use Rattle.ring_model.specs.declared.messages.VoteReply.{VoteReply}

-- ---- leading: a NoOp in the new term, and every other member to be sent from there on
abbrev pub first_peers : ℕ → ℕ → List Member → List Peer
first_peers me next [] = []
first_peers me next (m ∷ members) = if m.id == me then first_peers me next members else record { node = m.id; matched = 0; next = next; silent = 0 } ∷ first_peers me next members

abbrev pub leading : Layout → ℕ → ℕ → Soft → List Grant → Soft
leading ring me noop s grants = record s { role = Leader; grants = grants; ready_at = noop; peers = first_peers me noop ring.members }

-- the candidate leads, after the actions that come first
abbrev pub lead : Layout → ℕ → Durable → Soft → List Action → List Say → List Grant → Step
lead ring me d s first says grants =
    advance ring me d (leading ring me (suc (length (all_done d first).log)) s grants)
    (first ++ (action.Append (own_entry ring me (all_done d first) payload.NoOp ∷ []) ∷ [])) says

-- the grants cover what they and the log make needed
abbrev pub has_won : Layout → ℕ → Durable → List Grant → Bool
has_won ring me d grants = wins ring (last d.log).term (region_at ring.home d.log (length d.log)) (region_of ring me) d.term grants

-- the candidate leads where its grants win; else it goes on asking
unfoldable pub lead_or_ask : Layout → ℕ → Durable → Soft → List Action → List Say → List Grant → List Message → Step
lead_or_ask ring me d s first says grants asks =
    if has_won ring me (all_done d first) grants then lead ring me d s first says grants
    else stepped first asks says (record s { role = Candidate; grants = grants })

-- ---- standing for election
-- votes of terms up to that of the entry at the commit position may be dropped
abbrev pub floor_of : Durable → Soft → ℕ
floor_of d s = term_at d.log s.commit

-- a voter that does not lead, below the greatest term and length, with room for its vote
abbrev pub may_elect : Layout → ℕ → Durable → Soft → Bool
may_elect ring me d s =
    votes ring me && not (is_leader s.role) && nat_lt d.term (TERM_END - 1) && nat_lt (length d.log) (TERM_END - 1) && has_room (floor_of d s) d.votes

abbrev pub new_vote : Layout → ℕ → ℕ → Vote
new_vote ring term candidate = record { term = term; candidate = candidate; region = region_of ring candidate }

-- the request to every other voter, in ring order
abbrev pub requests : ℕ → ℕ → Opid → List Member → List Message
requests me term asked [] = []
requests me term asked (m ∷ members) =
    if m.id == me then requests me term asked members
    else (if is_voter m.kind then message me m.id (body.RequestVote (record { term = term; last = asked })) ∷ requests me term asked members
    else requests me term asked members)

-- a new term and the node's vote for itself
abbrev pub stand_actions : Layout → ℕ → Durable → Soft → List Action
stand_actions ring me d s = action.SetTerm (suc d.term) ∷ action.Vote (new_vote ring (suc d.term) me) (floor_of d s) ∷ []

-- the node's own grant, with the votes that it reports itself
abbrev pub own_grant : ℕ → Durable → Grant
own_grant me after = record { voter = me; votes = votes_between (last after.log).term after.term after.votes }

abbrev pub stand : Layout → ℕ → Durable → Soft → Step
stand ring me d s =
    lead_or_ask ring me d (demoted s) (stand_actions ring me d s) (unknowns s)
    (own_grant me (all_done d (stand_actions ring me d s)) ∷ []) (requests me (suc d.term) (last d.log) ring.members)

unfoldable pub elect : Layout → ℕ → Durable → Soft → Step
elect ring me d s = if may_elect ring me d s then stand ring me d s else idle s

-- ---- answering a request for a vote
abbrev pub refuse_vote : ℕ → ℕ → ℕ → Message
refuse_vote me to term = message me to (body.VoteReply (record { term = term; granted = false; votes = [] }))

-- the vote, with what the voter reports of terms strictly between the candidate's last and the present one
abbrev pub grant_vote : ℕ → ℕ → RequestVote → Durable → Message
grant_vote me to asked after = message me to (body.VoteReply (record { term = asked.term; granted = true; votes = votes_between asked.last.term asked.term after.votes }))

abbrev pub granted_now : ℕ → Durable → Soft → List Action → List Say → ℕ → RequestVote → Step
granted_now me d s first says from asked = stepped first (grant_vote me from asked (all_done d first) ∷ []) says s

abbrev pub refused_now : ℕ → Soft → List Action → List Say → ℕ → ℕ → Step
refused_now me s first says from term = stepped first (refuse_vote me from term ∷ []) says s

abbrev pub cast_actions : Layout → Durable → Soft → List Action → ℕ → ℕ → List Action
cast_actions ring d s first from term = first ++ (action.Vote (new_vote ring term from) (floor_of d s) ∷ [])

-- by the vote that the node keeps for the term: the same candidate again, or a new vote where the candidate's log is at least as new and there is room
abbrev pub answer_by : Layout → ℕ → Durable → Soft → List Action → List Say → ℕ → RequestVote → Option Vote → Step
answer_by ring me d s first says from asked (Some kept) =
    if kept.candidate == from then granted_now me d s first says from asked else refused_now me s first says from asked.term
answer_by ring me d s first says from asked None =
    if at_least asked.last (last d.log)
    then (if has_room (floor_of d s) d.votes then granted_now me d s (cast_actions ring d s first from asked.term) says from asked
    else refused_now me s first says from asked.term)
    else refused_now me s first says from asked.term

-- once the node has the term of the request
abbrev pub answer_request : Layout → ℕ → Durable → Soft → List Action → List Say → ℕ → RequestVote → Step
answer_request ring me d s first says from asked = answer_by ring me d s first says from asked (vote_in d.votes asked.term)

abbrev pub voter_answers : Layout → ℕ → Durable → Soft → ℕ → RequestVote → Step
voter_answers ring me d s from asked =
    if nat_lt asked.term d.term then refused_now me s [] [] from d.term
    else (if nat_lt d.term asked.term then answer_request ring me d (demoted s) (action.SetTerm asked.term ∷ []) (unknowns s) from asked
    else answer_request ring me d s [] [] from asked)

-- a learner ignores it
unfoldable pub on_request : Layout → ℕ → Durable → Soft → ℕ → RequestVote → Step
on_request ring me d s from asked = if votes ring me then voter_answers ring me d s from asked else idle s

-- ---- counting a grant
abbrev pub has_granted : List Grant → ℕ → Bool
has_granted grants from = list_any (λ (g : Grant). g.voter == from) grants

-- a grant of the present term counts once
abbrev pub count_grant : Layout → ℕ → Durable → Soft → ℕ → VoteReply → Step
count_grant ring me d s from reply =
    if reply.granted && reply.term == d.term && not (has_granted s.grants from)
    then lead_or_ask ring me d s [] [] (s.grants ++ record { voter = from; votes = reply.votes } ∷ []) []
    else idle s

abbrev pub candidate_hears : Layout → ℕ → Durable → Soft → ℕ → VoteReply → Step
candidate_hears ring me d s from reply =
    if nat_lt d.term reply.term then stepped (action.SetTerm reply.term ∷ []) [] (unknowns s) (demoted s)
    else count_grant ring me d s from reply

-- only a candidate hears a reply
unfoldable pub on_reply : Layout → ℕ → Durable → Soft → ℕ → VoteReply → Step
on_reply ring me d s from reply = elim s.role [ Follower ↦ idle s | Candidate ↦ candidate_hears ring me d s from reply | Leader ↦ idle s ]
