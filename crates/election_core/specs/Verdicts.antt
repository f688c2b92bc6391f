-- How a voter answers a request, from the parts that the rule is handed.
use Rattle.std.specs.Prelude.{ℕ, ◌==◌, if◌then◌else◌, Bool, true, false, List, [], ◌∷◌, ◌++◌, Option, Some, None}
use Rattle.ring_types.specs.declared.entries.Entry.{Entry}
use Rattle.ring_types.specs.declared.entries.Vote.{Vote}
use Rattle.ring_types.specs.Logs.{at_least, last, term_at}
use Rattle.ring_types.specs.Rings.{Layout}
use Rattle.ring_model.specs.Actions.{has_room, vote_in, votes_above}
use Rattle.ring_model.specs.Elections.{new_vote, refuse_vote}
use Rattle.ring_model.specs.Needs.{votes_between}
use Rattle.ring_model.specs.Steps.{demoted, message, unknowns}
use Rattle.ring_model.specs.declared.nodes.Soft.{Soft}
use Rattle.ring_model.specs.declared.effects.Action.TheVariants as action
use Rattle.ring_model.specs.declared.effects.Plan.{Plan}
use Rattle.ring_model.specs.declared.messages.Body.TheVariants as body
use Rattle.ring_model.specs.declared.messages.Message.{Message}
use Rattle.ring_model.specs.declared.messages.RequestVote.{RequestVote}
use Rattle.commit_pipeline.specs.declared.steps.Begun.{Begun}
use Rattle.election_core.specs.declared.requests.Verdict.{Verdict}
use Rattle.election_core.specs.declared.requests.Verdict.TheVariants as verdict

-- ---- by the vote that the node keeps for the term, its log and its room
abbrev pub judged_again : ℕ → ℕ → Verdict
judged_again candidate from = if candidate == from then verdict.Again else verdict.Refuse

abbrev pub judged_anew : List Vote → List Entry → ℕ → RequestVote → Verdict
judged_anew votes log commit asked =
    if at_least asked.last (last log) then (if has_room (term_at log commit) votes then verdict.Cast (term_at log commit) else verdict.Refuse) else verdict.Refuse

abbrev pub judged_by : List Vote → List Entry → ℕ → ℕ → RequestVote → Option Vote → Verdict
judged_by votes log commit from asked (Some kept) = judged_again kept.candidate from
judged_by votes log commit from asked None = judged_anew votes log commit asked

abbrev pub judged : List Vote → List Entry → ℕ → ℕ → RequestVote → Verdict
judged votes log commit from asked = judged_by votes log commit from asked (vote_in votes asked.term)

-- ---- the plan
abbrev pub replied : Begun → Message → Plan
replied begun reply = record { actions = begun.actions; messages = reply ∷ []; says = begun.says }

-- a granted vote, with these votes reported
abbrev pub grant_of : ℕ → ℕ → ℕ → List Vote → Message
grant_of me to term votes = message me to (body.VoteReply (record { term = term; granted = true; votes = votes }))

abbrev pub answered : Layout → ℕ → List Vote → ℕ → RequestVote → Begun → Verdict → Plan
answered ring me votes from asked begun verdict.Refuse = replied begun (refuse_vote me from asked.term)
answered ring me votes from asked begun verdict.Again = replied begun (grant_of me from asked.term (votes_between asked.last.term asked.term votes))
answered ring me votes from asked begun (verdict.Cast floor) =
    replied (record { actions = begun.actions ++ action.Vote (new_vote ring asked.term from) floor ∷ []; says = begun.says })
    (grant_of me from asked.term (votes_between asked.last.term asked.term (votes_above floor votes)))

-- ---- a greater term is adopted first
abbrev pub begun_at : Bool → ℕ → Soft → Begun
begun_at true term s = record { actions = action.SetTerm term ∷ []; says = unknowns s }
begun_at false term s = record { actions = []; says = [] }

abbrev pub stepped_down : Bool → Soft → Soft
stepped_down true s = demoted s
stepped_down false s = s
