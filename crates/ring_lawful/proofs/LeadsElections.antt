-- Elections and votes keep what a running node keeps: a candidate stands with its own vote, and a winner begins with its own entry in its log.
use Rattle.std.proofs.Common.{◌≡◌, ℕ, ◌≤◌, ◌==◌, ◌&&◌, [], ◌∷◌, ◌++◌, ◌∙◌, if◌then◌else◌, Bool, List, None, Option, Some, ap, false, length, not, refl, subst, sym, true}
use Rattle.std.specs.Prelude.{nat_lt}
use Rattle.ring_types.specs.declared.entries.Entry.{Entry}
use Rattle.ring_types.specs.declared.entries.Vote.{Vote}
use Rattle.ring_types.specs.Rings.{Layout, votes}
use Rattle.ring_types.specs.Logs.{at_least, last}
use Rattle.ring_model.specs.declared.effects.Action.{Action}
use Rattle.ring_model.specs.declared.effects.Action.TheVariants as action
use Rattle.ring_model.specs.declared.effects.Say.{Say}
use Rattle.ring_model.specs.declared.messages.RequestVote.{RequestVote}
use Rattle.ring_model.specs.declared.messages.VoteReply.{VoteReply}
use Rattle.ring_model.specs.declared.nodes.Durable.{Durable}
use Rattle.ring_model.specs.declared.nodes.Role.{Role}
use Rattle.ring_model.specs.declared.nodes.Role.TheVariants.{Candidate, Follower, Leader}
use Rattle.ring_model.specs.declared.nodes.Soft.{Soft}
use Rattle.ring_model.specs.Actions.{all_done, has_room, vote_in}
use Rattle.ring_model.specs.Nodes.{is_leader}
use Rattle.ring_model.specs.Replication.{reply}
use Rattle.ring_model.specs.Elections.{answer_by, answer_request, candidate_hears, cast_actions, count_grant, elect, floor_of, granted_now, has_granted, lead_or_ask, may_elect, new_vote, on_reply, on_request, refused_now, stand, stand_actions, voter_answers}
use Rattle.ring_model.specs.Steps.{demoted, idle, stepped, unknowns}
use Rattle.ring_model.proofs.HeldElections.{done_join}
use Rattle.ring_lawful.proofs.Leads.{SoftFits, SoftStep, ask_soft, demoted_fits}
use Rattle.ring_lawful.proofs.SizedElections.{may_stand}

-- ---- elections
pub elect_soft : (ring : Layout) (me : ℕ) (d : Durable) (s : Soft) → SoftFits ring me d.log s → s.commit ≤ length d.log → SoftStep ring me d (elect ring me d s)
unfolding elect
elect_soft ring me d s x inside = go (may_elect ring me d s) refl
  where
    go : (b : Bool) → may_elect ring me d s ≡ b → SoftStep ring me d (if b then stand ring me d s else idle s)
    go true is = ask_soft ring me d (demoted s) (stand_actions ring me d s) (unknowns s) _ _ (may_stand ring me d s is).voter refl refl tt inside
    go false is = x

voter_is : (ring : Layout) (me : ℕ) (log : List Entry) (s : Soft) → SoftFits ring me log s → s.role ≡ Candidate → votes ring me ≡ true
voter_is ring me log s x role = go (votes ring me) refl
  where
    go : (b : Bool) → votes ring me ≡ b → votes ring me ≡ true
    go true is = is
    go false is = absurd (let z : Candidate ≡ Follower = sym role ∙ x.learner is in cc)

pub reply_soft : (ring : Layout) (me from : ℕ) (reply : VoteReply) (d : Durable) (s : Soft) → SoftFits ring me d.log s → s.commit ≤ length d.log
    → SoftStep ring me d (on_reply ring me d s from reply)
unfolding on_reply
reply_soft ring me from reply d s x inside = go s.role refl
  where
    count : s.role ≡ Candidate → (b : Bool)
        → SoftStep ring me d (if b then lead_or_ask ring me d s [] [] (s.grants ++ record { voter = from; votes = reply.votes } ∷ []) [] else idle s)
    count role true =
        let a = x.alone (ap is_leader role) in
        ask_soft ring me d s [] [] (s.grants ++ record { voter = from; votes = reply.votes } ∷ []) [] (voter_is ring me d.log s x role) a.0 a.1 x.mock inside
    count role false = x

    hears : s.role ≡ Candidate → (b : Bool)
        → SoftStep ring me d (if b then stepped (action.SetTerm reply.term ∷ []) [] (unknowns s) (demoted s) else count_grant ring me d s from reply)
    hears role true = demoted_fits ring me d.log s
    hears role false = count role (reply.granted && reply.term == d.term && not (has_granted s.grants from))

    go : (r : Role) → s.role ≡ r → SoftStep ring me d (elim r [ Follower ↦ idle s | Candidate ↦ candidate_hears ring me d s from reply | Leader ↦ idle s ])
    go Follower role = x
    go Candidate role = hears role (nat_lt d.term reply.term)
    go Leader role = x

-- ---- votes
answer_soft : (ring : Layout) (me : ℕ) (d : Durable) (o : Soft) (first : List Action) (says : List Say) (from : ℕ) (asked : RequestVote)
    → SoftFits ring me (all_done d first).log o → SoftStep ring me d (answer_request ring me d o first says from asked)
answer_soft ring me d o first says from asked x = go (vote_in d.votes asked.term)
  where
    kept : (c : Bool) → SoftStep ring me d (if c then granted_now me d o first says from asked else refused_now me o first says from asked.term)
    kept true = x
    kept false = x

    fresh : (a c : Bool) → SoftStep ring me d (if a then (if c then granted_now me d o (cast_actions ring d o first from asked.term) says from asked else refused_now me o first says from asked.term) else refused_now me o first says from asked.term)
    fresh true true =
        subst (λ (w : Durable). SoftFits ring me w.log o) (sym (done_join d first (action.Vote (new_vote ring asked.term from) (floor_of d o) ∷ []))) x
    fresh true false = x
    fresh false c = x

    go : (v : Option Vote) → SoftStep ring me d (answer_by ring me d o first says from asked v)
    go (Some w) = kept (w.candidate == from)
    go None = fresh (at_least asked.last (last d.log)) (has_room (floor_of d o) d.votes)

pub request_soft : (ring : Layout) (me from : ℕ) (asked : RequestVote) (d : Durable) (s : Soft) → SoftFits ring me d.log s
    → SoftStep ring me d (on_request ring me d s from asked)
unfolding on_request
request_soft ring me from asked d s x = voter (votes ring me)
  where
    go : (a b : Bool) → SoftStep ring me d (if a then refused_now me s [] [] from d.term
        else (if b then answer_request ring me d (demoted s) (action.SetTerm asked.term ∷ []) (unknowns s) from asked else answer_request ring me d s [] [] from asked))
    go true b = x
    go false true = answer_soft ring me d (demoted s) (action.SetTerm asked.term ∷ []) (unknowns s) from asked (demoted_fits ring me d.log s)
    go false false = answer_soft ring me d s [] [] from asked x

    voter : (b : Bool) → SoftStep ring me d (if b then voter_answers ring me d s from asked else idle s)
    voter true = go (nat_lt asked.term d.term) (nat_lt d.term asked.term)
    voter false = x
