-- Requests for votes and the replies to them carry the node's term, its last opid and votes that it keeps, all within limits.
use Rattle.std.proofs.Common.{◌≡◌, ℕ, ◌<◌, ◌≤◌, ◌==◌, ◌&&◌, [], ◌∷◌, ◌++◌, if◌then◌else◌, Bool, List, None, Option, Some, arith, false, length, not, refl, suc, true}
use Rattle.std.proofs.lemmas.Bool.Decides.{nat_tests}
use Rattle.std.specs.Prelude.{filter, nat_le, nat_lt}
use Rattle.ring_types.specs.declared.limits.TheConstants.{TERM_END}
use Rattle.ring_types.specs.declared.entries.Grant.{Grant}
use Rattle.ring_types.specs.declared.entries.Opid.{Opid}
use Rattle.ring_types.specs.declared.entries.Vote.{Vote}
use Rattle.ring_types.specs.declared.members.Member.{Member}
use Rattle.ring_types.specs.declared.schemas.Schema.{Schema}
use Rattle.ring_types.specs.Logs.{at_least, last}
use Rattle.ring_types.specs.Rings.{Layout, is_voter, votes}
use Rattle.ring_model.specs.declared.effects.Action.TheVariants as action
use Rattle.ring_model.specs.declared.effects.Say.{Say}
use Rattle.ring_model.specs.declared.effects.Action.{Action}
use Rattle.ring_model.specs.declared.messages.Message.{Message}
use Rattle.ring_model.specs.declared.messages.RequestVote.{RequestVote}
use Rattle.ring_model.specs.declared.messages.VoteReply.{VoteReply}
use Rattle.ring_model.specs.declared.nodes.Durable.{Durable}
use Rattle.ring_model.specs.declared.nodes.Role.{Role}
use Rattle.ring_model.specs.declared.nodes.Role.TheVariants.{Candidate, Follower, Leader}
use Rattle.ring_model.specs.declared.nodes.Soft.{Soft}
use Rattle.ring_model.specs.Actions.{all_done, has_room, vote_in}
use Rattle.ring_model.specs.Elections.{answer_by, answer_request, candidate_hears, cast_actions, count_grant, elect, floor_of, grant_vote, granted_now, has_granted, has_won, lead, lead_or_ask, may_elect, on_reply, on_request, refused_now, requests, stand, voter_answers}
use Rattle.ring_model.specs.Needs.{lies_between}
use Rattle.ring_model.specs.Replication.{reply}
use Rattle.ring_model.specs.Steps.{demoted, idle, stepped, unknowns}
use Rattle.ring_model.specs.WellFormed.{IsWellFormed, opid_fits}
use Rattle.ring_lawful.proofs.Sized.{Sized, all_filter, all_weaker}
use Rattle.ring_lawful.proofs.Sends.{AllWell, Tells, Well, advance_well, last_fits}
use Rattle.ring_lawful.proofs.SizedElections.{may_stand}

-- ---- elections
requests_well : (schema : Schema) (me term : ℕ) (asked : Opid) (members : List Member) → term < TERM_END → opid_fits asked ≡ true
    → AllWell schema (requests me term asked members)
requests_well schema me term asked [] fits last = tt
requests_well schema me term asked (m ∷ members) fits last = go (m.id == me) refl (is_voter m.kind) refl (requests_well schema me term asked members fits last)
  where
    go : (a : Bool) → (m.id == me) ≡ a → (b : Bool) → is_voter m.kind ≡ b → AllWell schema (requests me term asked members)
        → AllWell schema (requests me term asked (m ∷ members))
    go true x b y rest = rw x rest
    go false x true y rest = rw (x, y) (((fits, last), tt), rest)
    go false x false y rest = rw (x, y) rest

ask_well : (ring : Layout) (me : ℕ) (d : Durable) (s : Soft) (first : List Action) (says : List Say) (grants : List Grant) (asks : List Message)
    → AllWell ring.schema asks → AllWell ring.schema (lead_or_ask ring me d s first says grants asks).plan.messages
unfolding lead_or_ask
ask_well ring me d s first says grants asks well = go (has_won ring me (all_done d first) grants)
  where
    go : (b : Bool) → AllWell ring.schema (if b then lead ring me d s first says grants else stepped first asks says (record s { role = Candidate; grants = grants })).plan.messages
    go true = advance_well ring.schema ring me d _ _ says
    go false = well

pub elect_well : (ring : Layout) (me : ℕ) (d : Durable) (s : Soft) → Tells ring d s → AllWell ring.schema (elect ring me d s).plan.messages
unfolding elect
elect_well ring me d s x = go (may_elect ring me d s) refl
  where
    room : may_elect ring me d s ≡ true → suc d.term < TERM_END
    room is = let low = (may_stand ring me d s is).term in omega (arith, low)

    go : (b : Bool) → may_elect ring me d s ≡ b → AllWell ring.schema (if b then stand ring me d s else idle s).plan.messages
    go true is =
        ask_well ring me d (demoted s) _ (unknowns s) _ (requests me (suc d.term) (last d.log) ring.members)
        (requests_well ring.schema me (suc d.term) (last d.log) ring.members (room is) (last_fits ring d s x))
    go false is = tt

pub reply_well : (ring : Layout) (me from : ℕ) (reply : VoteReply) (d : Durable) (s : Soft)
    → AllWell ring.schema (on_reply ring me d s from reply).plan.messages
unfolding on_reply
reply_well ring me from reply d s = go s.role
  where
    count : (b : Bool) → AllWell ring.schema (if b then lead_or_ask ring me d s [] [] (s.grants ++ record { voter = from; votes = reply.votes } ∷ []) [] else idle s).plan.messages
    count true = ask_well ring me d s [] [] _ [] tt
    count false = tt

    hears : (b : Bool) → AllWell ring.schema (if b then stepped (action.SetTerm reply.term ∷ []) [] (unknowns s) (demoted s) else count_grant ring me d s from reply).plan.messages
    hears true = tt
    hears false = count (reply.granted && reply.term == d.term && not (has_granted s.grants from))

    go : (r : Role) → Well ring (elim r [ Follower ↦ idle s | Candidate ↦ candidate_hears ring me d s from reply | Leader ↦ idle s ])
    go Follower = tt
    go Candidate = hears (nat_lt d.term reply.term)
    go Leader = tt

-- ---- votes
filter_short : (q : Vote → Bool) (vs : List Vote) → length (filter q vs) ≤ length vs
filter_short q [] = omega arith
filter_short q (v ∷ vs) = go (q v) refl (filter_short q vs)
  where
    go : (b : Bool) → q v ≡ b → length (filter q vs) ≤ length vs → length (filter q (v ∷ vs)) ≤ length (v ∷ vs)
    go true is rest = rw is (omega (arith, rest))
    go false is rest = rw is (omega (arith, rest))

grant_well : (ring : Layout) (me from : ℕ) (asked : RequestVote) (e : Durable) → Sized ring e → asked.term < TERM_END
    → IsWellFormed ring.schema (grant_vote me from asked e)
grant_well ring me from asked e x fits = (
  record {
    term = fits;
    few = (let a = filter_short (lies_between asked.last.term asked.term) e.votes in let b = x.few in omega (arith, a, b));
    terms = all_filter (λ (v : Vote). nat_lt v.term TERM_END) (lies_between asked.last.term asked.term) e.votes
        (all_weaker (λ (v : Vote). nat_le v.term e.term) (λ (v : Vote). nat_lt v.term TERM_END) e.votes (λ v is. let t = x.term in grind (arith, nat_tests, is, t)) x.below);
    refused = λ bad. absurd (let z : true ≡ false = bad in cc);
  },
  tt,
)

answer_well : (ring : Layout) (me : ℕ) (d : Durable) (o : Soft) (first : List Action) (says : List Say) (from : ℕ) (asked : RequestVote)
    → Sized ring (all_done d (answer_request ring me d o first says from asked).plan.actions) → asked.term < TERM_END
    → AllWell ring.schema (answer_request ring me d o first says from asked).plan.messages
answer_well ring me d o first says from asked x fits = go (vote_in d.votes asked.term) x
  where
    refusal : AllWell ring.schema (refused_now me o first says from asked.term).plan.messages
    refusal = ((record { term = fits; few = omega arith; terms = refl; refused = λ is. refl }, tt), tt)

    kept : (c : Bool) → Sized ring (all_done d (if c then granted_now me d o first says from asked else refused_now me o first says from asked.term).plan.actions)
        → AllWell ring.schema (if c then granted_now me d o first says from asked else refused_now me o first says from asked.term).plan.messages
    kept true x = (grant_well ring me from asked (all_done d first) x fits, tt)
    kept false x = refusal

    fresh : (b c : Bool)
        → Sized ring (all_done d (if b then (if c then granted_now me d o (cast_actions ring d o first from asked.term) says from asked else refused_now me o first says from asked.term) else refused_now me o first says from asked.term).plan.actions)
        → AllWell ring.schema (if b then (if c then granted_now me d o (cast_actions ring d o first from asked.term) says from asked else refused_now me o first says from asked.term) else refused_now me o first says from asked.term).plan.messages
    fresh true true x = (grant_well ring me from asked (all_done d (cast_actions ring d o first from asked.term)) x fits, tt)
    fresh true false x = refusal
    fresh false c x = refusal

    go : (v : Option Vote) → Sized ring (all_done d (answer_by ring me d o first says from asked v).plan.actions)
        → AllWell ring.schema (answer_by ring me d o first says from asked v).plan.messages
    go (Some w) x = kept (w.candidate == from) x
    go None x = fresh (at_least asked.last (last d.log)) (has_room (floor_of d o) d.votes) x

pub request_well : (ring : Layout) (me from : ℕ) (asked : RequestVote) (d : Durable) (s : Soft) → d.term < TERM_END
    → Sized ring (all_done d (on_request ring me d s from asked).plan.actions) → asked.term < TERM_END
    → AllWell ring.schema (on_request ring me d s from asked).plan.messages
unfolding on_request
request_well ring me from asked d s low x fits = voter (votes ring me) x
  where
    go : (a b : Bool)
        → Sized ring (all_done d (if a then refused_now me s [] [] from d.term else (if b then answer_request ring me d (demoted s) (action.SetTerm asked.term ∷ []) (unknowns s) from asked else answer_request ring me d s [] [] from asked)).plan.actions)
        → AllWell ring.schema (if a then refused_now me s [] [] from d.term else (if b then answer_request ring me d (demoted s) (action.SetTerm asked.term ∷ []) (unknowns s) from asked else answer_request ring me d s [] [] from asked)).plan.messages
    go true b x = ((record { term = low; few = omega arith; terms = refl; refused = λ is. refl }, tt), tt)
    go false true x = answer_well ring me d (demoted s) (action.SetTerm asked.term ∷ []) (unknowns s) from asked x fits
    go false false x = answer_well ring me d s [] [] from asked x fits

    voter : (b : Bool) → Sized ring (all_done d (if b then voter_answers ring me d s from asked else idle s).plan.actions)
        → AllWell ring.schema (if b then voter_answers ring me d s from asked else idle s).plan.messages
    voter true x = go (nat_lt asked.term d.term) (nat_lt d.term asked.term) x
    voter false x = tt
