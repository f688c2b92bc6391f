-- A node stands only below the greatest term and with room in its log, and keeps a vote only where there is room for it.
use Rattle.std.proofs.Common.{◌≡◌, ℕ, ◌-◌, ◌<◌, ◌≤◌, ◌==◌, ◌&&◌, [], ◌∷◌, ◌++◌, if◌then◌else◌, Bool, List, None, Option, Some, arith, false, length, not, refl, subst, suc, sym, true}
use Rattle.std.proofs.lemmas.Bool.Decides.{nat_tests}
use Rattle.std.specs.Prelude.{nat_lt}
use Rattle.ring_types.specs.declared.limits.TheConstants.{LAST_FILE, TERM_END}
use Rattle.ring_types.specs.declared.entries.Grant.{Grant}
use Rattle.ring_types.specs.declared.entries.Opid.{Opid}
use Rattle.ring_types.specs.declared.entries.Payload.TheVariants as payload
use Rattle.ring_types.specs.declared.entries.Vote.{Vote}
use Rattle.ring_types.specs.declared.members.Member.{Member}
use Rattle.ring_types.specs.Rings.{Layout, is_voter, votes}
use Rattle.ring_types.specs.Logs.{at_least, last}
use Rattle.ring_model.specs.declared.effects.Action.{Action}
use Rattle.ring_model.specs.declared.effects.Action.TheVariants as action
use Rattle.ring_model.specs.declared.effects.Say.{Say}
use Rattle.ring_model.specs.declared.messages.Message.{Message}
use Rattle.ring_model.specs.declared.messages.RequestVote.{RequestVote}
use Rattle.ring_model.specs.declared.messages.VoteReply.{VoteReply}
use Rattle.ring_model.specs.declared.nodes.Durable.{Durable}
use Rattle.ring_model.specs.declared.nodes.Role.{Role}
use Rattle.ring_model.specs.declared.nodes.Role.TheVariants.{Candidate, Follower, Leader}
use Rattle.ring_model.specs.declared.nodes.Soft.{Soft}
use Rattle.ring_model.specs.Actions.{all_done, done, has_room, vote_in}
use Rattle.ring_model.specs.Nodes.{is_leader}
use Rattle.ring_model.specs.Replication.{reply}
use Rattle.ring_model.specs.Elections.{answer_by, answer_request, candidate_hears, cast_actions, count_grant, elect, floor_of, grant_vote, granted_now, has_granted, has_won, lead, lead_or_ask, leading, may_elect, new_vote, on_reply, on_request, refuse_vote, refused_now, requests, stand, stand_actions, voter_answers}
use Rattle.ring_model.specs.Steps.{demoted, idle, own_entry, stepped, unknowns}
use Rattle.ring_types.proofs.Booleans.{both_true}
use Rattle.ring_model.proofs.HeldElections.{done_join}
use Rattle.ring_lawful.proofs.Along.{Allowed, allowed_join}
use Rattle.ring_lawful.proofs.Sized.{AllFit, May, Sized, none_later, turns}
use Rattle.ring_lawful.proofs.SizedSteps.{IsShort, Keeps, advance_keeps, follower_short, idle_keeps, own_fits, quiet_keeps, raise_keeps}

ask_keeps : (ring : Layout) (me : ℕ) (d : Durable) (s : Soft) (first : List Action) (says : List Say) (grants : List Grant) (asks : List Message)
    → Sized ring d → Allowed (May ring) d first → length (all_done d first).log < TERM_END - 1
    → turns (all_done d first).log ≤ LAST_FILE - 1 → AllFit ring asks → Keeps ring d (lead_or_ask ring me d s first says grants asks)
unfolding lead_or_ask
ask_keeps ring me d s first says grants asks x a short few fit = go (has_won ring me (all_done d first) grants)
  where
    go : (b : Bool) → Keeps ring d (if b then lead ring me d s first says grants else stepped first asks says (record s { role = Candidate; grants = grants }))
    go true =
        advance_keeps ring me d (leading ring me (suc (length (all_done d first).log)) s grants)
        (first ++ (action.Append (own_entry ring me (all_done d first) payload.NoOp ∷ []) ∷ [])) says x
        (allowed_join (May ring) d first (action.Append (own_entry ring me (all_done d first) payload.NoOp ∷ []) ∷ []) a
        ((own_fits ring me (all_done d first) payload.NoOp (omega arith) (omega (arith, short)) refl, omega (arith, few)), tt)) refl
    go false = record { allowed = a; short = λ is. short; sent = fit }

requests_fit : (ring : Layout) (me term : ℕ) (asked : Opid) (members : List Member) → term < TERM_END → AllFit ring (requests me term asked members)
requests_fit ring me term asked [] fits = tt
requests_fit ring me term asked (m ∷ members) fits = go (m.id == me) refl (is_voter m.kind) refl (requests_fit ring me term asked members fits)
  where
    go : (a : Bool) → (m.id == me) ≡ a → (b : Bool) → is_voter m.kind ≡ b → AllFit ring (requests me term asked members)
        → AllFit ring (requests me term asked (m ∷ members))
    go true x b y rest = rw x rest
    go false x true y rest = rw (x, y) (fits, rest)
    go false x false y rest = rw (x, y) rest

-- what the test of an election asks
pub record MayStand (ring : Layout) (me : ℕ) (d : Durable) (s : Soft) : Type 0 where
  pub voter : votes ring me ≡ true
  pub term : d.term < TERM_END - 1
  pub length : length d.log < TERM_END - 1
  pub room : has_room (floor_of d s) d.votes ≡ true

pub may_stand : (ring : Layout) (me : ℕ) (d : Durable) (s : Soft) → may_elect ring me d s ≡ true → MayStand ring me d s
may_stand ring me d s is =
    let stands : Bool = votes ring me && not (is_leader s.role) in
    let low : Bool = nat_lt d.term (TERM_END - 1) in
    let short : Bool = nat_lt (length d.log) (TERM_END - 1) in
    let a = both_true (stands && low && short) (has_room (floor_of d s) d.votes) is in
    let b = both_true (stands && low) short a.0 in
    let c = both_true stands low b.0 in
    record {
      voter = (both_true (votes ring me) (not (is_leader s.role)) c.0).0;
      term = (let x = c.1 in grind (arith, nat_tests, x));
      length = (let x = b.1 in grind (arith, nat_tests, x));
      room = a.1;
    }

pub elect_keeps : (ring : Layout) (me : ℕ) (d : Durable) (s : Soft) → Sized ring d → IsShort d s → Keeps ring d (elect ring me d s)
unfolding elect
elect_keeps ring me d s x short = go (may_elect ring me d s) refl
  where
    stands : MayStand ring me d s → Keeps ring d (stand ring me d s)
    stands m =
        let low = m.term in
        ask_keeps ring me d (demoted s) (stand_actions ring me d s) (unknowns s) _ _ x
        ((omega arith, omega (arith, low)), ((m.room, refl, none_later d.votes d.term (suc d.term) (omega arith) x.below), tt)) m.length x.files
        (requests_fit ring me (suc d.term) (last d.log) ring.members (omega (arith, low)))

    go : (b : Bool) → may_elect ring me d s ≡ b → Keeps ring d (if b then stand ring me d s else idle s)
    go true is = stands (may_stand ring me d s is)
    go false is = idle_keeps ring d s short

pub reply_keeps : (ring : Layout) (me from : ℕ) (reply : VoteReply) (d : Durable) (s : Soft) → Sized ring d → IsShort d s → reply.term < TERM_END
    → Keeps ring d (on_reply ring me d s from reply)
unfolding on_reply
reply_keeps ring me from reply d s x short fits = go s.role refl
  where
    count : s.role ≡ Candidate → (b : Bool)
        → Keeps ring d (if b then lead_or_ask ring me d s [] [] (s.grants ++ record { voter = from; votes = reply.votes } ∷ []) [] else idle s)
    count role true = ask_keeps ring me d s [] [] (s.grants ++ record { voter = from; votes = reply.votes } ∷ []) [] x tt (short role) x.files tt
    count role false = idle_keeps ring d s short

    hears : s.role ≡ Candidate → (b : Bool) → nat_lt d.term reply.term ≡ b
        → Keeps ring d (if b then stepped (action.SetTerm reply.term ∷ []) [] (unknowns s) (demoted s) else count_grant ring me d s from reply)
    hears role true is = raise_keeps ring reply.term d s [] (unknowns s) (grind (arith, nat_tests, is)) fits tt
    hears role false is = count role (reply.granted && reply.term == d.term && not (has_granted s.grants from))

    go : (r : Role) → s.role ≡ r → Keeps ring d (elim r [ Follower ↦ idle s | Candidate ↦ candidate_hears ring me d s from reply | Leader ↦ idle s ])
    go Follower role = idle_keeps ring d s short
    go Candidate role = hears role (nat_lt d.term reply.term) refl
    go Leader role = idle_keeps ring d s short

-- ---- votes
vote_keeps : (ring : Layout) (d : Durable) (o : Soft) (first : List Action) (v : Vote) (floor : ℕ) (ms : List Message) (says : List Say)
    → Allowed (May ring) d first → May ring (all_done d first) (action.Vote v floor) → IsShort (all_done d first) o → AllFit ring ms
    → Keeps ring d (stepped (first ++ (action.Vote v floor ∷ [])) ms says o)
vote_keeps ring d o first v floor ms says a may short fit = record {
  allowed = allowed_join (May ring) d first (action.Vote v floor ∷ []) a (may, tt);
  short = λ is. subst (λ (w : Durable). length w.log < TERM_END - 1) (sym (done_join d first (action.Vote v floor ∷ []))) (short is);
  sent = fit;
}

answer_keeps : (ring : Layout) (me : ℕ) (d : Durable) (o : Soft) (first : List Action) (says : List Say) (from : ℕ) (asked : RequestVote)
    → Allowed (May ring) d first → (all_done d first).term ≡ asked.term → (all_done d first).votes ≡ d.votes
    → IsShort (all_done d first) o → asked.term < TERM_END → Keeps ring d (answer_request ring me d o first says from asked)
answer_keeps ring me d o first says from asked a is_t same short fits = go (vote_in d.votes asked.term) refl
  where
    plain : (m : Message) → AllFit ring (m ∷ []) → Keeps ring d (stepped first (m ∷ []) says o)
    plain m fit = record { allowed = a; short = short; sent = fit }

    kept : (c : Bool) → Keeps ring d (if c then granted_now me d o first says from asked else refused_now me o first says from asked.term)
    kept true = plain (grant_vote me from asked (all_done d first)) (fits, tt)
    kept false = plain (refuse_vote me from asked.term) (fits, tt)

    fresh : vote_in d.votes asked.term ≡ None → (b c : Bool) → has_room (floor_of d o) d.votes ≡ c
        → Keeps ring d (if b then (if c then granted_now me d o (cast_actions ring d o first from asked.term) says from asked else refused_now me o first says from asked.term) else refused_now me o first says from asked.term)
    fresh none true true room = vote_keeps ring d o first (new_vote ring asked.term from) (floor_of d o) _ says a
        (subst (λ (vs : List Vote). has_room (floor_of d o) vs ≡ true) (sym same) room, sym is_t, subst (λ (vs : List Vote). vote_in vs (all_done d first).term ≡ None) (sym same) (subst (λ (t : ℕ). vote_in d.votes t ≡ None) (sym is_t) none)) short (fits, tt)
    fresh none true false room = plain (refuse_vote me from asked.term) (fits, tt)
    fresh none false c room = plain (refuse_vote me from asked.term) (fits, tt)

    go : (v : Option Vote) → vote_in d.votes asked.term ≡ v → Keeps ring d (answer_by ring me d o first says from asked v)
    go (Some w) is = kept (w.candidate == from)
    go None is = fresh is (at_least asked.last (last d.log)) (has_room (floor_of d o) d.votes) refl

pub request_keeps : (ring : Layout) (me from : ℕ) (asked : RequestVote) (d : Durable) (s : Soft) → Sized ring d → IsShort d s → asked.term < TERM_END
    → Keeps ring d (on_request ring me d s from asked)
unfolding on_request
request_keeps ring me from asked d s x short fits = voter (votes ring me)
  where
    go : (a : Bool) → nat_lt asked.term d.term ≡ a → (b : Bool) → nat_lt d.term asked.term ≡ b → Keeps ring d (if a then refused_now me s [] [] from d.term
        else (if b then answer_request ring me d (demoted s) (action.SetTerm asked.term ∷ []) (unknowns s) from asked else answer_request ring me d s [] [] from asked))
    go true y b z = quiet_keeps ring d s s (refuse_vote me from d.term ∷ []) [] short refl (x.term, tt)
    go false y true z =
        answer_keeps ring me d (demoted s) (action.SetTerm asked.term ∷ []) (unknowns s) from asked ((grind (arith, nat_tests, z), fits), tt) refl refl
        (follower_short (done d (action.SetTerm asked.term)) (demoted s) refl) fits
    go false y false z = answer_keeps ring me d s [] [] from asked tt (grind (arith, nat_tests, y, z)) refl short fits

    voter : (b : Bool) → Keeps ring d (if b then voter_answers ring me d s from asked else idle s)
    voter true = go (nat_lt asked.term d.term) refl (nat_lt d.term asked.term) refl
    voter false = idle_keeps ring d s short
