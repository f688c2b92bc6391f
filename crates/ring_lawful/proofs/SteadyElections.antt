-- Elections and votes keep the order of log and counts: they raise the term or add one own entry, which goes on from the log.
use Rattle.std.proofs.Common.{◌≡◌, ℕ, ◌≤◌, ◌==◌, ◌&&◌, [], ◌∷◌, ◌++◌, ◌∙◌, if◌then◌else◌, Bool, List, None, Option, Some, ap, arith, false, length, not, refl, subst, suc, sym, true}
use Rattle.std.proofs.lemmas.Bool.Decides.{nat_tests}
use Rattle.std.specs.Prelude.{nat_le, nat_lt}
use Rattle.ring_types.specs.declared.entries.Entry.{Entry}
use Rattle.ring_types.specs.declared.entries.Grant.{Grant}
use Rattle.ring_types.specs.declared.entries.Payload.{Payload}
use Rattle.ring_types.specs.declared.entries.Payload.TheVariants as payload
use Rattle.ring_types.specs.declared.entries.Vote.{Vote}
use Rattle.ring_types.specs.Rings.{Layout, votes}
use Rattle.ring_types.specs.Logs.{at_least, last}
use Rattle.ring_model.specs.declared.effects.Action.{Action}
use Rattle.ring_model.specs.declared.effects.Action.TheVariants as action
use Rattle.ring_model.specs.declared.effects.Say.{Say}
use Rattle.ring_model.specs.declared.messages.Message.{Message}
use Rattle.ring_model.specs.declared.messages.RequestVote.{RequestVote}
use Rattle.ring_model.specs.declared.messages.VoteReply.{VoteReply}
use Rattle.ring_model.specs.declared.nodes.Durable.{Durable}
use Rattle.ring_model.specs.declared.nodes.Role.{Role}
use Rattle.ring_model.specs.declared.nodes.Role.TheVariants.{Candidate, Follower, Leader}
use Rattle.ring_model.specs.declared.nodes.Soft.{Soft}
use Rattle.ring_model.specs.Actions.{all_done, has_room, vote_in}
use Rattle.ring_model.specs.Nodes.{is_leader}
use Rattle.ring_model.specs.Elections.{answer_by, answer_request, candidate_hears, cast_actions, count_grant, elect, floor_of, granted_now, has_granted, has_won, lead, lead_or_ask, leading, may_elect, new_vote, on_reply, on_request, refused_now, stand, stand_actions, voter_answers}
use Rattle.ring_model.specs.Steps.{advance, commit_count, demoted, follow_actions, idle, may_commit, own_entry, stepped, unknowns}
use Rattle.ring_model.proofs.HeldElections.{done_join}
use Rattle.ring_lawful.proofs.Along.{Allowed, allowed_join}
use Rattle.ring_lawful.proofs.EngineAppend.{follow_log}
use Rattle.ring_lawful.proofs.EngineSteps.{greatest_bounds}
use Rattle.ring_lawful.proofs.Chains.{Ordered, Orderly, end_low, follow_orderly, length_join, ordered_after}
use Rattle.ring_lawful.proofs.Steady.{Counted, Near, Steady, idle_steady, quiet_steady}
use Rattle.ring_lawful.proofs.SteadyPeers.{near_first, near_more}

-- ---- stepping down
pub raise_steady : (t : ℕ) (d : Durable) (s : Soft) (ms : List Message) (says : List Say) → Counted d s → d.term ≤ t
    → Steady d (stepped (action.SetTerm t ∷ []) ms says (demoted s))
raise_steady t d s ms says c up = record { allowed = (up, tt); inside = c.inside; near = λ bad. absurd (let z : false ≡ true = bad in cc) }

-- ---- a leader's step
pub advance_steady : (ring : Layout) (me : ℕ) (d : Durable) (s : Soft) (first : List Action) (says : List Say) → Ordered d → Allowed Orderly d first
    → s.commit ≤ length (all_done d first).log → (is_leader s.role ≡ true → Near (length (all_done d first).log) s.peers)
    → Steady d (advance ring me d s first says)
unfolding advance
advance_steady ring me d s first says x a inside near =
    let e : Durable = all_done d first in
    let c = commit_count ring me e.term e.log s in
    let b = greatest_bounds (may_commit ring me e.term e.log s.peers) s.commit (length e.log) (length e.log) inside (omega arith) in
    let o = ordered_after d first a x in
    let j : length (all_done d (first ++ follow_actions ring me e c)).log ≡ length e.log =
    ap (λ (w : Durable). length w.log) (done_join d first (follow_actions ring me e c)) ∙ ap length (follow_log ring me e c) in
    record {
      allowed = allowed_join Orderly d first (follow_actions ring me e c) a (follow_orderly ring me e c o.applied b.1);
      inside = (let h = b.1 in omega (arith, j, h));
      near = λ is. near_more (length e.log) (length (all_done d (first ++ follow_actions ring me e c)).log) s.peers (omega (arith, j)) (near is);
    }

-- an own entry goes on from the log
pub own_orderly : (ring : Layout) (me : ℕ) (d : Durable) (p : Payload) → Ordered d → Orderly d (action.Append (own_entry ring me d p ∷ []))
own_orderly ring me d p x =
    let z = end_low 0 d.term d.log (omega arith) x.low in
    let here : nat_le d.term d.term ≡ true = grind (arith, nat_tests) in
    ((refl, z, tt), rw here refl)

own_more : (d : Durable) (first : List Action) (e : Entry)
    → length (all_done d (first ++ (action.Append (e ∷ []) ∷ []))).log ≡ suc (length (all_done d first).log)
own_more d first e =
    let j = ap (λ (w : Durable). length w.log) (done_join d first (action.Append (e ∷ []) ∷ [])) in
    let n = length_join (all_done d first).log (e ∷ []) in
    omega (arith, j, n)

ask_steady : (ring : Layout) (me : ℕ) (d : Durable) (s : Soft) (first : List Action) (says : List Say) (grants : List Grant) (asks : List Message)
    → Ordered d → Allowed Orderly d first → s.commit ≤ length (all_done d first).log
    → Steady d (lead_or_ask ring me d s first says grants asks)
unfolding lead_or_ask
ask_steady ring me d s first says grants asks x a inside = go (has_won ring me (all_done d first) grants)
  where
    go : (b : Bool) → Steady d (if b then lead ring me d s first says grants else stepped first asks says (record s { role = Candidate; grants = grants }))
    go true =
        let n = own_more d first (own_entry ring me (all_done d first) payload.NoOp) in
        advance_steady ring me d (leading ring me (suc (length (all_done d first).log)) s grants)
        (first ++ (action.Append (own_entry ring me (all_done d first) payload.NoOp ∷ []) ∷ [])) says x
        (allowed_join Orderly d first (action.Append (own_entry ring me (all_done d first) payload.NoOp ∷ []) ∷ []) a (own_orderly ring me (all_done d first) payload.NoOp (ordered_after d first a x), tt))
        (omega (arith, n, inside))
        (λ is. near_first me (suc (length (all_done d first).log)) _ ring.members (omega arith) (omega (arith, n)))
    go false = record { allowed = a; inside = inside; near = λ bad. absurd (let z : false ≡ true = bad in cc) }

pub elect_steady : (ring : Layout) (me : ℕ) (d : Durable) (s : Soft) → Ordered d → Counted d s → Steady d (elect ring me d s)
unfolding elect
elect_steady ring me d s x c = go (may_elect ring me d s)
  where
    go : (b : Bool) → Steady d (if b then stand ring me d s else idle s)
    go true = ask_steady ring me d (demoted s) (stand_actions ring me d s) (unknowns s) _ _ x (omega arith, (tt, tt)) c.inside
    go false = idle_steady d s c

pub reply_steady : (ring : Layout) (me from : ℕ) (reply : VoteReply) (d : Durable) (s : Soft) → Ordered d → Counted d s
    → Steady d (on_reply ring me d s from reply)
unfolding on_reply
reply_steady ring me from reply d s x c = go s.role
  where
    count : (b : Bool) → Steady d (if b then lead_or_ask ring me d s [] [] (s.grants ++ record { voter = from; votes = reply.votes } ∷ []) [] else idle s)
    count true = ask_steady ring me d s [] [] (s.grants ++ record { voter = from; votes = reply.votes } ∷ []) [] x tt c.inside
    count false = idle_steady d s c

    hears : (b : Bool) → nat_lt d.term reply.term ≡ b
        → Steady d (if b then stepped (action.SetTerm reply.term ∷ []) [] (unknowns s) (demoted s) else count_grant ring me d s from reply)
    hears true is = raise_steady reply.term d s [] (unknowns s) c (grind (arith, nat_tests, is))
    hears false is = count (reply.granted && reply.term == d.term && not (has_granted s.grants from))

    go : (r : Role) → Steady d (elim r [ Follower ↦ idle s | Candidate ↦ candidate_hears ring me d s from reply | Leader ↦ idle s ])
    go Follower = idle_steady d s c
    go Candidate = hears (nat_lt d.term reply.term) refl
    go Leader = idle_steady d s c

-- ---- votes
-- terms and votes alone
record Plainly (d : Durable) (o : Soft) (first : List Action) : Type 0 where
  allowed : Allowed Orderly d first
  same : (all_done d first).log ≡ d.log
  inside : o.commit ≤ length d.log
  near : is_leader o.role ≡ true → Near (length d.log) o.peers

plainly_steady : (d : Durable) (o : Soft) (first : List Action) (ms : List Message) (says : List Say) → Plainly d o first → Steady d (stepped first ms says o)
plainly_steady d o first ms says p = record {
  allowed = p.allowed;
  inside = subst (λ (l : List Entry). o.commit ≤ length l) (sym p.same) p.inside;
  near = λ is. subst (λ (l : List Entry). Near (length l) o.peers) (sym p.same) (p.near is);
}

vote_plainly : (d : Durable) (o : Soft) (first : List Action) (v : Vote) (floor : ℕ) → Plainly d o first → Plainly d o (first ++ (action.Vote v floor ∷ []))
vote_plainly d o first v floor p = record {
  allowed = allowed_join Orderly d first (action.Vote v floor ∷ []) p.allowed (tt, tt);
  same = ap (λ (w : Durable). w.log) (done_join d first (action.Vote v floor ∷ [])) ∙ p.same;
  inside = p.inside;
  near = p.near;
}

answer_steady : (ring : Layout) (me : ℕ) (d : Durable) (o : Soft) (first : List Action) (says : List Say) (from : ℕ) (asked : RequestVote)
    → Plainly d o first → Steady d (answer_request ring me d o first says from asked)
answer_steady ring me d o first says from asked p = go (vote_in d.votes asked.term)
  where
    kept : (c : Bool) → Steady d (if c then granted_now me d o first says from asked else refused_now me o first says from asked.term)
    kept true = plainly_steady d o first _ says p
    kept false = plainly_steady d o first _ says p

    fresh : (b c : Bool)
        → Steady d (if b then (if c then granted_now me d o (cast_actions ring d o first from asked.term) says from asked else refused_now me o first says from asked.term) else refused_now me o first says from asked.term)
    fresh true true =
        plainly_steady d o (first ++ (action.Vote (new_vote ring asked.term from) (floor_of d o) ∷ [])) _ says
        (vote_plainly d o first (new_vote ring asked.term from) (floor_of d o) p)
    fresh true false = plainly_steady d o first _ says p
    fresh false c = plainly_steady d o first _ says p

    go : (v : Option Vote) → Steady d (answer_by ring me d o first says from asked v)
    go (Some w) = kept (w.candidate == from)
    go None = fresh (at_least asked.last (last d.log)) (has_room (floor_of d o) d.votes)

pub request_steady : (ring : Layout) (me from : ℕ) (asked : RequestVote) (d : Durable) (s : Soft) → Counted d s → Steady d (on_request ring me d s from asked)
unfolding on_request
request_steady ring me from asked d s c = voter (votes ring me)
  where
    go : (a b : Bool) → nat_lt d.term asked.term ≡ b → Steady d (if a then refused_now me s [] [] from d.term
        else (if b then answer_request ring me d (demoted s) (action.SetTerm asked.term ∷ []) (unknowns s) from asked else answer_request ring me d s [] [] from asked))
    go true b z = quiet_steady d s s _ [] c refl refl refl
    go false true z =
        answer_steady ring me d (demoted s) (action.SetTerm asked.term ∷ []) (unknowns s) from asked
        (record { allowed = (grind (arith, nat_tests, z), tt); same = refl; inside = c.inside; near = λ bad. absurd (let z : false ≡ true = bad in cc) })
    go false false z = answer_steady ring me d s [] [] from asked (record { allowed = tt; same = refl; inside = c.inside; near = c.near })

    voter : (b : Bool) → Steady d (if b then voter_answers ring me d s from asked else idle s)
    voter true = go (nat_lt asked.term d.term) (nat_lt d.term asked.term) refl
    voter false = idle_steady d s c
