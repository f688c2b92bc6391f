-- Elections and votes write terms, votes and at most one own entry without a transaction, so the prepared pairs stay those of the same stretch.
use Rattle.std.proofs.Common.{◌≡◌, ℕ, ◌==◌, [], ◌∷◌, ◌++◌, ◌∙◌, ◌&&◌, if◌then◌else◌, Bool, List, None, Option, Some, ap, false, inr, length, not, refl, subst, suc, sym, true}
use Rattle.std.specs.Prelude.{nat_lt}
use Rattle.ring_types.specs.declared.entries.Entry.{Entry}
use Rattle.ring_types.specs.declared.entries.Grant.{Grant}
use Rattle.ring_types.specs.declared.entries.Vote.{Vote}
use Rattle.ring_types.specs.declared.entries.Payload.TheVariants as payload
use Rattle.ring_types.specs.Rings.{Layout, runs_engine, votes}
use Rattle.ring_types.specs.Logs.{at_least, last}
use Rattle.ring_model.specs.declared.effects.Action.{Action}
use Rattle.ring_model.specs.declared.effects.Action.TheVariants as action
use Rattle.ring_model.specs.declared.effects.Say.{Say}
use Rattle.ring_model.specs.declared.messages.Message.{Message}
use Rattle.ring_model.specs.declared.messages.RequestVote.{RequestVote}
use Rattle.ring_model.specs.declared.messages.VoteReply.{VoteReply}
use Rattle.ring_model.specs.declared.nodes.Durable.{Durable}
use Rattle.ring_model.specs.declared.nodes.Role.{Role}
use Rattle.ring_model.specs.declared.nodes.Role.TheVariants.{Candidate, Follower, Leader}
use Rattle.ring_model.specs.declared.nodes.Soft.{Soft}
use Rattle.ring_model.specs.Actions.{all_done, done, has_room, vote_in}
use Rattle.ring_model.specs.Replication.{reply}
use Rattle.ring_model.specs.Elections.{answer_by, answer_request, candidate_hears, cast_actions, count_grant, elect, floor_of, grant_vote, granted_now, has_granted, has_won, lead, lead_or_ask, leading, may_elect, new_vote, on_reply, on_request, refused_now, stand, stand_actions, voter_answers}
use Rattle.ring_model.specs.Steps.{demoted, idle, own_entry, stepped, unknowns}
use Rattle.ring_model.proofs.OwnEntry.{length_push}
use Rattle.ring_model.proofs.HeldElections.{done_join}
use Rattle.ring_lawful.proofs.Along.{Allowed, Along, allowed_join, along_join}
use Rattle.ring_lawful.proofs.Pairs.{placed_push}
use Rattle.ring_lawful.proofs.Engine.{Can, Clean, HasPairs, clean_has}
use Rattle.ring_lawful.proofs.EngineSteps.{EngineRuns, EngineStep, advance_step, append_clean, stands_down}
use Rattle.ring_lawful.proofs.EngineBoth.{AllTail, Both, advance_tail, clean_at, idle_both, quiet_both, raise_both, runs_at, tail_join}

-- ---- elections
ask_engine : (ring : Layout) (me : ℕ) (d : Durable) (s : Soft) (first : List Action) (says : List Say) (grants : List Grant) (asks : List Message) (k : ℕ)
    → runs_engine ring me ≡ true → Along HasPairs d first → Allowed Can d first → Clean (all_done d first) k
    → s.commit ≡ (all_done d first).applied → EngineStep d (lead_or_ask ring me d s first says grants asks)
unfolding lead_or_ask
ask_engine ring me d s first says grants asks k runs a can x is = go (has_won ring me (all_done d first) grants)
  where
    leads : EngineStep d (lead ring me d s first says grants)
    leads =
        let own : Entry = own_entry ring me (all_done d first) payload.NoOp in
        let f : Durable = done (all_done d first) (action.Append (own ∷ [])) in
        let y = append_clean (all_done d first) k (own ∷ []) x (placed_push (all_done d first).log own x.placed refl) in
        let j = done_join d first (action.Append (own ∷ []) ∷ []) in
        advance_step ring me d (leading ring me (suc (length (all_done d first).log)) s grants) (first ++ (action.Append (own ∷ []) ∷ [])) says k runs
        (along_join HasPairs d first (action.Append (own ∷ []) ∷ []) a (clean_has (all_done d first) k x, clean_has f k y))
        (allowed_join Can d first (action.Append (own ∷ []) ∷ []) can (tt, tt))
        (subst (λ (w : Durable). Clean w k) (sym j) y) (is ∙ sym (ap (λ (w : Durable). w.applied) j))
        (λ led. inr (sym (ap (λ (w : Durable). length w.log) j ∙ length_push (all_done d first).log own)))

    go : (b : Bool) → EngineStep d (if b then lead ring me d s first says grants else stepped first asks says (record s { role = Candidate; grants = grants }))
    go true = leads
    go false = record { along = a; can = can; after = stands_down (all_done d first) (record s { role = Candidate; grants = grants }) k x is refl }

ask_tail : (ring : Layout) (me : ℕ) (d : Durable) (s : Soft) (first : List Action) (says : List Say) (grants : List Grant) (asks : List Message)
    → runs_engine ring me ≡ false → AllTail first → AllTail (lead_or_ask ring me d s first says grants asks).plan.actions
unfolding lead_or_ask
ask_tail ring me d s first says grants asks runs x = go (has_won ring me (all_done d first) grants)
  where
    go : (b : Bool) → AllTail (if b then lead ring me d s first says grants else stepped first asks says (record s { role = Candidate; grants = grants })).plan.actions
    go true =
        let own : Entry = own_entry ring me (all_done d first) payload.NoOp in
        advance_tail ring me d (leading ring me (suc (length (all_done d first).log)) s grants) (first ++ (action.Append (own ∷ []) ∷ [])) says runs
        (tail_join first (action.Append (own ∷ []) ∷ []) x (tt, tt))
    go false = x

pub elect_both : (ring : Layout) (me : ℕ) (d : Durable) (s : Soft) → Both ring me d s (elect ring me d s)
unfolding elect
elect_both ring me d s = go (may_elect ring me d s)
  where
    stands : Both ring me d s (stand ring me d s)
    stands = record {
      engine = λ runs r.
          let m : Durable = done d (action.SetTerm (suc d.term)) in
          let e : Durable = all_done d (stand_actions ring me d s) in
          let x = clean_at d m r.k refl refl refl r.clean in
          let y = clean_at d e r.k refl refl refl r.clean in
          ask_engine ring me d (demoted s) (stand_actions ring me d s) (unknowns s) _ _ r.k runs
          (clean_has d r.k r.clean, (clean_has m r.k x, clean_has e r.k y)) (tt, (tt, tt)) y r.follows;
      tail = λ runs. ask_tail ring me d (demoted s) (stand_actions ring me d s) (unknowns s) _ _ runs (tt, (tt, tt));
    }

    go : (b : Bool) → Both ring me d s (if b then stand ring me d s else idle s)
    go true = stands
    go false = idle_both ring me d s

pub reply_both : (ring : Layout) (me from : ℕ) (reply : VoteReply) (d : Durable) (s : Soft) → Both ring me d s (on_reply ring me d s from reply)
unfolding on_reply
reply_both ring me from reply d s = go s.role
  where
    count : (b : Bool) → Both ring me d s (if b then lead_or_ask ring me d s [] [] (s.grants ++ record { voter = from; votes = reply.votes } ∷ []) [] else idle s)
    count true = record {
      engine = λ runs r. ask_engine ring me d s [] [] (s.grants ++ record { voter = from; votes = reply.votes } ∷ []) [] r.k runs
          (clean_has d r.k r.clean) tt r.clean r.follows;
      tail = λ runs. ask_tail ring me d s [] [] (s.grants ++ record { voter = from; votes = reply.votes } ∷ []) [] runs tt;
    }
    count false = idle_both ring me d s

    hears : (b : Bool) → Both ring me d s (if b then stepped (action.SetTerm reply.term ∷ []) [] (unknowns s) (demoted s) else count_grant ring me d s from reply)
    hears true = raise_both ring me reply.term d s [] (unknowns s)
    hears false = count (reply.granted && reply.term == d.term && not (has_granted s.grants from))

    go : (r : Role) → Both ring me d s (elim r [ Follower ↦ idle s | Candidate ↦ candidate_hears ring me d s from reply | Leader ↦ idle s ])
    go Follower = idle_both ring me d s
    go Candidate = hears (nat_lt d.term reply.term)
    go Leader = idle_both ring me d s

-- ---- votes
-- terms and votes alone, and after them this soft part
record Before (ring : Layout) (me : ℕ) (d : Durable) (s o : Soft) (first : List Action) : Type 0 where
  engine : runs_engine ring me ≡ true → EngineRuns d s → Along HasPairs d first × Allowed Can d first × EngineRuns (all_done d first) o
  tail : runs_engine ring me ≡ false → AllTail first

before_both : (ring : Layout) (me : ℕ) (d : Durable) (s o : Soft) (first : List Action) (ms : List Message) (says : List Say) → Before ring me d s o first
    → Both ring me d s (stepped first ms says o)
before_both ring me d s o first ms says b =
    record { engine = λ runs r. (let x = b.engine runs r in record { along = x.0; can = x.1; after = x.2 }); tail = b.tail }

vote_both : (ring : Layout) (me : ℕ) (d : Durable) (s o : Soft) (first : List Action) (v : Vote) (floor : ℕ) (ms : List Message) (says : List Say)
    → Before ring me d s o first → Both ring me d s (stepped (first ++ (action.Vote v floor ∷ [])) ms says o)
vote_both ring me d s o first v floor ms says b = record {
  engine = λ runs r.
      let x = b.engine runs r in
      let e : Durable = all_done d first in
      let f : Durable = done e (action.Vote v floor) in
      let y = runs_at e f o refl refl refl x.2 in
      let z = x.2 in
      record {
        along = along_join HasPairs d first (action.Vote v floor ∷ []) x.0 (clean_has e z.k z.clean, clean_has f y.k y.clean);
        can = allowed_join Can d first (action.Vote v floor ∷ []) x.1 (tt, tt);
        after = subst (λ (w : Durable). EngineRuns w o) (sym (done_join d first (action.Vote v floor ∷ []))) y;
      };
  tail = λ runs. tail_join first (action.Vote v floor ∷ []) (b.tail runs) (tt, tt);
}

answer_both : (ring : Layout) (me : ℕ) (d : Durable) (s o : Soft) (first : List Action) (says : List Say) (from : ℕ) (asked : RequestVote)
    → Before ring me d s o first → Both ring me d s (answer_request ring me d o first says from asked)
answer_both ring me d s o first says from asked b = go (vote_in d.votes asked.term)
  where
    kept : (c : Bool) → Both ring me d s (if c then granted_now me d o first says from asked else refused_now me o first says from asked.term)
    kept true = before_both ring me d s o first (grant_vote me from asked (all_done d first) ∷ []) says b
    kept false = before_both ring me d s o first _ says b

    fresh : (a c : Bool) → Both ring me d s (if a then (if c then granted_now me d o (cast_actions ring d o first from asked.term) says from asked else refused_now me o first says from asked.term) else refused_now me o first says from asked.term)
    fresh true true = vote_both ring me d s o first (new_vote ring asked.term from) (floor_of d o) _ says b
    fresh true false = before_both ring me d s o first _ says b
    fresh false c = before_both ring me d s o first _ says b

    go : (v : Option Vote) → Both ring me d s (answer_by ring me d o first says from asked v)
    go (Some w) = kept (w.candidate == from)
    go None = fresh (at_least asked.last (last d.log)) (has_room (floor_of d o) d.votes)

pub request_both : (ring : Layout) (me from : ℕ) (asked : RequestVote) (d : Durable) (s : Soft) → Both ring me d s (on_request ring me d s from asked)
unfolding on_request
request_both ring me from asked d s = voter (votes ring me)
  where
    go : (a b : Bool) → Both ring me d s (if a then refused_now me s [] [] from d.term
        else (if b then answer_request ring me d (demoted s) (action.SetTerm asked.term ∷ []) (unknowns s) from asked else answer_request ring me d s [] [] from asked))
    go true b = quiet_both ring me d s s _ [] refl refl refl
    go false true = answer_both ring me d s (demoted s) (action.SetTerm asked.term ∷ []) (unknowns s) from asked (record {
      engine = λ runs r. (let x = clean_at d (done d (action.SetTerm asked.term)) r.k refl refl refl r.clean in ((clean_has d r.k r.clean, clean_has (done d (action.SetTerm asked.term)) r.k x), (tt, tt), stands_down (done d (action.SetTerm asked.term)) (demoted s) r.k x r.follows refl));
      tail = λ runs. (tt, tt);
    })
    go false false = answer_both ring me d s s [] [] from asked (record { engine = λ runs r. (clean_has d r.k r.clean, tt, r); tail = λ runs. tt })

    voter : (b : Bool) → Both ring me d s (if b then voter_answers ring me d s from asked else idle s)
    voter true = go (nat_lt asked.term d.term) (nat_lt d.term asked.term)
    voter false = idle_both ring me d s
