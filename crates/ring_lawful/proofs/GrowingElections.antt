-- Elections and votes add at most the winner's own entry, which has no transaction, and such an entry keeps the property.
use Rattle.std.proofs.Common.{ℕ, ◌==◌, ◌&&◌, [], ◌∷◌, ◌++◌, if◌then◌else◌, Bool, List, None, Option, Some, false, inr, length, not, refl, suc, true}
use Rattle.std.specs.Prelude.{nat_lt}
use Rattle.ring_types.specs.declared.entries.Entry.{Entry}
use Rattle.ring_types.specs.declared.entries.Grant.{Grant}
use Rattle.ring_types.specs.declared.entries.Payload.TheVariants as payload
use Rattle.ring_types.specs.declared.entries.Vote.{Vote}
use Rattle.ring_types.specs.Rings.{Layout, votes}
use Rattle.ring_types.specs.Logs.{at_least, last}
use Rattle.ring_model.specs.declared.effects.Action.{Action}
use Rattle.ring_model.specs.declared.effects.Action.TheVariants as action
use Rattle.ring_model.specs.declared.effects.Say.{Say}
use Rattle.ring_model.specs.declared.messages.Message.{Message}
use Rattle.ring_model.specs.declared.messages.RequestVote.{RequestVote}
use Rattle.ring_model.specs.declared.messages.VoteReply.{VoteReply}
use Rattle.ring_model.specs.declared.nodes.Durable.{Durable}
use Rattle.ring_model.specs.declared.nodes.Role.{Role}
use Rattle.ring_model.specs.declared.nodes.Role.TheVariants.{Candidate, Follower, Leader}
use Rattle.ring_model.specs.declared.nodes.Soft.{Soft}
use Rattle.ring_model.specs.Actions.{all_done, has_room, vote_in}
use Rattle.ring_model.specs.Elections.{answer_by, answer_request, candidate_hears, cast_actions, count_grant, elect, floor_of, granted_now, has_granted, has_won, lead, lead_or_ask, leading, may_elect, new_vote, on_reply, on_request, refused_now, stand, stand_actions, voter_answers}
use Rattle.ring_model.specs.Replication.{reply}
use Rattle.ring_model.specs.Steps.{demoted, idle, own_entry, stepped, unknowns}
use Rattle.ring_model.proofs.Invariant.{History}
use Rattle.ring_lawful.proofs.Along.{Allowed, allowed_join}
use Rattle.ring_lawful.proofs.Growing.{Adds, KeptByPlain, MayGrow, advance_logs}

module _ (ring : Layout) (h : History) (me : ℕ) (P : List Entry → Type 0) (plain : KeptByPlain P) where
  -- ---- elections
  ask_logs : (d : Durable) (s : Soft) (first : List Action) (says : List Say) (grants : List Grant) (asks : List Message) → Allowed (MayGrow h me P) d first
      → Adds h me P d (lead_or_ask ring me d s first says grants asks)
  unfolding lead_or_ask
  ask_logs d s first says grants asks a = go (has_won ring me (all_done d first) grants)
    where
      go : (b : Bool) → Adds h me P d (if b then lead ring me d s first says grants else stepped first asks says (record s { role = Candidate; grants = grants }))
      go true =
          let own : Entry = own_entry ring me (all_done d first) payload.NoOp in
          advance_logs ring h me P d (leading ring me (suc (length (all_done d first).log)) s grants) (first ++ (action.Append (own ∷ []) ∷ [])) says
          (allowed_join (MayGrow h me P) d first (action.Append (own ∷ []) ∷ []) a (inr (plain (all_done d first).log own refl), tt))
      go false = a

  pub elect_logs : (d : Durable) (s : Soft) → Adds h me P d (elect ring me d s)
  unfolding elect
  elect_logs d s = go (may_elect ring me d s)
    where
      go : (b : Bool) → Adds h me P d (if b then stand ring me d s else idle s)
      go true = ask_logs d (demoted s) (stand_actions ring me d s) (unknowns s) _ _ (tt, (tt, tt))
      go false = tt

  pub reply_logs : (from : ℕ) (reply : VoteReply) (d : Durable) (s : Soft) → Adds h me P d (on_reply ring me d s from reply)
  unfolding on_reply
  reply_logs from reply d s = go s.role
    where
      count : (b : Bool) → Adds h me P d (if b then lead_or_ask ring me d s [] [] (s.grants ++ record { voter = from; votes = reply.votes } ∷ []) [] else idle s)
      count true = ask_logs d s [] [] (s.grants ++ record { voter = from; votes = reply.votes } ∷ []) [] tt
      count false = tt

      hears : (b : Bool) → Adds h me P d (if b then stepped (action.SetTerm reply.term ∷ []) [] (unknowns s) (demoted s) else count_grant ring me d s from reply)
      hears true = (tt, tt)
      hears false = count (reply.granted && reply.term == d.term && not (has_granted s.grants from))

      go : (r : Role) → Adds h me P d (elim r [ Follower ↦ idle s | Candidate ↦ candidate_hears ring me d s from reply | Leader ↦ idle s ])
      go Follower = tt
      go Candidate = hears (nat_lt d.term reply.term)
      go Leader = tt

  -- ---- votes
  answer_logs : (d : Durable) (o : Soft) (first : List Action) (says : List Say) (from : ℕ) (asked : RequestVote) → Allowed (MayGrow h me P) d first
      → Adds h me P d (answer_request ring me d o first says from asked)
  answer_logs d o first says from asked a = go (vote_in d.votes asked.term)
    where
      kept : (c : Bool) → Adds h me P d (if c then granted_now me d o first says from asked else refused_now me o first says from asked.term)
      kept true = a
      kept false = a

      fresh : (b c : Bool) → Adds h me P d (if b then (if c then granted_now me d o (cast_actions ring d o first from asked.term) says from asked else refused_now me o first says from asked.term) else refused_now me o first says from asked.term)
      fresh true true = allowed_join (MayGrow h me P) d first (action.Vote (new_vote ring asked.term from) (floor_of d o) ∷ []) a (tt, tt)
      fresh true false = a
      fresh false c = a

      go : (v : Option Vote) → Adds h me P d (answer_by ring me d o first says from asked v)
      go (Some w) = kept (w.candidate == from)
      go None = fresh (at_least asked.last (last d.log)) (has_room (floor_of d o) d.votes)

  pub request_logs : (from : ℕ) (asked : RequestVote) (d : Durable) (s : Soft) → Adds h me P d (on_request ring me d s from asked)
  unfolding on_request
  request_logs from asked d s = voter (votes ring me)
    where
      go : (a b : Bool) → Adds h me P d (if a then refused_now me s [] [] from d.term
          else (if b then answer_request ring me d (demoted s) (action.SetTerm asked.term ∷ []) (unknowns s) from asked else answer_request ring me d s [] [] from asked))
      go true b = tt
      go false true = answer_logs d (demoted s) (action.SetTerm asked.term ∷ []) (unknowns s) from asked (tt, tt)
      go false false = answer_logs d s [] [] from asked tt

      voter : (b : Bool) → Adds h me P d (if b then voter_answers ring me d s from asked else idle s)
      voter true = go (nat_lt asked.term d.term) (nat_lt d.term asked.term)
      voter false = tt
