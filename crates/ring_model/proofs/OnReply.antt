-- A candidate that hears a reply: it takes a greater term, or counts one more grant, which joins its candidacy since it asked once in its term.
use Rattle.std.proofs.Common.{◌≡◌, ℕ, ◌==◌, ◌&&◌, [], ◌∷◌, ◌++◌, if◌then◌else◌, Bool, List, ap, arith, false, not, refl, subst, true}
use Rattle.std.proofs.lemmas.Bool.Decides.{nat_tests}
use Rattle.std.specs.Prelude.{nat_lt}
use Rattle.ring_types.specs.declared.entries.Grant.{Grant}
use Rattle.ring_types.specs.Rings.{Layout}
use Rattle.ring_model.specs.declared.nodes.Role.TheVariants.{Candidate, Follower, Leader}
use Rattle.ring_model.specs.declared.nodes.Durable.{Durable}
use Rattle.ring_model.specs.declared.nodes.Role.{Role}
use Rattle.ring_model.specs.declared.nodes.Soft.{Soft}
use Rattle.ring_model.specs.declared.messages.VoteReply.{VoteReply}
use Rattle.ring_model.specs.Elections.{candidate_hears, count_grant, has_granted, lead_or_ask, on_reply}
use Rattle.ring_model.specs.Steps.{demoted, idle, stepped, unknowns}
use Rattle.ring_model.specs.Nodes.{is_leader}
use Rattle.ring_model.specs.Replication.{reply}
use Rattle.ring_model.specs.declared.effects.Action.TheVariants as action
use Rattle.ring_model.specs.declared.messages.Body.TheVariants as body
use Rattle.ring_model.proofs.Invariant.{HasRole, History, IsCandidate, IsGrant, IsHistory, IsNode, IsRunning, IsSent}
use Rattle.ring_model.proofs.Paths.{Ends}
use Rattle.ring_model.proofs.Winning.{grant_joins}
use Rattle.ring_model.proofs.Turns.{IsRow, Sent_all}
use Rattle.ring_model.proofs.Plain.{idle_row, raise_row}
use Rattle.ring_model.proofs.Elect.{ask_row}

counts_grant : (granted same twice : Bool) → (granted && same && not twice) ≡ true → (granted ≡ true) × (same ≡ true)
counts_grant true true twice is = (refl, refl)
counts_grant true false twice is = absurd cc
counts_grant false same twice is = absurd cc

pub reply_row : (ring : Layout) (h : History) (id from : ℕ) (reply : VoteReply) (d : Durable) (s : Soft) → IsHistory ring h → IsNode ring h id d → IsRunning ring h id d s
    → IsSent ring h from id (body.VoteReply reply) → IsRow ring h id d s (on_reply ring id d s from reply)
unfolding on_reply
reply_row ring h id from reply d s k n r sent = go s.role refl
  where
    grants : List Grant
    grants = s.grants ++ record { voter = from; votes = reply.votes } ∷ []

    joins : s.role ≡ Candidate → reply.granted ≡ true → reply.term ≡ d.term → IsCandidate h id d (s.grants ++ record { voter = from; votes = reply.votes } ∷ [])
    joins is agreed same =
        let x : IsCandidate h id d s.grants = subst (λ (o : Role). HasRole h id d s o) is r.role in
        let y = sent agreed in
        grant_joins ring h id d k n s.grants (record { voter = from; votes = reply.votes }) y.0 x (subst (λ (u : ℕ). IsGrant h id u y.0 (record { voter = from; votes = reply.votes })) same y.1)

    count : s.role ≡ Candidate → (b : Bool) → (reply.granted && reply.term == d.term && not (has_granted s.grants from)) ≡ b
        → IsRow ring h id d s (if b then lead_or_ask ring id d s [] [] (s.grants ++ record { voter = from; votes = reply.votes } ∷ []) [] else idle s)
    count role false is = idle_row ring h id d s r
    count role true is =
        let two = counts_grant reply.granted (reply.term == d.term) (has_granted s.grants from) is in
        let x = joins role two.0 (grind (arith, nat_tests, two.1)) in
        ask_row ring h h h id d s s [] [] (s.grants ++ record { voter = from; votes = reply.votes } ∷ []) [] Ends tt (ap is_leader role) k n x Sent_all x r.sealed r.sealed r.applied r.chosen

    hears : s.role ≡ Candidate → (a : Bool) → nat_lt d.term reply.term ≡ a → IsRow ring h id d s (if a then stepped (action.SetTerm reply.term ∷ []) [] (unknowns s) (demoted s) else count_grant ring id d s from reply)
    hears role true is = raise_row ring h id reply.term d s (grind (arith, nat_tests, is)) r
    hears role false is = count role (reply.granted && reply.term == d.term && not (has_granted s.grants from)) refl

    go : (o : Role) → s.role ≡ o → IsRow ring h id d s (elim o [ Follower ↦ idle s | Candidate ↦ candidate_hears ring id d s from reply | Leader ↦ idle s ])
    go Follower role = idle_row ring h id d s r
    go Candidate role = hears role (nat_lt d.term reply.term) refl
    go Leader role = idle_row ring h id d s r
