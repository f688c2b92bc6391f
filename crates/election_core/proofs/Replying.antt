-- the rule of a vote's reply, by its cases
use Rattle.std.proofs.Common.{◌≡◌, ℕ, ◌<◌, ◌≤◌, Bool, true, false, nat_lt, if◌then◌else◌, List, [], ◌∷◌, ◌++◌, Option, Some, None, refl, sym, ap, ap₂, ◌∙◌, arith}
use Rattle.std.specs.Prelude.{IfSome}
use Rattle.std.proofs.lemmas.Bool.Decides.{nat_tests}
use Rattle.ring_types.specs.declared.entries.Entry.{Entry}
use Rattle.ring_types.specs.declared.entries.Pair.{Pair}
use Rattle.ring_types.specs.Rings.{Layout}
use Rattle.ring_model.specs.Elections as spec
use Rattle.ring_model.specs.Steps.{demoted, idle, stepped, unknowns}
use Rattle.ring_model.specs.declared.nodes.Durable.{Durable}
use Rattle.ring_model.specs.declared.nodes.Pending.{Pending}
use Rattle.ring_model.specs.declared.nodes.Role.{Role}
use Rattle.ring_model.specs.declared.nodes.Role.TheVariants.{Follower, Candidate, Leader}
use Rattle.ring_model.specs.declared.nodes.Soft.{Soft}
use Rattle.ring_model.specs.declared.effects.Action.TheVariants as action
use Rattle.ring_model.specs.declared.effects.Plan.{Plan}
use Rattle.ring_model.specs.declared.messages.VoteReply.{VoteReply}
use Rattle.commit_pipeline.specs.declared.heres.Here.{Here}
use Rattle.commit_pipeline.specs.Advances.{part_after}
use Rattle.commit_pipeline.specs.Heres.{durable_of}
use Rattle.election_core.specs.declared.leading.Bid.{Bid}
use Rattle.election_core.specs.declared.leading.Election.{Election}
use Rattle.election_core.specs.Bids as own
use Rattle.election_core.proofs.Bidding.{asks_or_leads, step_of}

by_role : (ring : Layout) (me : ℕ) (d : Durable) (s : Soft) (from : ℕ) (reply : VoteReply) (b : Bool) → own.is_deaf s.role ≡ b
    → spec.on_reply ring me d s from reply ≡ (if b then idle s else spec.candidate_hears ring me d s from reply)
unfolding spec.on_reply
by_role ring me d s from reply b is = go s.role ∙ ap (λ (x : Bool). if x then idle s else spec.candidate_hears ring me d s from reply) is
  where
    go : (r : Role) → (elim r [ Follower ↦ idle s | Candidate ↦ spec.candidate_hears ring me d s from reply | Leader ↦ idle s ])
        ≡ (if own.is_deaf r then idle s else spec.candidate_hears ring me d s from reply)
    go Follower = refl
    go Candidate = refl
    go Leader = refl

by_tests : (ring : Layout) (me : ℕ) (d : Durable) (s : Soft) (from : ℕ) (reply : VoteReply) (a b : Bool) → nat_lt d.term reply.term ≡ a → own.counts d.term s.grants from reply ≡ b
    → spec.candidate_hears ring me d s from reply
    ≡ (if a then stepped (action.SetTerm reply.term ∷ []) [] (unknowns s) (demoted s)
    else (if b then spec.lead_or_ask ring me d s [] [] (s.grants ++ record { voter = from; votes = reply.votes } ∷ []) [] else idle s))
by_tests ring me d s from reply a b h k =
    ap₂ (λ (x y : Bool). if x then stepped (action.SetTerm reply.term ∷ []) [] (unknowns s) (demoted s)
    else (if y then spec.lead_or_ask ring me d s [] [] (s.grants ++ record { voter = from; votes = reply.votes } ∷ []) [] else idle s)) h k

pub is_less : (a b : ℕ) → a < b → nat_lt a b ≡ true
is_less a b h = grind (arith, nat_tests)

pub is_not_less : (a b : ℕ) → b ≤ a → nat_lt a b ≡ false
is_not_less a b h = grind (arith, nat_tests)

pub role_of : (is : Bool) (r : Role) → is ≡ own.is_deaf r → is ≡ false → r ≡ Candidate
role_of is Follower a b = absurd cc
role_of is Candidate a b = refl
role_of is Leader a b = absurd cc

pub ignores : {V : Type 0} (told : Option (List Entry)) (here : Here V) (s : Soft) (from : ℕ) (reply : VoteReply) (plan : Plan) → own.is_deaf s.role ≡ true
    → plan ≡ record { actions = []; messages = []; says = [] } → IfSome told (λ log. spec.on_reply here.ring.now here.me (durable_of here log) s from reply ≡ record { plan = plan; soft = s })
ignores None here s from reply plan unable is = tt
ignores (Some log) here s from reply plan unable is =
    by_role here.ring.now here.me (durable_of here log) s from reply true unable ∙ ap (λ (p : Plan). record { plan = p; soft = s }) (sym is)

pub adopts : {V : Type 0} (told : Option (List Entry)) (here : Here V) (s new : Soft) (from : ℕ) (reply : VoteReply) (plan : Plan) → own.is_deaf s.role ≡ false → nat_lt here.term reply.term ≡ true
    → plan ≡ record { actions = action.SetTerm reply.term ∷ []; messages = []; says = unknowns s } → new ≡ demoted s
    → IfSome told (λ log. spec.on_reply here.ring.now here.me (durable_of here log) s from reply ≡ record { plan = plan; soft = new })
adopts None here s new from reply plan able later is down = tt
adopts (Some log) here s new from reply plan able later is down =
    let d : Durable = durable_of here log in
    by_role here.ring.now here.me d s from reply false able
    ∙ (by_tests here.ring.now here.me d s from reply true (own.counts d.term s.grants from reply) later refl
    ∙ ap₂ (λ (p : Plan) (x : Soft). record { plan = p; soft = x }) (sym is) (sym down))

pub passes : {V : Type 0} (told : Option (List Entry)) (here : Here V) (s : Soft) (from : ℕ) (reply : VoteReply) (plan : Plan) → own.is_deaf s.role ≡ false → nat_lt here.term reply.term ≡ false
    → own.counts here.term s.grants from reply ≡ false → plan ≡ record { actions = []; messages = []; says = [] }
    → IfSome told (λ log. spec.on_reply here.ring.now here.me (durable_of here log) s from reply ≡ record { plan = plan; soft = s })
passes None here s from reply plan able later unable is = tt
passes (Some log) here s from reply plan able later unable is =
    let d : Durable = durable_of here log in
    by_role here.ring.now here.me d s from reply false able
    ∙ (by_tests here.ring.now here.me d s from reply false false later unable ∙ ap (λ (p : Plan). record { plan = p; soft = s }) (sym is))

pub counted : {V : Type 0} (told : Option (List Entry)) (here : Here V) (s new : Soft) (from : ℕ) (reply : VoteReply) (pairs : List Pair) (pending : List Pending) (bid : Bid) (it : Election) (plan : Plan)
    → own.is_deaf s.role ≡ false → nat_lt here.term reply.term ≡ false → own.counts here.term s.grants from reply ≡ true → pairs ≡ here.prepared.now → pending ≡ s.pending
    → bid ≡ own.next_bid s.grants from reply → IfSome told (λ log. it ≡ own.election here.ring.now here.me (part_after here.term log here.applied pairs) s.commit pending bid)
    → plan ≡ it.plan → new ≡ own.settled s it
    → IfSome told (λ log. spec.on_reply here.ring.now here.me (durable_of here log) s from reply ≡ record { plan = plan; soft = new })
counted None here s new from reply pairs pending bid it plan able later one same waits bids made plans sets = tt
counted (Some log) here s new from reply pairs pending bid it plan able later one same waits bids made plans sets =
    let ring = here.ring.now in
    let me = here.me in
    let d : Durable = durable_of here log in
    let E : List Pair → List Pending → Bid → Election = λ ps ws b. own.election ring me (part_after here.term log here.applied ps) s.commit ws b in
    let it_is : it ≡ E here.prepared.now s.pending (own.next_bid s.grants from reply) = made ∙ (ap (λ (ps : List Pair). E ps pending bid) same ∙ ap₂ (λ (ws : List Pending) (b : Bid). E here.prepared.now ws b) waits bids) in
    by_role ring me d s from reply false able
    ∙ (by_tests ring me d s from reply false true later one
    ∙ (asks_or_leads ring me d s [] [] (s.grants ++ record { voter = from; votes = reply.votes } ∷ []) []
    ∙ (ap (step_of s) (sym it_is) ∙ ap₂ (λ (p : Plan) (x : Soft). record { plan = p; soft = x }) (sym plans) (sym sets))))
