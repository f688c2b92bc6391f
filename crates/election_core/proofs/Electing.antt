-- the rule of a node that stands, by whether it may
use Rattle.std.proofs.Common.{◌≡◌, ℕ, suc, ◌+◌, Bool, true, false, if◌then◌else◌, List, [], ◌∷◌, Option, Some, None, refl, sym, ap, ap₂, ◌∙◌, arith}
use Rattle.std.specs.Prelude.{IfSome}
use Rattle.ring_types.specs.declared.entries.Entry.{Entry}
use Rattle.ring_types.specs.declared.entries.Opid.{Opid}
use Rattle.ring_types.specs.declared.entries.Pair.{Pair}
use Rattle.ring_types.specs.declared.entries.Vote.{Vote}
use Rattle.ring_types.specs.Logs.{last, term_at}
use Rattle.ring_types.specs.Rings.{Layout}
use Rattle.ring_model.specs.Actions.{all_done, has_room, votes_above}
use Rattle.ring_model.specs.Elections as spec
use Rattle.ring_model.specs.Steps.{demoted, idle, unknowns}
use Rattle.ring_model.specs.declared.nodes.Durable.{Durable}
use Rattle.ring_model.specs.declared.nodes.Pending.{Pending}
use Rattle.ring_model.specs.declared.nodes.Soft.{Soft}
use Rattle.ring_model.specs.declared.effects.Plan.{Plan}
use Rattle.ring_model.specs.declared.effects.Step.{Step}
use Rattle.commit_pipeline.specs.declared.heres.Here.{Here}
use Rattle.commit_pipeline.specs.Advances.{part_after}
use Rattle.commit_pipeline.specs.Heres.{durable_of}
use Rattle.election_core.specs.declared.leading.Bid.{Bid}
use Rattle.election_core.specs.declared.leading.Election.{Election}
use Rattle.election_core.specs.Bids as own
use Rattle.election_core.proofs.Between.{between_vote}
use Rattle.election_core.proofs.Bidding.{asks_or_leads, bid_of, step_of}

by_test : (ring : Layout) (me : ℕ) (d : Durable) (s : Soft) (b : Bool) → spec.may_elect ring me d s ≡ b → spec.elect ring me d s ≡ (if b then spec.stand ring me d s else idle s)
unfolding spec.elect
by_test ring me d s b is = ap (λ (x : Bool). if x then spec.stand ring me d s else idle s) is

-- the node may stand, by the parts that the core is handed
may_is : {V : Type 0} (here : Here V) (s : Soft) (log : List Entry) (base : Opid) (floor : ℕ) (room may b : Bool) → base ≡ last log → floor ≡ term_at log s.commit → room ≡ has_room floor here.history.now
    → may ≡ own.may_elect here.ring.now here.me here.term base.position s room → may ≡ b → spec.may_elect here.ring.now here.me (durable_of here log) s ≡ b
may_is here s log base floor room may b ends at has is so =
    let F : Opid → Bool → Bool = λ o r. own.may_elect here.ring.now here.me here.term o.position s r in
    sym (is ∙ ap₂ F ends (has ∙ ap (λ (f : ℕ). has_room f here.history.now) at)) ∙ so

pub idles : {V : Type 0} (told : Option (List Entry)) (here : Here V) (s : Soft) (base : Opid) (floor : ℕ) (room may : Bool) (plan : Plan)
    → IfSome told (λ log. base ≡ last log) → IfSome told (λ log. floor ≡ term_at log s.commit) → room ≡ has_room floor here.history.now
    → may ≡ own.may_elect here.ring.now here.me here.term base.position s room → may ≡ false → plan ≡ record { actions = []; messages = []; says = [] }
    → IfSome told (λ log. spec.elect here.ring.now here.me (durable_of here log) s ≡ record { plan = plan; soft = s })
idles None here s base floor room may plan ends at has is unable made = tt
idles (Some log) here s base floor room may plan ends at has is unable made =
    by_test here.ring.now here.me (durable_of here log) s false (may_is here s log base floor room may false ends at has is unable) ∙ ap (λ (p : Plan). record { plan = p; soft = s }) (sym made)

-- the step of a node that stands
stood : (ring : Layout) (me : ℕ) (d : Durable) (s : Soft)
    → spec.stand ring me d s ≡ step_of (demoted s) (own.election ring me (part_after (suc d.term) d.log d.applied d.prepared) s.commit [] (own.first_bid ring me (suc d.term) (last d.log) (spec.floor_of d s) d.votes s))
stood ring me d s =
    let floor = spec.floor_of d s in
    let same : List Vote → Step = λ vs. step_of (demoted s) (own.election ring me (part_after (suc d.term) d.log d.applied d.prepared) s.commit []
    (bid_of (spec.stand_actions ring me d s) (unknowns s) (record { voter = me; votes = vs } ∷ []) (spec.requests me (suc d.term) (last d.log) ring.members))) in
    asks_or_leads ring me d (demoted s) (spec.stand_actions ring me d s) (unknowns s) (spec.own_grant me (all_done d (spec.stand_actions ring me d s)) ∷ []) (spec.requests me (suc d.term) (last d.log) ring.members)
    ∙ ap same (between_vote (last d.log).term (suc d.term) (votes_above floor d.votes) (spec.new_vote ring (suc d.term) me) refl)

pub stands : {V : Type 0} (told : Option (List Entry)) (here : Here V) (s down new : Soft) (base : Opid) (floor : ℕ) (room may : Bool) (pairs : List Pair) (pending none : List Pending) (bid : Bid) (it : Election) (plan : Plan)
    → IfSome told (λ log. base ≡ last log) → IfSome told (λ log. floor ≡ term_at log s.commit) → room ≡ has_room floor here.history.now
    → may ≡ own.may_elect here.ring.now here.me here.term base.position s room → may ≡ true → pairs ≡ here.prepared.now → pending ≡ none → none ≡ []
    → bid ≡ own.first_bid here.ring.now here.me (here.term + 1) base floor here.history.now s
    → IfSome told (λ log. it ≡ own.election here.ring.now here.me (part_after (here.term + 1) log here.applied pairs) s.commit pending bid)
    → down ≡ demoted s → plan ≡ it.plan → new ≡ own.settled down it
    → IfSome told (λ log. spec.elect here.ring.now here.me (durable_of here log) s ≡ record { plan = plan; soft = new })
stands None here s down new base floor room may pairs pending none bid it plan ends at has is able same empty nothing bids made downs plans sets = tt
stands (Some log) here s down new base floor room may pairs pending none bid it plan ends at has is able same empty nothing bids made downs plans sets =
    let ring = here.ring.now in
    let me = here.me in
    let d : Durable = durable_of here log in
    let up : here.term + 1 ≡ suc here.term = omega arith in
    let B : ℕ → Opid → ℕ → Bid = λ t o f. own.first_bid ring me t o f here.history.now s in
    let E : ℕ → List Pair → List Pending → Bid → Election = λ t ps ws b. own.election ring me (part_after t log here.applied ps) s.commit ws b in
    let bid_is : bid ≡ B (suc here.term) (last log) (term_at log s.commit) = bids ∙ (ap (λ (t : ℕ). B t base floor) up ∙ ap₂ (λ (o : Opid) (f : ℕ). B (suc here.term) o f) ends at) in
    let it_is : it ≡ E (suc here.term) here.prepared.now [] (B (suc here.term) (last log) (term_at log s.commit)) =
    made ∙ (ap₂ (λ (t : ℕ) (ps : List Pair). E t ps pending bid) up same ∙ ap₂ (λ (ws : List Pending) (b : Bid). E (suc here.term) here.prepared.now ws b) (empty ∙ nothing) bid_is) in
    by_test ring me d s true (may_is here s log base floor room may true ends at has is able)
    ∙ (stood ring me d s
    ∙ (ap (step_of (demoted s)) (sym it_is)
    ∙ ap₂ (λ (p : Plan) (x : Soft). record { plan = p; soft = x }) (sym plans) (ap (λ (x : Soft). own.settled x it) (sym downs) ∙ sym sets)))
