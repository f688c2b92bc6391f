-- the rule of a request for a vote, by its cases
use Rattle.std.proofs.Common.{◌≡◌, ℕ, ◌==◌, Bool, true, false, not, nat_lt, if◌then◌else◌, List, [], ◌∷◌, ◌++◌, Option, Some, None, Result, Ok, Err, refl, sym, ap, ap₂, ◌∙◌}
use Rattle.std.specs.Prelude.{IfSome, IfOk}
use Rattle.std.specs.Option.{option_map}
use Rattle.ring_types.specs.declared.entries.Entry.{Entry}
use Rattle.ring_types.specs.declared.entries.Vote.{Vote}
use Rattle.ring_types.specs.Logs.{at_least, last, term_at}
use Rattle.ring_types.specs.Rings.{Layout, votes}
use Rattle.ring_model.specs.Actions.{all_done, has_room, vote_in, votes_above}
use Rattle.ring_model.specs.Elections as spec
use Rattle.ring_model.specs.Needs.{votes_between}
use Rattle.ring_model.specs.Steps.{demoted, idle, stepped, unknowns}
use Rattle.ring_model.specs.declared.nodes.Durable.{Durable}
use Rattle.ring_model.specs.declared.nodes.Soft.{Soft}
use Rattle.ring_model.specs.declared.effects.Action.{Action}
use Rattle.ring_model.specs.declared.effects.Action.TheVariants as action
use Rattle.ring_model.specs.declared.effects.Plan.{Plan}
use Rattle.ring_model.specs.declared.effects.Say.{Say}
use Rattle.ring_model.specs.declared.effects.Step.{Step}
use Rattle.ring_model.specs.declared.faults.CoreFault.{CoreFault}
use Rattle.ring_model.specs.declared.messages.RequestVote.{RequestVote}
use Rattle.ring_model.proofs.HeldElections.{done_join}
use Rattle.commit_pipeline.specs.declared.heres.Here.{Here}
use Rattle.commit_pipeline.specs.declared.steps.Begun.{Begun}
use Rattle.commit_pipeline.specs.Heres.{durable_of}
use Rattle.election_core.specs.declared.requests.Verdict.{Verdict}
use Rattle.election_core.specs.declared.requests.Verdict.TheVariants as verdict
use Rattle.election_core.specs.Verdicts as own
use Rattle.election_core.proofs.Between.{between_vote}

-- ---- the verdict
pub keeps_none : (told : Option (List Entry)) (votes : List Vote) (commit from : ℕ) (asked : RequestVote) (result : Result Verdict CoreFault) → None ≡ option_map (λ (v : Vote). v.candidate) (vote_in votes asked.term)
    → IfSome told (λ log. IfOk result (λ it. it ≡ own.judged_anew votes log commit asked)) → IfSome told (λ log. IfOk result (λ it. it ≡ own.judged votes log commit from asked))
keeps_none None votes commit from asked result none made = tt
keeps_none (Some log) votes commit from asked (Err e) none made = tt
keeps_none (Some log) votes commit from asked (Ok v) none made = made ∙ go (vote_in votes asked.term) none
  where
    go : (o : Option Vote) → None ≡ option_map (λ (v : Vote). v.candidate) o → own.judged_anew votes log commit asked ≡ own.judged_by votes log commit from asked o
    go None is = refl
    go (Some kept) is = absurd cc

pub keeps_one : (told : Option (List Entry)) (votes : List Vote) (commit from : ℕ) (asked : RequestVote) (candidate : ℕ) (it : Verdict) → Some candidate ≡ option_map (λ (v : Vote). v.candidate) (vote_in votes asked.term)
    → it ≡ own.judged_again candidate from → IfSome told (λ log. it ≡ own.judged votes log commit from asked)
keeps_one None votes commit from asked candidate it some made = tt
keeps_one (Some log) votes commit from asked candidate it some made = made ∙ go (vote_in votes asked.term) some
  where
    go : (o : Option Vote) → Some candidate ≡ option_map (λ (v : Vote). v.candidate) o → own.judged_again candidate from ≡ own.judged_by votes log commit from asked o
    go None is = absurd cc
    go (Some kept) is = (let same : candidate ≡ kept.candidate = cc in ap (λ (n : ℕ). own.judged_again n from) same)

-- ---- the plan
abbrev begun_of : List Action → List Say → Begun
begun_of first says = record { actions = first; says = says }

abbrev answered_step : Layout → ℕ → Durable → Soft → List Action → List Say → ℕ → RequestVote → Verdict → Step
answered_step ring me d s first says from asked v = record { plan = own.answered ring me d.votes from asked (begun_of first says) v; soft = s }

cast_votes : (ring : Layout) (d : Durable) (first : List Action) (from floor : ℕ) (asked : RequestVote) → (all_done d first).votes ≡ d.votes
    → votes_between asked.last.term asked.term (all_done d (first ++ (action.Vote (spec.new_vote ring asked.term from) floor ∷ []))).votes ≡ votes_between asked.last.term asked.term (votes_above floor d.votes)
cast_votes ring d first from floor asked same =
    ap (λ (e : Durable). votes_between asked.last.term asked.term e.votes) (done_join d first (action.Vote (spec.new_vote ring asked.term from) floor ∷ []))
    ∙ (between_vote asked.last.term asked.term (votes_above floor (all_done d first).votes) (spec.new_vote ring asked.term from) refl
    ∙ ap (λ (vs : List Vote). votes_between asked.last.term asked.term (votes_above floor vs)) same)

answers : (ring : Layout) (me : ℕ) (d : Durable) (s : Soft) (first : List Action) (says : List Say) (from : ℕ) (asked : RequestVote) → (all_done d first).votes ≡ d.votes
    → spec.answer_request ring me d s first says from asked ≡ answered_step ring me d s first says from asked (own.judged d.votes d.log s.commit from asked)
answers ring me d s first says from asked same = go (vote_in d.votes asked.term)
  where
    granted : List Action → List Vote → Step
    granted acts vs = stepped acts (own.grant_of me from asked.term vs ∷ []) says s

    kept : (c : Bool) → (if c then spec.granted_now me d s first says from asked else spec.refused_now me s first says from asked.term)
        ≡ answered_step ring me d s first says from asked (if c then verdict.Again else verdict.Refuse)
    kept true = ap (λ (vs : List Vote). granted first (votes_between asked.last.term asked.term vs)) same
    kept false = refl

    fresh : (a b : Bool) → (if a then (if b then spec.granted_now me d s (spec.cast_actions ring d s first from asked.term) says from asked else spec.refused_now me s first says from asked.term) else spec.refused_now me s first says from asked.term)
        ≡ answered_step ring me d s first says from asked (if a then (if b then verdict.Cast (term_at d.log s.commit) else verdict.Refuse) else verdict.Refuse)
    fresh true true = ap (granted (spec.cast_actions ring d s first from asked.term)) (cast_votes ring d first from (term_at d.log s.commit) asked same)
    fresh true false = refl
    fresh false b = refl

    go : (o : Option Vote) → spec.answer_by ring me d s first says from asked o ≡ answered_step ring me d s first says from asked (own.judged_by d.votes d.log s.commit from asked o)
    go (Some w) = kept (w.candidate == from)
    go None = fresh (at_least asked.last (last d.log)) (has_room (term_at d.log s.commit) d.votes)

-- ---- the definition by its cases
by_voter : (ring : Layout) (me : ℕ) (d : Durable) (s : Soft) (from : ℕ) (asked : RequestVote) (b : Bool) → not (votes ring me) ≡ b
    → spec.on_request ring me d s from asked ≡ (if b then idle s else spec.voter_answers ring me d s from asked)
unfolding spec.on_request
by_voter ring me d s from asked b is = go (votes ring me) ∙ ap (λ (x : Bool). if x then idle s else spec.voter_answers ring me d s from asked) is
  where
    go : (x : Bool) → (if x then spec.voter_answers ring me d s from asked else idle s) ≡ (if not x then idle s else spec.voter_answers ring me d s from asked)
    go true = refl
    go false = refl

by_terms : (ring : Layout) (me : ℕ) (d : Durable) (s : Soft) (from : ℕ) (asked : RequestVote) (a b : Bool) → nat_lt asked.term d.term ≡ a → nat_lt d.term asked.term ≡ b
    → spec.voter_answers ring me d s from asked
    ≡ (if a then spec.refused_now me s [] [] from d.term
    else (if b then spec.answer_request ring me d (demoted s) (action.SetTerm asked.term ∷ []) (unknowns s) from asked else spec.answer_request ring me d s [] [] from asked))
by_terms ring me d s from asked a b h k =
    ap₂ (λ (x y : Bool). if x then spec.refused_now me s [] [] from d.term
    else (if y then spec.answer_request ring me d (demoted s) (action.SetTerm asked.term ∷ []) (unknowns s) from asked else spec.answer_request ring me d s [] [] from asked)) h k

by_later : (ring : Layout) (me : ℕ) (d : Durable) (s : Soft) (from : ℕ) (asked : RequestVote) (b : Bool)
    → (if b then spec.answer_request ring me d (demoted s) (action.SetTerm asked.term ∷ []) (unknowns s) from asked else spec.answer_request ring me d s [] [] from asked)
    ≡ record { plan = own.answered ring me d.votes from asked (own.begun_at b asked.term s) (own.judged d.votes d.log s.commit from asked); soft = own.stepped_down b s }
by_later ring me d s from asked true = answers ring me d (demoted s) (action.SetTerm asked.term ∷ []) (unknowns s) from asked refl
by_later ring me d s from asked false = answers ring me d s [] [] from asked refl

pub ignores : {V : Type 0} (told : Option (List Entry)) (here : Here V) (s : Soft) (from : ℕ) (asked : RequestVote) (plan : Plan) → not (votes here.ring.now here.me) ≡ true → plan ≡ record { actions = []; messages = []; says = [] }
    → IfSome told (λ log. spec.on_request here.ring.now here.me (durable_of here log) s from asked ≡ record { plan = plan; soft = s })
ignores None here s from asked plan unable is = tt
ignores (Some log) here s from asked plan unable is =
    by_voter here.ring.now here.me (durable_of here log) s from asked true unable ∙ ap (λ (p : Plan). record { plan = p; soft = s }) (sym is)

pub refuses : {V : Type 0} (told : Option (List Entry)) (here : Here V) (s : Soft) (from : ℕ) (asked : RequestVote) (begun : Begun) (plan : Plan) → not (votes here.ring.now here.me) ≡ false → nat_lt asked.term here.term ≡ true
    → begun ≡ record { actions = []; says = [] } → plan ≡ own.replied begun (spec.refuse_vote here.me from here.term)
    → IfSome told (λ log. spec.on_request here.ring.now here.me (durable_of here log) s from asked ≡ record { plan = plan; soft = s })
refuses None here s from asked begun plan able old none is = tt
refuses (Some log) here s from asked begun plan able old none is =
    let d : Durable = durable_of here log in
    by_voter here.ring.now here.me d s from asked false able
    ∙ (by_terms here.ring.now here.me d s from asked true (nat_lt d.term asked.term) old refl
    ∙ ap (λ (p : Plan). record { plan = p; soft = s }) (sym (is ∙ ap (λ (b : Begun). own.replied b (spec.refuse_vote here.me from here.term)) none)))

pub replies : {V : Type 0} (told : Option (List Entry)) (here : Here V) (s new : Soft) (from : ℕ) (asked : RequestVote) (later : Bool) (v : Verdict) (begun : Begun) (plan : Plan)
    → not (votes here.ring.now here.me) ≡ false → nat_lt asked.term here.term ≡ false → nat_lt here.term asked.term ≡ later
    → IfSome told (λ log. v ≡ own.judged here.history.now log s.commit from asked) → begun ≡ own.begun_at later asked.term s
    → plan ≡ own.answered here.ring.now here.me here.history.now from asked begun v → new ≡ own.stepped_down later s
    → IfSome told (λ log. spec.on_request here.ring.now here.me (durable_of here log) s from asked ≡ record { plan = plan; soft = new })
replies None here s new from asked later v begun plan able old up judged first is down = tt
replies (Some log) here s new from asked later v begun plan able old up judged first is down =
    let d : Durable = durable_of here log in
    let plan_is : plan ≡ own.answered here.ring.now here.me here.history.now from asked (own.begun_at later asked.term s) (own.judged here.history.now log s.commit from asked) =
    is ∙ ap₂ (λ (b : Begun) (x : Verdict). own.answered here.ring.now here.me here.history.now from asked b x) first judged in
    by_voter here.ring.now here.me d s from asked false able
    ∙ (by_terms here.ring.now here.me d s from asked false later old up
    ∙ (by_later here.ring.now here.me d s from asked later
    ∙ ap₂ (λ (p : Plan) (x : Soft). record { plan = p; soft = x }) (sym plan_is) (sym down)))
