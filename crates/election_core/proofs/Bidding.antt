-- what an election comes to is the definition's: after the actions that come first, the NoOp is one action more
use Rattle.std.proofs.Common.{◌≡◌, ℕ, suc, ◌+◌, ◌-◌, ◌<◌, ◌≤◌, Bool, true, false, if◌then◌else◌, List, [], ◌∷◌, ◌++◌, length, Option, Some, None, Result, Ok, Err, refl, sym, ap, ap₂, ◌∙◌, subst, arith}
use Rattle.std.specs.Prelude.{IfSome, IfOk}
use Rattle.std.proofs.lemmas.List.Sums.{sum_by-append}
use Rattle.ring_types.specs.declared.limits.TheConstants.{LAST_FILE, TERM_END}
use Rattle.ring_types.specs.declared.entries.Entry.{Entry}
use Rattle.ring_types.specs.declared.entries.Grant.{Grant}
use Rattle.ring_types.specs.declared.entries.Opid.{Opid}
use Rattle.ring_types.specs.declared.entries.Pair.{Pair}
use Rattle.ring_types.specs.Logs.{last, region_at, rotates}
use Rattle.ring_types.specs.Rings.{Layout, region_of}
use Rattle.edge_traits.specs.Views.{Sight}
use Rattle.ring_model.specs.Actions.{all_done}
use Rattle.ring_model.specs.Elections.{first_peers, has_won, lead, lead_or_ask, leading}
use Rattle.ring_model.specs.Needs.{wins}
use Rattle.ring_model.specs.Steps.{advance, advance_to, commit_count, stepped}
use Rattle.ring_model.specs.declared.nodes.Durable.{Durable}
use Rattle.ring_model.specs.declared.nodes.Peer.{Peer}
use Rattle.ring_model.specs.declared.nodes.Pending.{Pending}
use Rattle.ring_model.specs.declared.nodes.Role.TheVariants as role
use Rattle.ring_model.specs.declared.nodes.Soft.{Soft}
use Rattle.ring_model.specs.declared.effects.Action.{Action}
use Rattle.ring_model.specs.declared.effects.Action.TheVariants as action
use Rattle.ring_model.specs.declared.effects.Say.{Say}
use Rattle.ring_model.specs.declared.effects.Step.{Step}
use Rattle.ring_model.specs.declared.faults.CoreFault.{CoreFault}
use Rattle.ring_model.specs.declared.messages.Message.{Message}
use Rattle.ring_model.proofs.HeldElections.{done_join}
use Rattle.commit_pipeline.specs.declared.advances.Advanced.{Advanced}
use Rattle.commit_pipeline.specs.declared.heres.Here.{Here}
use Rattle.commit_pipeline.specs.Advances.{advanced, part_after}
use Rattle.commit_pipeline.specs.Heres.{IsLedLog, IsNode}
use Rattle.commit_pipeline.proofs.Counting.{same_told}
use Rattle.election_core.specs.declared.leading.Bid.{Bid}
use Rattle.election_core.specs.declared.leading.Candidate.{Candidate}
use Rattle.election_core.specs.declared.leading.Election.{Election}
use Rattle.election_core.specs.Bids.{MayLead, asks_on, election, leads_at, led_by, noop_at, settled}

-- ---- the definition by its cases
abbrev pub step_of : Soft → Election → Step
step_of s e = record { plan = e.plan; soft = settled s e }

abbrev pub bid_of : List Action → List Say → List Grant → List Message → Bid
bid_of first says grants asks = record { grants = grants; begun = record { actions = first; says = says }; asks = asks }

pub asks_or_leads : (ring : Layout) (me : ℕ) (d : Durable) (s : Soft) (first : List Action) (says : List Say) (grants : List Grant) (asks : List Message)
    → lead_or_ask ring me d s first says grants asks ≡ step_of s (election ring me (all_done d first) s.commit s.pending (bid_of first says grants asks))
unfolding lead_or_ask advance
asks_or_leads ring me d s first says grants asks = go (has_won ring me (all_done d first) grants)
  where
    e : Durable
    e = all_done d first

    own : List Action
    own = action.Append (noop_at ring me (all_done d first).term (suc (length (all_done d first).log)) ∷ []) ∷ []

    new : Soft
    new = leading ring me (suc (length (all_done d first).log)) s grants

    by : Durable → Step
    by w = advance_to ring me w (leading ring me (suc (length (all_done d first).log)) s grants)
        (first ++ (action.Append (noop_at ring me (all_done d first).term (suc (length (all_done d first).log)) ∷ []) ∷ [])) says
        (commit_count ring me w.term w.log (leading ring me (suc (length (all_done d first).log)) s grants))

    go : (b : Bool) → (if b then lead ring me d s first says grants else stepped first asks says (record s { role = role.Candidate; grants = grants }))
        ≡ step_of s (if b then leads_at ring me (all_done d first) s.commit s.pending (bid_of first says grants asks) (suc (length (all_done d first).log)) else asks_on (bid_of first says grants asks))
    go true = ap by (done_join d first own)
    go false = refl

-- ---- what leading asks of the log
pub leds_on : {V : Type 0} (told : Option (List Entry)) (here : Here V) (s : Soft) (term : ℕ) → IfSome told (IsNode here s) → here.term ≤ term → IfSome told (IsLedLog term)
leds_on None here s term node up = tt
leds_on (Some log) here s term node up =
    let sound = node.lawful.sound in
    let low = sound.log_below in
    record { is_log = sound.log; log_below = omega arith }

pub files_on : (told : Option (List Entry)) (ring : Layout) (me term at : ℕ) (entry : Entry) → IfSome told (IsLedLog term) → entry ≡ noop_at ring me term at
    → IfSome told (λ log. rotates (log ++ entry ∷ []) ≤ LAST_FILE - 1)
files_on None ring me term at entry led is = tt
files_on (Some log) ring me term at entry led is =
    let few = led.is_log.few_files in
    let none : rotates (log ++ noop_at ring me term at ∷ []) ≡ rotates log = grind (arith, sum_by-append) in
    subst (λ (e : Entry). rotates (log ++ e ∷ []) ≤ LAST_FILE - 1) (sym is) (subst (λ (n : ℕ). n ≤ LAST_FILE - 1) (sym none) few)

pub may_lead : {V : Type 0} (stands : V → Type 0) (sees : V → Sight) (first second : V) (c : Candidate) → sees second ≡ sees first → stands second → (sees first).home ≡ c.ring.now.home
    → (sees first).length + 1 < TERM_END → c.applied ≤ c.commit → c.commit ≤ (sees first).length → IfSome (sees first).log (λ log. length log ≡ (sees first).length)
    → IfSome (sees first).log (IsLedLog c.term) → MayLead stands sees second c
may_lead stands sees first second c same still home short applied commit whole led = record {
  still = still;
  home = ap (λ (s : Sight). s.home) same ∙ home;
  short = subst (λ (s : Sight). s.length + 1 < TERM_END) (sym same) short;
  applied_below = applied;
  commit_inside = subst (λ (s : Sight). c.commit ≤ s.length) (sym same) commit;
  whole = subst (λ (s : Sight). IfSome s.log (λ log. length log ≡ s.length)) (sym same) whole;
  led = same_told (sees first) (sees second) (IsLedLog c.term) (sym same) led;
}

-- ---- a leader's step
pub leads : (told : Option (List Entry)) (ring : Layout) (me term applied : ℕ) (pairs : List Pair) (commit : ℕ) (pending : List Pending) (bid : Bid) (noop : ℕ) (peers slice : List Peer) (entry : Entry) (a : Advanced) (it : Election)
    → peers ≡ first_peers me noop ring.members → slice ≡ peers → entry ≡ noop_at ring me term noop
    → IfSome told (λ log. a ≡ advanced ring me (part_after term (log ++ entry ∷ []) applied pairs) commit slice pending (record { actions = bid.begun.actions ++ action.Append (entry ∷ []) ∷ []; messages = []; says = bid.begun.says }))
    → it ≡ led_by noop peers bid.grants a → IfSome told (λ log. it ≡ leads_at ring me (part_after term log applied pairs) commit pending bid noop)
leads None ring me term applied pairs commit pending bid noop peers slice entry a it known same is made led = tt
leads (Some log) ring me term applied pairs commit pending bid noop peers slice entry a it known same is made led =
    let A : Entry → List Peer → Advanced = λ e ps. advanced ring me (part_after term (log ++ e ∷ []) applied pairs) commit ps pending (record { actions = bid.begun.actions ++ action.Append (e ∷ []) ∷ []; messages = []; says = bid.begun.says }) in
    let now : a ≡ A (noop_at ring me term noop) (first_peers me noop ring.members) = made ∙ ap₂ A is (same ∙ known) in
    led ∙ ap₂ (λ (ps : List Peer) (x : Advanced). led_by noop ps bid.grants x) known now

-- ---- whether the grants win
pub won_by : (told : Option (List Entry)) (ring : Layout) (me term : ℕ) (applied : ℕ) (pairs : List Pair) (grants : List Grant) (base : Opid) (home region own : ℕ) (won : Bool)
    → IfSome told (λ log. base ≡ last log) → home ≡ ring.home → IfSome told (λ log. region ≡ region_at home log base.position) → own ≡ region_of ring me
    → won ≡ wins ring base.term region own term grants → IfSome told (λ log. won ≡ has_won ring me (part_after term log applied pairs) grants)
won_by None ring me term applied pairs grants base home region own won ends at lies mine is = tt
won_by (Some log) ring me term applied pairs grants base home region own won ends at lies mine is =
    let there : region ≡ region_at ring.home log (length log) = lies ∙ ap₂ (λ (h : ℕ) (o : Opid). region_at h log o.position) at ends in
    is ∙ (ap₂ (λ (o : Opid) (r : ℕ). wins ring o.term r own term grants) ends there ∙ ap (λ (r : ℕ). wins ring (last log).term (region_at ring.home log (length log)) r term grants) mine)

-- ---- by whether they win
election_is : (ring : Layout) (me : ℕ) (after : Durable) (commit : ℕ) (pending : List Pending) (bid : Bid) (won b : Bool) (noop : ℕ) → won ≡ has_won ring me after bid.grants → won ≡ b → noop ≡ suc (length after.log)
    → (if b then leads_at ring me after commit pending bid noop else asks_on bid) ≡ election ring me after commit pending bid
election_is ring me after commit pending bid won b noop is so at =
    ap₂ (λ (x : Bool) (n : ℕ). if x then leads_at ring me after commit pending bid n else asks_on bid) (sym so ∙ is) at

pub leads_now : (told : Option (List Entry)) (ring : Layout) (me term applied : ℕ) (pairs : List Pair) (commit : ℕ) (pending : List Pending) (bid : Bid) (slice : List Grant) (end : ℕ) (won : Bool) (result : Result Election CoreFault)
    → IfSome told (λ log. length log ≡ end) → IfSome told (λ log. won ≡ has_won ring me (part_after term log applied pairs) slice) → slice ≡ bid.grants → won ≡ true
    → IfSome told (λ log. IfOk result (λ it. it ≡ leads_at ring me (part_after term log applied pairs) commit pending bid (end + 1)))
    → IfSome told (λ log. IfOk result (λ it. it ≡ election ring me (part_after term log applied pairs) commit pending bid))
leads_now None ring me term applied pairs commit pending bid slice end won result whole is same so made = tt
leads_now (Some log) ring me term applied pairs commit pending bid slice end won (Err e) whole is same so made = tt
leads_now (Some log) ring me term applied pairs commit pending bid slice end won (Ok it) whole is same so made =
    let at : end + 1 ≡ suc (length log) = omega arith in
    let after : Durable = part_after term log applied pairs in
    made ∙ election_is ring me after commit pending bid won true (end + 1) (is ∙ ap (has_won ring me after) same) so at

pub asks_now : (told : Option (List Entry)) (ring : Layout) (me term applied : ℕ) (pairs : List Pair) (commit : ℕ) (pending : List Pending) (bid : Bid) (slice : List Grant) (won : Bool) (it : Election)
    → IfSome told (λ log. won ≡ has_won ring me (part_after term log applied pairs) slice) → slice ≡ bid.grants → won ≡ false → it ≡ asks_on bid
    → IfSome told (λ log. it ≡ election ring me (part_after term log applied pairs) commit pending bid)
asks_now None ring me term applied pairs commit pending bid slice won it is same so made = tt
asks_now (Some log) ring me term applied pairs commit pending bid slice won it is same so made =
    let after : Durable = part_after term log applied pairs in
    made ∙ election_is ring me after commit pending bid won false (suc (length log)) (is ∙ ap (has_won ring me after) same) so refl
