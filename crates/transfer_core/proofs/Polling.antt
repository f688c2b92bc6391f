-- A target's rules by their cases: what it keeps of a mock election is one poll, whose replies come one at a time, its own first.
use Rattle.std.proofs.Common.{◌≡◌, ℕ, ◌==◌, ◌&&◌, ◌||◌, Bool, true, false, List, [], ◌∷◌, ◌++◌, length, Option, Some, None, if◌then◌else◌, refl, sym, ap, ap₂, ◌∙◌}
use Rattle.std.specs.Prelude.{IfSome}
use Rattle.std.proofs.lemmas.Bool.{eqb-true}
use Rattle.ring_types.specs.declared.entries.Entry.{Entry}
use Rattle.ring_types.specs.declared.entries.Opid.{Opid}
use Rattle.ring_types.specs.Logs.{last}
use Rattle.ring_types.specs.Rings.{Layout}
use Rattle.ring_model.specs.Quorums.{is_listed}
use Rattle.ring_model.specs.Steps.{stepped, idle}
use Rattle.ring_model.specs.Transfers.{begin_mock, mock_hears, mock_requests, mock_result, on_mock_reply, on_mock_start, verdict, with_answer}
use Rattle.ring_model.specs.declared.nodes.Durable.{Durable}
use Rattle.ring_model.specs.declared.nodes.Mock.{Mock}
use Rattle.ring_model.specs.declared.nodes.Mock.TheVariants as mock
use Rattle.ring_model.specs.declared.nodes.Soft.{Soft}
use Rattle.ring_model.specs.declared.effects.Plan.{Plan}
use Rattle.ring_model.specs.declared.effects.Step.{Step}
use Rattle.ring_model.specs.declared.messages.Message.{Message}
use Rattle.ring_model.specs.declared.messages.MockReply.{MockReply}
use Rattle.ring_model.specs.declared.messages.MockStart.{MockStart}
use Rattle.commit_pipeline.specs.declared.heres.Here.{Here}
use Rattle.commit_pipeline.specs.Heres.{durable_of}
use Rattle.transfer_core.specs.declared.polls.Poll.{Poll}
use Rattle.transfer_core.specs.Polls.{begins, begun, decided, deciding_now, heard_poll, mock_of, opening, passes, with_reply}

-- the step of a target that sends these messages, and keeps this poll
abbrev polled : Soft → List Message → Poll → Step
polled s messages p = stepped [] messages [] (record s { mock = mock_of p })

-- ---- how it begins
abbrev unasked : ℕ → MockStart → Poll
unasked from sent = record { leader = from; round = sent.round; last = sent.last; passed = []; failed = [] }

begin_by : (ring : Layout) (me : ℕ) (d : Durable) (s : Soft) (from : ℕ) (sent : MockStart)
    → begin_mock ring me d s from sent ≡ polled s (opening ring me sent.term (begun me (length d.log) from sent)) (begun me (length d.log) from sent)
begin_by ring me d s from sent = go (passes (length d.log) sent.last)
  where
    go : (b : Bool)
        → stepped [] (elim (verdict ring from me (if b then me ∷ [] else []) (if b then [] else me ∷ [])) [ Some ok ↦ mock_result me from sent.term sent.round ok ∷ [] | None ↦ mock_requests me sent.term sent.round sent.last ring.members ]) []
        (record s { mock = mock.On from sent.round sent.last (if b then me ∷ [] else []) (if b then [] else me ∷ []) })
        ≡ polled s (opening ring me sent.term (with_reply (unasked from sent) me b)) (with_reply (unasked from sent) me b)
    go true = refl
    go false = refl

start_by : (ring : Layout) (me : ℕ) (d : Durable) (s : Soft) (from : ℕ) (sent : MockStart) → begins ring me d.term s from sent ≡ true
    → on_mock_start ring me d s from sent ≡ begin_mock ring me d s from sent
unfolding on_mock_start
start_by ring me d s from sent h = ap (λ (b : Bool). if b then begin_mock ring me d s from sent else idle s) h

pub starts : {V : Type 0} (told : Option (List Entry)) (here : Here V) (s : Soft) (from : ℕ) (sent : MockStart) (seen : Opid) (may : Bool) (p : Poll) (messages : List Message) (kept : Mock) (plan : Plan)
    → may ≡ begins here.ring.now here.me here.term s from sent → may ≡ true → IfSome told (λ log. seen ≡ last log)
    → p ≡ begun here.me seen.position from sent → messages ≡ opening here.ring.now here.me sent.term p → kept ≡ mock_of p → plan ≡ record { actions = []; messages = messages; says = [] }
    → IfSome told (λ log. on_mock_start here.ring.now here.me (durable_of here log) s from sent ≡ record { plan = plan; soft = record s { mock = kept } })
starts None here s from sent seen may p messages kept plan is h at made sends keeps plans = tt
starts (Some log) here s from sent seen may p messages kept plan is h at made sends keeps plans =
    let ring = here.ring.now in
    let me = here.me in
    let d : Durable = durable_of here log in
    let now : begun me (length log) from sent ≡ p = sym (made ∙ ap (λ (o : Opid). begun me o.position from sent) at) in
    start_by ring me d s from sent (sym is ∙ h)
    ∙ (begin_by ring me d s from sent
    ∙ (ap (λ (x : Poll). polled s (opening ring me sent.term x) x) now
    ∙ (ap (λ (ms : List Message). polled s ms p) (sym sends)
    ∙ ap₂ (λ (x : Plan) (m : Mock). record { plan = x; soft = record s { mock = m } }) (sym plans) (sym keeps))))

-- ---- how a reply counts
abbrev poll_of : ℕ → ℕ → Opid → List ℕ → List ℕ → Poll
poll_of leader round asked passed failed = record { leader = leader; round = round; last = asked; passed = passed; failed = failed }

-- the step with one reply more, which came to this poll
abbrev counted : Layout → ℕ → Durable → Soft → ℕ → Bool → Poll → Step
counted ring me d s from ok p = polled s (deciding_now ring me d.term (decided ring me p) (with_reply p from ok)) (with_reply p from ok)

hears_by : (ring : Layout) (me : ℕ) (d : Durable) (s : Soft) (from : ℕ) (sent : MockReply) (m : Mock) (p : Poll) → heard_poll m d.term from sent ≡ Some p
    → mock_hears ring me d s from sent m ≡ counted ring me d s from sent.ok p
hears_by ring me d s from sent mock.Off p h = absurd cc
hears_by ring me d s from sent (mock.On leader round asked passed failed) p h =
    go (sent.term == d.term) (sent.round == round) (is_listed passed from || is_listed failed from) sent.ok refl h
  where
    go : (a b e ok : Bool) → (sent.round == round) ≡ b → (if a && b then (if e then None else Some (poll_of leader round asked passed failed)) else None) ≡ Some p
        → (if a && b then (if e then idle s
        else (if ok then with_answer ring me d s leader sent.round asked passed failed (passed ++ from ∷ []) failed else with_answer ring me d s leader sent.round asked passed failed passed (failed ++ from ∷ []))) else idle s)
        ≡ counted ring me d s from ok p
    go false b e ok k is = absurd cc
    go true false e ok k is = absurd cc
    go true true true ok k is = absurd cc
    go true true false true k is =
        let same : poll_of leader round asked passed failed ≡ p = cc in
        ap (λ (r : ℕ). with_answer ring me d s leader r asked passed failed (passed ++ from ∷ []) failed) (eqb-true sent.round round k) ∙ ap (counted ring me d s from true) same
    go true true false false k is =
        let same : poll_of leader round asked passed failed ≡ p = cc in
        ap (λ (r : ℕ). with_answer ring me d s leader r asked passed failed passed (failed ++ from ∷ [])) (eqb-true sent.round round k) ∙ ap (counted ring me d s from false) same

reply_by : (ring : Layout) (me : ℕ) (d : Durable) (s : Soft) (from : ℕ) (sent : MockReply) (p : Poll) → heard_poll s.mock d.term from sent ≡ Some p
    → on_mock_reply ring me d s from sent ≡ counted ring me d s from sent.ok p
unfolding on_mock_reply
reply_by ring me d s from sent p h = hears_by ring me d s from sent s.mock p h

pub counts_reply : {V : Type 0} (told : Option (List Entry)) (here : Here V) (s : Soft) (from : ℕ) (sent : MockReply) (heard : Option Poll) (p q : Poll) (before : Option Bool) (messages : List Message) (kept : Mock) (plan : Plan)
    → heard ≡ heard_poll s.mock here.term from sent → heard ≡ Some p → before ≡ decided here.ring.now here.me p → q ≡ with_reply p from sent.ok
    → messages ≡ deciding_now here.ring.now here.me here.term before q → kept ≡ mock_of q → plan ≡ record { actions = []; messages = messages; says = [] }
    → IfSome told (λ log. on_mock_reply here.ring.now here.me (durable_of here log) s from sent ≡ record { plan = plan; soft = record s { mock = kept } })
counts_reply None here s from sent heard p q before messages kept plan is some was made sends keeps plans = tt
counts_reply (Some log) here s from sent heard p q before messages kept plan is some was made sends keeps plans =
    let ring = here.ring.now in
    let me = here.me in
    let d : Durable = durable_of here log in
    reply_by ring me d s from sent p (sym is ∙ some)
    ∙ (ap₂ (λ (o : Option Bool) (x : Poll). polled s (deciding_now ring me d.term o x) x) (sym was) (sym made)
    ∙ (ap (λ (ms : List Message). polled s ms q) (sym sends)
    ∙ ap₂ (λ (x : Plan) (m : Mock). record { plan = x; soft = record s { mock = m } }) (sym plans) (sym keeps)))
