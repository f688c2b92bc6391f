-- A reply to entries is replication's rule, then the transfer's: where the reply counts, replication leaves the role and the transfer as they were. TimeoutNow is a test, then the election's rule.
use Rattle.std.proofs.Common.{◌≡◌, ℕ, ◌&&◌, Bool, true, false, List, [], ◌++◌, Option, Some, None, if◌then◌else◌, refl, sym, ap, ◌∙◌, arith}
use Rattle.std.specs.Prelude.{IfSome}
use Rattle.std.proofs.lemmas.Bool.Decides.{nat_tests}
use Rattle.ring_types.specs.declared.entries.Entry.{Entry}
use Rattle.ring_types.specs.Rings.{Layout}
use Rattle.ring_model.specs.Elections.{elect}
use Rattle.ring_model.specs.Replication.{counts, on_ack}
use Rattle.ring_model.specs.Steps.{advance, idle}
use Rattle.ring_model.specs.Transfers.{after_ok, on_answer, on_timeout, with_more}
use Rattle.ring_model.specs.declared.nodes.Durable.{Durable}
use Rattle.ring_model.specs.declared.nodes.Soft.{Soft}
use Rattle.ring_model.specs.declared.nodes.Transfer.{Transfer}
use Rattle.ring_model.specs.declared.effects.Plan.{Plan}
use Rattle.ring_model.specs.declared.effects.Step.{Step}
use Rattle.ring_model.specs.declared.messages.AppendReply.{AppendReply}
use Rattle.commit_pipeline.specs.declared.heres.Here.{Here}
use Rattle.commit_pipeline.specs.Heres.{durable_of}
use Rattle.transfer_core.specs.Halves.{stands_when_told}

-- ---- replication leaves what is asked of it
on_ack-counts : (ring : Layout) (me : ℕ) (d : Durable) (s : Soft) (from : ℕ) (reply : AppendReply)
    → counts d (on_ack ring me d s from reply).soft reply ≡ counts d s reply
unfolding on_ack advance
on_ack-counts ring me d s from reply = grind (arith, nat_tests)

on_ack-transfer : (ring : Layout) (me : ℕ) (d : Durable) (s : Soft) (from : ℕ) (reply : AppendReply) → counts d s reply ≡ true
    → (on_ack ring me d s from reply).soft.transfer ≡ s.transfer
unfolding on_ack advance
on_ack-transfer ring me d s from reply h = grind (arith, nat_tests)

-- ---- by what the two calls give: replication's plan and soft part, and then the plan of `after_ack`
both_true : (a b : Bool) → (a && b) ≡ true → a ≡ true
both_true true b h = refl
both_true false b h = absurd (let z : false ≡ true = h in cc)

by_count : (ring : Layout) (me : ℕ) (d : Durable) (s : Soft) (from : ℕ) (reply : AppendReply) (b : Bool) → (counts d s reply && reply.ok) ≡ b
    → on_answer ring me d s from reply
    ≡ (if b then with_more (on_ack ring me d s from reply) (after_ok me d (on_ack ring me d s from reply).soft.peers from s.transfer) else on_ack ring me d s from reply)
unfolding on_answer
by_count ring me d s from reply b h =
    ap (λ (x : Bool). if x then with_more (on_ack ring me d s from reply) (after_ok me d (on_ack ring me d s from reply).soft.peers from s.transfer) else on_ack ring me d s from reply) h

-- the reply is ok and counts: the messages that come after are added
pub answered : (ring : Layout) (me : ℕ) (d : Durable) (s : Soft) (from : ℕ) (reply : AppendReply) (plan more : Plan) (new : Soft)
    → on_ack ring me d s from reply ≡ record { plan = plan; soft = new } → (counts d s reply && reply.ok) ≡ true
    → more ≡ record { actions = []; messages = after_ok me d new.peers from new.transfer; says = [] }
    → on_answer ring me d s from reply ≡ record { plan = record { actions = plan.actions; messages = plan.messages ++ more.messages; says = plan.says }; soft = new }
answered ring me d s from reply plan more new is h adds =
    let step : Step = on_ack ring me d s from reply in
    by_count ring me d s from reply true h
    ∙ (ap (λ (t : Transfer). with_more step (after_ok me d step.soft.peers from t)) (sym (on_ack-transfer ring me d s from reply (both_true (counts d s reply) reply.ok h)))
    ∙ (ap (λ (st : Step). with_more st (after_ok me d st.soft.peers from st.soft.transfer)) is
    ∙ ap (λ (m : Plan). with_more (record { plan = plan; soft = new }) m.messages) (sym adds)))

-- else replication's step is the whole
pub unanswered : (ring : Layout) (me : ℕ) (d : Durable) (s : Soft) (from : ℕ) (reply : AppendReply) (plan : Plan) (new : Soft)
    → on_ack ring me d s from reply ≡ record { plan = plan; soft = new } → (counts d s reply && reply.ok) ≡ false
    → on_answer ring me d s from reply ≡ record { plan = plan; soft = new }
unanswered ring me d s from reply plan new is h = by_count ring me d s from reply false h ∙ is

-- the reply may be tested on the soft part before or after
pub counts_still : (ring : Layout) (me : ℕ) (d : Durable) (s : Soft) (from : ℕ) (reply : AppendReply) (plan : Plan) (new : Soft)
    → on_ack ring me d s from reply ≡ record { plan = plan; soft = new } → counts d new reply ≡ counts d s reply
counts_still ring me d s from reply plan new is = sym (ap (λ (st : Step). counts d st.soft reply) is) ∙ on_ack-counts ring me d s from reply

-- ---- the same of a view's log, told or not
pub answers : {V : Type 0} (told : Option (List Entry)) (here : Here V) (s : Soft) (from : ℕ) (reply : AppendReply) (plan more : Plan) (new : Soft)
    → IfSome told (λ log. on_ack here.ring.now here.me (durable_of here log) s from reply ≡ record { plan = plan; soft = new })
    → IfSome told (λ log. (counts (durable_of here log) s reply && reply.ok) ≡ true)
    → IfSome told (λ log. more ≡ record { actions = []; messages = after_ok here.me (durable_of here log) new.peers from new.transfer; says = [] })
    → IfSome told (λ log. on_answer here.ring.now here.me (durable_of here log) s from reply ≡ record { plan = record { actions = plan.actions; messages = plan.messages ++ more.messages; says = plan.says }; soft = new })
answers None here s from reply plan more new is h adds = tt
answers (Some log) here s from reply plan more new is h adds = answered here.ring.now here.me (durable_of here log) s from reply plan more new is h adds

pub answers_alone : {V : Type 0} (told : Option (List Entry)) (here : Here V) (s : Soft) (from : ℕ) (reply : AppendReply) (plan : Plan) (new : Soft)
    → IfSome told (λ log. on_ack here.ring.now here.me (durable_of here log) s from reply ≡ record { plan = plan; soft = new })
    → IfSome told (λ log. (counts (durable_of here log) s reply && reply.ok) ≡ false)
    → IfSome told (λ log. on_answer here.ring.now here.me (durable_of here log) s from reply ≡ record { plan = plan; soft = new })
answers_alone None here s from reply plan new is h = tt
answers_alone (Some log) here s from reply plan new is h = unanswered here.ring.now here.me (durable_of here log) s from reply plan new is h

-- ---- a test, then the election's rule
pub timeout_by : (ring : Layout) (me : ℕ) (d : Durable) (s : Soft) (told : ℕ) (b : Bool) → b ≡ stands_when_told ring me d.term s told
    → on_timeout ring me d s told ≡ (if b then elect ring me d s else idle s)
unfolding on_timeout
timeout_by ring me d s told b is = ap (λ (x : Bool). if x then elect ring me d s else idle s) (sym is)
