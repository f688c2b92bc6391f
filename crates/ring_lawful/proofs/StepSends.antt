-- What each step of a lawful node sends is well formed: each input has its rule.
use Rattle.std.proofs.Common.{◌≡◌, ℕ, [], ◌∷◌, ◌∙◌, if◌then◌else◌, Bool, List, arith, false, length, refl, subst, suc, sym, true, zero}
use Rattle.std.specs.List.{Contains}
use Rattle.ring_types.specs.declared.schemas.Schema.{Schema}
use Rattle.ring_types.specs.Rings.{Layout}
use Rattle.ring_model.specs.declared.messages.Body.{Body}
use Rattle.ring_model.specs.declared.messages.Body.TheVariants as body
use Rattle.ring_model.specs.declared.messages.Input.{Input}
use Rattle.ring_model.specs.declared.messages.Input.TheVariants as input
use Rattle.ring_model.specs.declared.messages.Message.{Message}
use Rattle.ring_model.specs.declared.messages.ProxyAppend.{ProxyAppend}
use Rattle.ring_model.specs.declared.nodes.Durable.{Durable}
use Rattle.ring_model.specs.declared.nodes.Soft.{Soft}
use Rattle.ring_model.specs.Actions.{all_done}
use Rattle.ring_model.specs.Dispatch.{body_step, is_foreign, step}
use Rattle.ring_model.specs.Nodes.{is_leader}
use Rattle.ring_model.specs.Replication.{relay}
use Rattle.ring_model.specs.Steps.{idle}
use Rattle.ring_model.specs.WellFormed.{BodyIsNear, IsNearlyWellFormed, IsWellFormed, OpidsFit}
use Rattle.ring_lawful.specs.EachStep.{EveryStepSendsWellFormed, IsGood, asks_proxy, asks_proxy_body}
use Rattle.ring_lawful.proofs.Parts.{chain_from, counted_from}
use Rattle.ring_lawful.proofs.Sends.{AllWell, Tells, opid_parts, well_each}
use Rattle.ring_lawful.proofs.SendsAppends.{append_well, beat_well, chain_short}
use Rattle.ring_lawful.proofs.SendsElections.{elect_well, reply_well, request_well}
use Rattle.ring_lawful.proofs.SendsHandingOver.{answered_well, asked_well, cancel_well, mock_reply_well, mock_result_well, rotate_well, start_well, timeout_well, transfer_well, write_well}
use Rattle.ring_lawful.proofs.SendsRelays.{found_near}
use Rattle.ring_lawful.proofs.Sized.{Sized}
use Rattle.ring_lawful.proofs.SizedAppends.{found_fits}
use Rattle.ring_lawful.proofs.Steady.{Near}
use Rattle.ring_lawful.proofs.EachStep.{after_size, sized, tells}

-- ---- what it sends
sends_body : (ring : Layout) (me from : ℕ) (d : Durable) (s : Soft) (b : Body) → Tells ring d s
    → Sized ring (all_done d (body_step ring me d s from b).plan.actions) → asks_proxy_body b ≡ false → BodyIsNear ring.schema b
    → AllWell ring.schema (body_step ring me d s from b).plan.messages
sends_body ring me from d s (body.RequestVote asked) t z other g = request_well ring me from asked d s t.sized.term z g.0
sends_body ring me from d s (body.VoteReply reply) t z other g = reply_well ring me from reply d s
sends_body ring me from d s (body.Append sent) t z other g =
    let p = (opid_parts sent.prev g.prev).1 in
    append_well ring me d s sent t.sized.term t.short g.term p
    (chain_short sent.prev.term sent.prev.position sent.entries (chain_from sent.term sent.prev sent.entries g.follow).0 p g.opids)
sends_body ring me from d s (body.AppendReply answer) t z other g = answered_well ring me from answer d s t.sized.term
sends_body ring me from d s (body.ProxyAppend sent) t z other g = absurd (let w : true ≡ false = other in cc)
sends_body ring me from d s (body.MockStart sent) t z other g = start_well ring me from sent d s g.0 g.1
sends_body ring me from d s (body.MockRequest sent) t z other g = asked_well ring me from sent d s t.sized.term
sends_body ring me from d s (body.MockReply sent) t z other g = mock_reply_well ring me from sent d s t.sized.term
sends_body ring me from d s (body.MockResult sent) t z other g = mock_result_well ring.schema me sent d s t.sized.term
sends_body ring me from d s (body.TimeoutNow term) t z other g = timeout_well ring me d s term t
sends_body ring me from d s (body.ClientWrite changes) t z other g = write_well ring me from changes d s
sends_body ring me from d s body.ClientRotate t z other g = rotate_well ring me from d s
sends_body ring me from d s (body.ClientTransfer target) t z other g = transfer_well ring me from target d s t
sends_body ring me from d s body.ClientCancel t z other g = cancel_well ring.schema from s
sends_body ring me from d s (body.ClientReply what) t z other g = tt

sends : (ring : Layout) (me : ℕ) (d : Durable) (s : Soft) (i : Input) → Tells ring d s → (is_leader s.role ≡ true → Near (length d.log) s.peers)
    → Sized ring (all_done d (step ring me d s i).plan.actions) → asks_proxy i ≡ false → IsGood ring i
    → AllWell ring.schema (step ring me d s i).plan.messages
sends ring me d s input.Elect t near z other g = elect_well ring me d s t
sends ring me d s input.Beat t near z other g = beat_well ring me d s t near
sends ring me d s (input.Deliver m) t near z other g = go (is_foreign ring me m) z
  where
    go : (b : Bool) → Sized ring (all_done d (if b then idle s else body_step ring me d s m.from m.body).plan.actions)
        → AllWell ring.schema (if b then idle s else body_step ring me d s m.from m.body).plan.messages
    go true z = tt
    go false z = sends_body ring me m.from d s m.body t z other g
sends ring me d s (input.Write client changes) t near z other g = write_well ring me client changes d s
sends ring me d s (input.Rotate client) t near z other g = rotate_well ring me client d s
sends ring me d s (input.Transfer client target) t near z other g = transfer_well ring me client target d s t
sends ring me d s (input.Cancel client) t near z other g = cancel_well ring.schema client s

-- a proxy's one message
abbrev AllNear : Schema → List Message → Type 0
AllNear schema [] = Unit {0}
AllNear schema (m ∷ ms) = IsNearlyWellFormed schema m × AllNear schema ms

near_message : (schema : Schema) (ms : List Message) (m : Message) → AllNear schema ms → Contains ms m → IsNearlyWellFormed schema m
near_message schema [] m x c = absurd (omega (arith, c.1))
near_message schema (y ∷ ms) m x (zero, lt, is) = subst (IsNearlyWellFormed schema) (let z : y ≡ m = cc in z) x.0
near_message schema (y ∷ ms) m x (suc k, lt, is) = near_message schema ms m x.1 (k, omega arith, is)

relay_near : (ring : Layout) (me from : ℕ) (sent : ProxyAppend) (d : Durable) (s : Soft) → Sized ring d → OpidsFit sent
    → AllNear ring.schema (relay me d s from sent).plan.messages
unfolding relay
relay_near ring me from sent d s z g = (found_near ring from sent d.log (found_fits ring d.log sent.opids z.entries) g, tt)

asked_near : (ring : Layout) (me from : ℕ) (d : Durable) (s : Soft) (b : Body) → Sized ring d → asks_proxy_body b ≡ true → BodyIsNear ring.schema b
    → AllNear ring.schema (body_step ring me d s from b).plan.messages
asked_near ring me from d s (body.ProxyAppend sent) z asks g = relay_near ring me from sent d s z g
asked_near ring me from d s (body.RequestVote asked) z asks g = absurd (let w : false ≡ true = asks in cc)
asked_near ring me from d s (body.VoteReply reply) z asks g = absurd (let w : false ≡ true = asks in cc)
asked_near ring me from d s (body.Append sent) z asks g = absurd (let w : false ≡ true = asks in cc)
asked_near ring me from d s (body.AppendReply answer) z asks g = absurd (let w : false ≡ true = asks in cc)
asked_near ring me from d s (body.MockStart sent) z asks g = absurd (let w : false ≡ true = asks in cc)
asked_near ring me from d s (body.MockRequest sent) z asks g = absurd (let w : false ≡ true = asks in cc)
asked_near ring me from d s (body.MockReply sent) z asks g = absurd (let w : false ≡ true = asks in cc)
asked_near ring me from d s (body.MockResult sent) z asks g = absurd (let w : false ≡ true = asks in cc)
asked_near ring me from d s (body.TimeoutNow term) z asks g = absurd (let w : false ≡ true = asks in cc)
asked_near ring me from d s (body.ClientWrite changes) z asks g = absurd (let w : false ≡ true = asks in cc)
asked_near ring me from d s body.ClientRotate z asks g = absurd (let w : false ≡ true = asks in cc)
asked_near ring me from d s (body.ClientTransfer target) z asks g = absurd (let w : false ≡ true = asks in cc)
asked_near ring me from d s body.ClientCancel z asks g = absurd (let w : false ≡ true = asks in cc)
asked_near ring me from d s (body.ClientReply what) z asks g = absurd (let w : false ≡ true = asks in cc)

given_near : (ring : Layout) (me : ℕ) (d : Durable) (s : Soft) (i : Input) → Sized ring d → asks_proxy i ≡ true → IsGood ring i
    → AllNear ring.schema (step ring me d s i).plan.messages
given_near ring me d s (input.Deliver m) z asks g = go (is_foreign ring me m)
  where
    go : (b : Bool) → AllNear ring.schema (if b then idle s else body_step ring me d s m.from m.body).plan.messages
    go true = tt
    go false = asked_near ring me m.from d s m.body z asks g
given_near ring me d s input.Elect z asks g = absurd (let w : false ≡ true = asks in cc)
given_near ring me d s input.Beat z asks g = absurd (let w : false ≡ true = asks in cc)
given_near ring me d s (input.Write client changes) z asks g = absurd (let w : false ≡ true = asks in cc)
given_near ring me d s (input.Rotate client) z asks g = absurd (let w : false ≡ true = asks in cc)
given_near ring me d s (input.Transfer client target) z asks g = absurd (let w : false ≡ true = asks in cc)
given_near ring me d s (input.Cancel client) z asks g = absurd (let w : false ≡ true = asks in cc)

pub every_step_sends_well_formed : EveryStepSendsWellFormed
every_step_sends_well_formed ring me d s i x g m in_m = go (asks_proxy i) refl
  where
    well : asks_proxy i ≡ false → IsWellFormed ring.schema m
    well other =
        well_each ring.schema (step ring me d s i).plan.messages m
        (sends ring me d s i (tells ring me d s i x g) (counted_from ring me d s x.0).near (after_size ring me d s i x g) other g) in_m

    go : (b : Bool) → asks_proxy i ≡ b → IsNearlyWellFormed ring.schema m × (asks_proxy i ≡ false → IsWellFormed ring.schema m)
    go true is =
        (near_message ring.schema (step ring me d s i).plan.messages m (given_near ring me d s i (sized ring me d s i x g) is g) in_m, λ other. absurd (let w : true ≡ false = sym is ∙ other in cc))
    go false is = ((well is).0, well)
