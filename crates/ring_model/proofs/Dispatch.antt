-- The step of a node on any input owes nothing: a foreign message does nothing, and each input has its rule.
use Rattle.std.proofs.Common.{◌≡◌, ℕ, ◌==◌, ◌&&◌, ◌||◌, if◌then◌else◌, Bool, List, None, arith, false, not, refl, subst, true}
use Rattle.std.proofs.lemmas.Bool.Decides.{nat_tests}
use Rattle.std.specs.List.{Contains}
use Rattle.ring_types.specs.Rings.{Layout, is_member}
use Rattle.ring_model.specs.declared.messages.Append.{Append}
use Rattle.ring_model.specs.declared.messages.Body.{Body}
use Rattle.ring_model.specs.declared.nodes.Durable.{Durable}
use Rattle.ring_model.specs.declared.messages.Input.{Input}
use Rattle.ring_model.specs.declared.messages.Message.{Message}
use Rattle.ring_model.specs.declared.nodes.Soft.{Soft}
use Rattle.ring_model.specs.Dispatch.{body_step, body_tear, deliver, is_foreign, is_foreign_body, is_other, step, tear_of}
use Rattle.ring_model.specs.Worlds.{given}
use Rattle.ring_model.specs.Steps.{idle}
use Rattle.ring_model.specs.Replication.{reply}
use Rattle.ring_model.specs.declared.messages.Body.TheVariants as body
use Rattle.ring_model.specs.declared.messages.Input.TheVariants as input
use Rattle.ring_model.proofs.Invariant.{History, IsHistory, IsNode, IsRunning, IsSent}
use Rattle.ring_model.proofs.Turns.{IsRow}
use Rattle.ring_model.proofs.Plain.{idle_row}
use Rattle.ring_model.proofs.Elect.{elect_row, timeout_row}
use Rattle.ring_model.proofs.OnRequest.{request_row}
use Rattle.ring_model.proofs.OnReply.{reply_row}
use Rattle.ring_model.proofs.OnAppend.{append_row}
use Rattle.ring_model.proofs.NeverTorn.{append_tears_not}
use Rattle.ring_model.proofs.OnAnswer.{answered_row}
use Rattle.ring_model.proofs.Relay.{relay_row}
use Rattle.ring_model.proofs.Beat.{beat_row}
use Rattle.ring_model.proofs.Writes.{rotate_row, write_row}
use Rattle.ring_model.proofs.Transfers.{cancel_row, mock_reply_row, mock_request_row, mock_result_row, mock_start_row, transfer_row}

other_is : (ring : Layout) (me id : ℕ) → is_other ring me id ≡ true → id ≡ me → ⊥
other_is ring me id is same = go (is_member ring id) (id == me) refl is
  where
    go : (a b : Bool) → (id == me) ≡ b → (a && not b) ≡ true → ⊥
    go true true x y = absurd (let z : false ≡ true = y in cc)
    go true false x y = grind (arith, nat_tests, x, same)
    go false b x y = absurd (let z : false ≡ true = y in cc)

-- a message that is not foreign names another member where it names one
second_other : (a b : Bool) → (not a || not b) ≡ false → b ≡ true
second_other true true is = refl
second_other true false is = absurd (let z : true ≡ false = is in cc)
second_other false b is = absurd (let z : true ≡ false = is in cc)

pub names_other : (ring : Layout) (me from : ℕ) (sent : Append) → is_foreign_body ring me from (body.Append sent) ≡ false → sent.leader ≡ me → ⊥
names_other ring me from sent is = other_is ring me sent.leader (second_other (is_other ring me from) (is_other ring me sent.leader) is)

body_row : (ring : Layout) (h : History) (m : Message) (id : ℕ) (d : Durable) (s : Soft) (b : Body) → IsHistory ring h → IsNode ring h id d
    → IsRunning ring h id d s
    → Contains h.messages m → m.to ≡ id → m.body ≡ b → is_foreign_body ring id m.from b ≡ false → IsRow ring h id d s (body_step ring id d s m.from b)
body_row ring h m id d s (body.RequestVote asked) k n r in_m to is own =
    request_row ring h id m.from asked d s k n r (subst (λ (b : Body). IsSent ring h m.from m.to b) is (k.sent m in_m))
body_row ring h m id d s (body.VoteReply reply) k n r in_m to is own =
    reply_row ring h id m.from reply d s k n r
    (subst (λ (v : ℕ). IsSent ring h m.from v (body.VoteReply reply)) to (subst (λ (b : Body). IsSent ring h m.from m.to b) is (k.sent m in_m)))
body_row ring h m id d s (body.Append sent) k n r in_m to is own =
    append_row ring h id sent d s k n r (subst (λ (b : Body). IsSent ring h m.from m.to b) is (k.sent m in_m)) (names_other ring id m.from sent own)
body_row ring h m id d s (body.AppendReply answer) k n r in_m to is own = answered_row ring h m id m.from answer d s k n r in_m refl is
body_row ring h m id d s (body.ProxyAppend sent) k n r in_m to is own =
    relay_row ring h id m.from sent d s k n r (subst (λ (b : Body). IsSent ring h m.from m.to b) is (k.sent m in_m))
body_row ring h m id d s (body.MockStart sent) k n r in_m to is own = mock_start_row ring h id m.from sent d s k n r
body_row ring h m id d s (body.MockRequest sent) k n r in_m to is own = mock_request_row ring h id m.from sent d s k n r
body_row ring h m id d s (body.MockReply sent) k n r in_m to is own = mock_reply_row ring h id m.from sent d s k n r
body_row ring h m id d s (body.MockResult sent) k n r in_m to is own = mock_result_row ring h id sent d s k n r
body_row ring h m id d s (body.TimeoutNow term) k n r in_m to is own = timeout_row ring h id d s term k n r
body_row ring h m id d s (body.ClientWrite changes) k n r in_m to is own = write_row ring h id m.from changes d s k n r
body_row ring h m id d s body.ClientRotate k n r in_m to is own = rotate_row ring h id m.from d s k n r
body_row ring h m id d s (body.ClientTransfer target) k n r in_m to is own = transfer_row ring h id m.from target d s k n r
body_row ring h m id d s body.ClientCancel k n r in_m to is own = cancel_row ring h id m.from d s k n r
body_row ring h m id d s (body.ClientReply what) k n r in_m to is own = idle_row ring h id d s r

deliver_row : (ring : Layout) (h : History) (m : Message) (id : ℕ) (d : Durable) (s : Soft) → IsHistory ring h → IsNode ring h id d → IsRunning ring h id d s
    → Contains h.messages m → m.to ≡ id → IsRow ring h id d s (deliver ring id d s m)
deliver_row ring h m id d s k n r in_m to = go (is_foreign ring id m) refl
  where
    go : (b : Bool) → is_foreign ring id m ≡ b → IsRow ring h id d s (if b then idle s else body_step ring id d s m.from m.body)
    go true is = idle_row ring h id d s r
    go false is = body_row ring h m id d s m.body k n r in_m to refl is

-- a message that is given was sent, and to this node
abbrev pub IsGiven : List Message → ℕ → Input → Type 0
IsGiven messages id (input.Deliver m) = Contains messages m × (m.to ≡ id)
IsGiven messages id _ = Unit {0}

pub step_row : (ring : Layout) (h : History) (id : ℕ) (d : Durable) (s : Soft) (i : Input) → IsHistory ring h → IsNode ring h id d → IsRunning ring h id d s
    → IsGiven h.messages id i → IsRow ring h id d s (step ring id d s i)
step_row ring h id d s input.Elect k n r given = elect_row ring h id d s k n r
step_row ring h id d s input.Beat k n r given = beat_row ring h id d s k n r
step_row ring h id d s (input.Deliver m) k n r given = deliver_row ring h m id d s k n r given.0 given.1
step_row ring h id d s (input.Write client changes) k n r given = write_row ring h id client changes d s k n r
step_row ring h id d s (input.Rotate client) k n r given = rotate_row ring h id client d s k n r
step_row ring h id d s (input.Transfer client target) k n r given = transfer_row ring h id client target d s k n r
step_row ring h id d s (input.Cancel client) k n r given = cancel_row ring h id client d s k n r

-- ---- never torn
body_whole : (ring : Layout) (h : History) (m : Message) (id : ℕ) (d : Durable) (s : Soft) (b : Body) → IsHistory ring h → IsNode ring h id d
    → IsRunning ring h id d s
    → Contains h.messages m → m.body ≡ b → is_foreign_body ring id m.from b ≡ false → body_tear d s b ≡ None
body_whole ring h m id d s (body.Append sent) k n r in_m is own =
    append_tears_not ring h id sent d s k n r (subst (λ (b : Body). IsSent ring h m.from m.to b) is (k.sent m in_m)) (names_other ring id m.from sent own)
body_whole ring h m id d s (body.RequestVote asked) k n r in_m is own = refl
body_whole ring h m id d s (body.VoteReply reply) k n r in_m is own = refl
body_whole ring h m id d s (body.AppendReply answer) k n r in_m is own = refl
body_whole ring h m id d s (body.ProxyAppend sent) k n r in_m is own = refl
body_whole ring h m id d s (body.MockStart sent) k n r in_m is own = refl
body_whole ring h m id d s (body.MockRequest sent) k n r in_m is own = refl
body_whole ring h m id d s (body.MockReply sent) k n r in_m is own = refl
body_whole ring h m id d s (body.MockResult sent) k n r in_m is own = refl
body_whole ring h m id d s (body.TimeoutNow term) k n r in_m is own = refl
body_whole ring h m id d s (body.ClientWrite changes) k n r in_m is own = refl
body_whole ring h m id d s body.ClientRotate k n r in_m is own = refl
body_whole ring h m id d s (body.ClientTransfer target) k n r in_m is own = refl
body_whole ring h m id d s body.ClientCancel k n r in_m is own = refl
body_whole ring h m id d s (body.ClientReply what) k n r in_m is own = refl

pub step_whole : (ring : Layout) (h : History) (id : ℕ) (d : Durable) (s : Soft) (i : Input) → IsHistory ring h → IsNode ring h id d
    → IsRunning ring h id d s → IsGiven h.messages id i → tear_of ring id d s i ≡ None
step_whole ring h id d s (input.Deliver m) k n r given = go (is_foreign ring id m) refl
  where
    go : (b : Bool) → is_foreign ring id m ≡ b → (if b then None else body_tear d s m.body) ≡ None
    go true is = refl
    go false is = body_whole ring h m id d s m.body k n r given.0 refl is
step_whole ring h id d s input.Elect k n r given = refl
step_whole ring h id d s input.Beat k n r given = refl
step_whole ring h id d s (input.Write client changes) k n r given = refl
step_whole ring h id d s (input.Rotate client) k n r given = refl
step_whole ring h id d s (input.Transfer client target) k n r given = refl
step_whole ring h id d s (input.Cancel client) k n r given = refl
