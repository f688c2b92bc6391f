-- Each rule of the step keeps the order of the log and of the counts, whatever well-formed message it answers.
use Rattle.std.proofs.Common.{◌≡◌, ℕ, ◌≤◌, ◌==◌, ◌&&◌, ◌||◌, [], ◌∷◌, ◌++◌, if◌then◌else◌, Bool, List, None, Option, Some, arith, false, length, map, not, refl, suc, true}
use Rattle.std.proofs.lemmas.Bool.Decides.{nat_tests}
use Rattle.std.specs.Prelude.{nat_le, nat_lt}
use Rattle.std.specs.List.{list_all}
use Rattle.ring_types.specs.declared.entries.Entry.{Entry}
use Rattle.ring_types.specs.declared.entries.Opid.{Opid}
use Rattle.ring_types.specs.declared.entries.Payload.TheVariants as payload
use Rattle.ring_types.specs.declared.values.Change.{Change}
use Rattle.ring_types.specs.Rings.{Layout, votes}
use Rattle.ring_model.specs.declared.effects.Action.TheVariants as action
use Rattle.ring_model.specs.declared.effects.Cause.{Cause}
use Rattle.ring_model.specs.declared.effects.What.TheVariants as what
use Rattle.ring_model.specs.declared.messages.AppendReply.{AppendReply}
use Rattle.ring_model.specs.declared.messages.Body.{Body}
use Rattle.ring_model.specs.declared.messages.Body.TheVariants as body
use Rattle.ring_model.specs.declared.messages.Input.{Input}
use Rattle.ring_model.specs.declared.messages.Input.TheVariants as input
use Rattle.ring_model.specs.declared.messages.MockReply.{MockReply}
use Rattle.ring_model.specs.declared.messages.MockRequest.{MockRequest}
use Rattle.ring_model.specs.declared.messages.MockResult.{MockResult}
use Rattle.ring_model.specs.declared.messages.MockStart.{MockStart}
use Rattle.ring_model.specs.declared.messages.ProxyAppend.{ProxyAppend}
use Rattle.ring_model.specs.declared.nodes.Durable.{Durable}
use Rattle.ring_model.specs.declared.nodes.Mock.{Mock}
use Rattle.ring_model.specs.declared.nodes.Mock.TheVariants as mock
use Rattle.ring_model.specs.declared.nodes.Soft.{Soft}
use Rattle.ring_model.specs.declared.nodes.Transfer.{Transfer}
use Rattle.ring_model.specs.declared.nodes.Transfer.TheVariants as transfer
use Rattle.ring_model.specs.Dispatch.{body_step, is_foreign, step}
use Rattle.ring_model.specs.Nodes.{is_follower, is_leader}
use Rattle.ring_model.specs.Quorums.{is_listed}
use Rattle.ring_model.specs.Replication.{beat, beat_to, counts, heard_among, leader_hears, on_ack, quieter, relay}
use Rattle.ring_model.specs.Elections.{elect}
use Rattle.ring_model.specs.Steps.{demoted, idle, message, own_entry, stepped, unknowns}
use Rattle.ring_model.specs.Transfers.{after_ok, ask_transfer, begin_mock, begin_round, cancel, count_answer, is_off, is_old_round, mock_hears, on_answer, on_mock_reply, on_mock_request, on_mock_result, on_mock_start, on_timeout, passes, result_heard, transfer_hears, transfer_refusal, with_answer, with_more}
use Rattle.ring_model.specs.Writes.{awaits, refused, rotate, rotate_refusal, rotate_step, write, write_entry, write_entry_step, write_refusal, write_txn}
use Rattle.ring_types.proofs.Booleans.{both_true}
use Rattle.ring_lawful.proofs.Chains.{Chain, Ordered, length_join}
use Rattle.ring_lawful.proofs.Steady.{Counted, Steady, idle_steady, quiet_steady}
use Rattle.ring_lawful.proofs.SteadyAppend.{append_steady}
use Rattle.ring_lawful.proofs.SteadyElections.{advance_steady, elect_steady, own_orderly, raise_steady, reply_steady, request_steady}
use Rattle.ring_lawful.proofs.SteadyPeers.{near_heard, near_more, near_quieter}

-- ---- a leader's answers and its own entries
within : (d : Durable) (s : Soft) (answer : AppendReply) → counts d s answer ≡ true → answer.position ≤ length d.log
within d s answer is =
    let z = (both_true (is_leader s.role && answer.term == d.term) (nat_le answer.position (length d.log)) is).1 in grind (arith, nat_tests, z)

ack_steady : (ring : Layout) (me from : ℕ) (answer : AppendReply) (d : Durable) (s : Soft) → Ordered d → Counted d s → Steady d (on_ack ring me d s from answer)
unfolding on_ack
ack_steady ring me from answer d s x c = go (nat_lt d.term answer.term) refl (counts d s answer) refl
  where
    go : (a : Bool) → nat_lt d.term answer.term ≡ a → (b : Bool) → counts d s answer ≡ b
        → Steady d (if a then stepped (action.SetTerm answer.term ∷ []) [] (unknowns s) (demoted s) else (if b then leader_hears ring me d s from answer else idle s))
    go true y b z = raise_steady answer.term d s [] (unknowns s) c (grind (arith, nat_tests, y))
    go false y true z = advance_steady ring me d (record s { peers = heard_among s.peers from answer.ok answer.position }) [] [] x tt c.inside
        (λ is. near_heard (length d.log) s.peers from answer.ok answer.position (within d s answer z) (c.near is))
    go false y false z = idle_steady d s c

answered_steady : (ring : Layout) (me from : ℕ) (answer : AppendReply) (d : Durable) (s : Soft) → Ordered d → Counted d s
    → Steady d (on_answer ring me d s from answer)
unfolding on_answer
answered_steady ring me from answer d s x c = go (counts d s answer && answer.ok)
  where
    b : Steady d (on_ack ring me d s from answer)
    b = ack_steady ring me from answer d s x c

    go : (a : Bool) → Steady d (if a then with_more (on_ack ring me d s from answer) (after_ok me d (on_ack ring me d s from answer).soft.peers from s.transfer) else on_ack ring me d s from answer)
    go true = record { allowed = b.allowed; inside = b.inside; near = b.near }
    go false = b

write_steady : (ring : Layout) (me client : ℕ) (changes : List Change) (d : Durable) (s : Soft) → Ordered d → Counted d s
    → Steady d (write ring me d s client changes)
unfolding write
write_steady ring me client changes d s x c = go (write_refusal ring me d s changes)
  where
    go : (r : Option Cause) → Steady d (elim r [ Some r ↦ refused s client r | None ↦ write_entry_step ring me d s client (write_txn ring me d changes) (write_entry ring me d changes) ])
    go (Some r) = quiet_steady d s s [] _ c refl refl refl
    go None =
        let e : Entry = write_entry ring me d changes in
        let n = length_join d.log (e ∷ []) in
        let i = c.inside in
        advance_steady ring me d (awaits s client e (write_txn ring me d changes).gtid)
        (action.Prepare (record { opid = e.opid; txn = write_txn ring me d changes }) ∷ action.Append (e ∷ []) ∷ []) [] x
        (tt, (own_orderly ring me d (payload.Txn (write_txn ring me d changes)) x, tt)) (omega (arith, n, i))
        (λ is. near_more (length d.log) _ s.peers (omega (arith, n)) (c.near is))

rotate_steady : (ring : Layout) (me client : ℕ) (d : Durable) (s : Soft) → Ordered d → Counted d s → Steady d (rotate ring me d s client)
unfolding rotate
rotate_steady ring me client d s x c = go (rotate_refusal ring me d s)
  where
    go : (r : Option Cause) → Steady d (elim r [ Some r ↦ refused s client r | None ↦ rotate_step ring me d s client (own_entry ring me d payload.Rotate) ])
    go (Some r) = quiet_steady d s s [] _ c refl refl refl
    go None =
        let e : Entry = own_entry ring me d payload.Rotate in
        let n = length_join d.log (e ∷ []) in
        let i = c.inside in
        advance_steady ring me d s (action.Append (e ∷ []) ∷ []) _ x (own_orderly ring me d payload.Rotate x, tt) (omega (arith, n, i))
        (λ is. near_more (length d.log) _ s.peers (omega (arith, n)) (c.near is))

-- ---- rules without actions
beat_steady : (ring : Layout) (me : ℕ) (d : Durable) (s : Soft) → Counted d s → Steady d (beat ring me d s)
unfolding beat
beat_steady ring me d s c = go (is_leader s.role)
  where
    go : (b : Bool) → Steady d (if b then stepped [] (map (beat_to ring me d s) s.peers) [] (record s { peers = map quieter s.peers }) else idle s)
    go true = record { allowed = tt; inside = c.inside; near = λ is. near_quieter (length d.log) s.peers (c.near is) }
    go false = idle_steady d s c

relay_steady : (ring : Layout) (me from : ℕ) (sent : ProxyAppend) (d : Durable) (s : Soft) → Counted d s → Steady d (relay me d s from sent)
unfolding relay
relay_steady ring me from sent d s c = quiet_steady d s s _ [] c refl refl refl

transfer_steady : (ring : Layout) (me client target : ℕ) (d : Durable) (s : Soft) → Counted d s → Steady d (ask_transfer ring me d s client target)
unfolding ask_transfer
transfer_steady ring me client target d s c = go (transfer_refusal ring me s target)
  where
    go : (r : Option Cause) → Steady d (elim r [ Some r ↦ refused s client r | None ↦ begin_round me d s client target ])
    go (Some r) = quiet_steady d s s [] _ c refl refl refl
    go None = quiet_steady d s (record s { rounds = suc s.rounds; transfer = transfer.Mock target (suc s.rounds) client }) _ [] c refl refl refl

cancel_steady : (client : ℕ) (d : Durable) (s : Soft) → Counted d s → Steady d (cancel s client)
unfolding cancel
cancel_steady client d s c = go (is_off s.transfer)
  where
    go : (b : Bool) → Steady d (if b then idle s else stepped [] [] (record { client = client; what = what.Cancelled } ∷ []) (record s { transfer = transfer.Off }))
    go true = idle_steady d s c
    go false = quiet_steady d s (record s { transfer = transfer.Off }) [] _ c refl refl refl

start_steady : (ring : Layout) (me from : ℕ) (sent : MockStart) (d : Durable) (s : Soft) → Counted d s → Steady d (on_mock_start ring me d s from sent)
unfolding on_mock_start
start_steady ring me from sent d s c = go (sent.term == d.term && votes ring me && is_follower s.role && not (is_old_round s.mock from sent.round))
  where
    go : (b : Bool) → Steady d (if b then begin_mock ring me d s from sent else idle s)
    go true = quiet_steady d s (begin_mock ring me d s from sent).soft _ [] c refl refl refl
    go false = idle_steady d s c

asked_steady : (ring : Layout) (me from : ℕ) (sent : MockRequest) (d : Durable) (s : Soft) → Counted d s → Steady d (on_mock_request ring me d s from sent)
unfolding on_mock_request
asked_steady ring me from sent d s c = go (sent.term == d.term && votes ring me)
  where
    go : (b : Bool) → Steady d (if b then stepped [] (message me from (body.MockReply (record { term = d.term; round = sent.round; ok = passes d sent.last })) ∷ []) [] s else idle s)
    go true = quiet_steady d s s _ [] c refl refl refl
    go false = idle_steady d s c

count_steady : (ring : Layout) (me from : ℕ) (answer : MockReply) (d : Durable) (s : Soft) (leader : ℕ) (asked : Opid) (passed failed : List ℕ) → Counted d s
    → Steady d (count_answer ring me d s from answer leader asked passed failed)
count_steady ring me from answer d s leader asked passed failed c = go (is_listed passed from || is_listed failed from) answer.ok
  where
    with_steady : (more_passed more_failed : List ℕ) → Steady d (with_answer ring me d s leader answer.round asked passed failed more_passed more_failed)
    with_steady more_passed more_failed = quiet_steady d s (record s { mock = mock.On leader answer.round asked more_passed more_failed }) _ [] c refl refl refl

    go : (a b : Bool) → Steady d (if a then idle s
        else (if b then with_answer ring me d s leader answer.round asked passed failed (passed ++ from ∷ []) failed else with_answer ring me d s leader answer.round asked passed failed passed (failed ++ from ∷ [])))
    go true b = idle_steady d s c
    go false true = with_steady (passed ++ from ∷ []) failed
    go false false = with_steady passed (failed ++ from ∷ [])

heard_steady : (ring : Layout) (me from : ℕ) (answer : MockReply) (d : Durable) (s : Soft) (m : Mock) → Counted d s
    → Steady d (mock_hears ring me d s from answer m)
heard_steady ring me from answer d s mock.Off c = idle_steady d s c
heard_steady ring me from answer d s (mock.On leader round asked passed failed) c = go (answer.term == d.term && answer.round == round)
  where
    go : (b : Bool) → Steady d (if b then count_answer ring me d s from answer leader asked passed failed else idle s)
    go true = count_steady ring me from answer d s leader asked passed failed c
    go false = idle_steady d s c

mock_reply_steady : (ring : Layout) (me from : ℕ) (answer : MockReply) (d : Durable) (s : Soft) → Counted d s → Steady d (on_mock_reply ring me d s from answer)
unfolding on_mock_reply
mock_reply_steady ring me from answer d s c = heard_steady ring me from answer d s s.mock c

result_steady : (me : ℕ) (d : Durable) (s : Soft) (ok : Bool) (target client : ℕ) → Counted d s → Steady d (result_heard me d s ok target client)
result_steady me d s true target client c = quiet_steady d s (record s { transfer = transfer.Handing target client }) _ _ c refl refl refl
result_steady me d s false target client c = quiet_steady d s (record s { transfer = transfer.Off }) [] _ c refl refl refl

transfer_heard : (me : ℕ) (d : Durable) (s : Soft) (sent : MockResult) (t : Transfer) → Counted d s → Steady d (transfer_hears me d s sent t)
transfer_heard me d s sent transfer.Off c = idle_steady d s c
transfer_heard me d s sent (transfer.Handing target client) c = idle_steady d s c
transfer_heard me d s sent (transfer.Mock target round client) c = go (sent.term == d.term && sent.round == round)
  where
    go : (b : Bool) → Steady d (if b then result_heard me d s sent.ok target client else idle s)
    go true = result_steady me d s sent.ok target client c
    go false = idle_steady d s c

mock_result_steady : (me : ℕ) (sent : MockResult) (d : Durable) (s : Soft) → Counted d s → Steady d (on_mock_result me d s sent)
unfolding on_mock_result
mock_result_steady me sent d s c = transfer_heard me d s sent s.transfer c

timeout_steady : (ring : Layout) (me : ℕ) (d : Durable) (s : Soft) (term : ℕ) → Ordered d → Counted d s → Steady d (on_timeout ring me d s term)
unfolding on_timeout
timeout_steady ring me d s term x c = go (term == d.term && votes ring me && not (is_leader s.role))
  where
    go : (b : Bool) → Steady d (if b then elect ring me d s else idle s)
    go true = elect_steady ring me d s x c
    go false = idle_steady d s c

-- ---- any input
-- an Append's entries go on from its opid before them, of terms up to its own
abbrev pub Goes : Body → Type 0
Goes (body.Append sent) = Chain sent.prev.term sent.prev.position sent.entries × (list_all (λ (e : Entry). nat_le e.opid.term sent.term) sent.entries ≡ true)
Goes _ = Unit {0}

abbrev pub GoesIn : Input → Type 0
GoesIn (input.Deliver m) = Goes m.body
GoesIn _ = Unit {0}

body_steady : (ring : Layout) (me from : ℕ) (d : Durable) (s : Soft) (b : Body) → Ordered d → Counted d s → Goes b → Steady d (body_step ring me d s from b)
body_steady ring me from d s (body.RequestVote asked) x c g = request_steady ring me from asked d s c
body_steady ring me from d s (body.VoteReply reply) x c g = reply_steady ring me from reply d s x c
body_steady ring me from d s (body.Append sent) x c g = append_steady ring me sent d s x c g.0 g.1
body_steady ring me from d s (body.AppendReply answer) x c g = answered_steady ring me from answer d s x c
body_steady ring me from d s (body.ProxyAppend sent) x c g = relay_steady ring me from sent d s c
body_steady ring me from d s (body.MockStart sent) x c g = start_steady ring me from sent d s c
body_steady ring me from d s (body.MockRequest sent) x c g = asked_steady ring me from sent d s c
body_steady ring me from d s (body.MockReply sent) x c g = mock_reply_steady ring me from sent d s c
body_steady ring me from d s (body.MockResult sent) x c g = mock_result_steady me sent d s c
body_steady ring me from d s (body.TimeoutNow term) x c g = timeout_steady ring me d s term x c
body_steady ring me from d s (body.ClientWrite changes) x c g = write_steady ring me from changes d s x c
body_steady ring me from d s body.ClientRotate x c g = rotate_steady ring me from d s x c
body_steady ring me from d s (body.ClientTransfer target) x c g = transfer_steady ring me from target d s c
body_steady ring me from d s body.ClientCancel x c g = cancel_steady from d s c
body_steady ring me from d s (body.ClientReply what) x c g = idle_steady d s c

pub step_steady : (ring : Layout) (me : ℕ) (d : Durable) (s : Soft) (i : Input) → Ordered d → Counted d s → GoesIn i → Steady d (step ring me d s i)
step_steady ring me d s input.Elect x c g = elect_steady ring me d s x c
step_steady ring me d s input.Beat x c g = beat_steady ring me d s c
step_steady ring me d s (input.Deliver m) x c g = go (is_foreign ring me m)
  where
    go : (b : Bool) → Steady d (if b then idle s else body_step ring me d s m.from m.body)
    go true = idle_steady d s c
    go false = body_steady ring me m.from d s m.body x c g
step_steady ring me d s (input.Write client changes) x c g = write_steady ring me client changes d s x c
step_steady ring me d s (input.Rotate client) x c g = rotate_steady ring me client d s x c
step_steady ring me d s (input.Transfer client target) x c g = transfer_steady ring me client target d s c
step_steady ring me d s (input.Cancel client) x c g = cancel_steady client d s c
