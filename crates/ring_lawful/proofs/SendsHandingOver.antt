-- The messages of handing over carry the node's term and last opid, or what an earlier message of the same round carried.
use Rattle.std.proofs.Common.{◌≡◌, ℕ, ◌<◌, ◌==◌, ◌&&◌, ◌||◌, [], ◌∷◌, ◌++◌, if◌then◌else◌, Bool, List, None, Option, Some, false, length, not, refl, true}
use Rattle.std.specs.Prelude.{nat_lt}
use Rattle.ring_types.specs.declared.limits.TheConstants.{TERM_END}
use Rattle.ring_types.specs.declared.entries.Opid.{Opid}
use Rattle.ring_types.specs.declared.entries.Payload.TheVariants as payload
use Rattle.ring_types.specs.declared.members.Member.{Member}
use Rattle.ring_types.specs.declared.schemas.Schema.{Schema}
use Rattle.ring_types.specs.declared.values.Change.{Change}
use Rattle.ring_types.specs.Logs.{last}
use Rattle.ring_types.specs.Rings.{Layout, is_voter, votes}
use Rattle.ring_model.specs.declared.effects.Action.TheVariants as action
use Rattle.ring_model.specs.declared.effects.Cause.{Cause}
use Rattle.ring_model.specs.declared.effects.What.TheVariants as what
use Rattle.ring_model.specs.declared.messages.AppendReply.{AppendReply}
use Rattle.ring_model.specs.declared.messages.Body.TheVariants as body
use Rattle.ring_model.specs.declared.messages.MockReply.{MockReply}
use Rattle.ring_model.specs.declared.messages.MockRequest.{MockRequest}
use Rattle.ring_model.specs.declared.messages.MockResult.{MockResult}
use Rattle.ring_model.specs.declared.messages.MockStart.{MockStart}
use Rattle.ring_model.specs.declared.nodes.Durable.{Durable}
use Rattle.ring_model.specs.declared.nodes.Mock.{Mock}
use Rattle.ring_model.specs.declared.nodes.Mock.TheVariants as mock
use Rattle.ring_model.specs.declared.nodes.Peer.{Peer}
use Rattle.ring_model.specs.declared.nodes.Soft.{Soft}
use Rattle.ring_model.specs.declared.nodes.Transfer.{Transfer}
use Rattle.ring_model.specs.declared.nodes.Transfer.TheVariants as transfer
use Rattle.ring_model.specs.Elections.{elect}
use Rattle.ring_model.specs.Nodes.{is_follower, is_leader}
use Rattle.ring_model.specs.Quorums.{is_listed}
use Rattle.ring_model.specs.Replication.{counts, leader_hears, on_ack}
use Rattle.ring_model.specs.Steps.{demoted, idle, message, own_entry, stepped, unknowns}
use Rattle.ring_model.specs.Transfers.{after_ok, ask_transfer, begin_mock, begin_round, cancel, count_answer, deciding, hand_over, has_matched, is_off, is_old_round, mock_hears, mock_requests, mock_result, on_answer, on_mock_reply, on_mock_request, on_mock_result, on_mock_start, on_timeout, own_failed, own_passed, passes, result_heard, transfer_hears, transfer_refusal, verdict, with_answer, with_more}
use Rattle.ring_model.specs.WellFormed.{opid_fits}
use Rattle.ring_model.specs.Writes.{refused, rotate, rotate_refusal, rotate_step, write, write_entry, write_entry_step, write_refusal, write_txn}
use Rattle.ring_lawful.proofs.Sends.{AllWell, Tells, Well, advance_well, last_fits, well_join}
use Rattle.ring_lawful.proofs.SendsElections.{elect_well}

-- ---- handing over
ack_well : (ring : Layout) (me from : ℕ) (answer : AppendReply) (d : Durable) (s : Soft) → AllWell ring.schema (on_ack ring me d s from answer).plan.messages
unfolding on_ack
ack_well ring me from answer d s = go (nat_lt d.term answer.term) (counts d s answer)
  where
    go : (a b : Bool) → AllWell ring.schema (if a then stepped (action.SetTerm answer.term ∷ []) [] (unknowns s) (demoted s) else (if b then leader_hears ring me d s from answer else idle s)).plan.messages
    go true b = tt
    go false true = advance_well ring.schema ring me d _ [] []
    go false false = tt

hand_well : (schema : Schema) (me : ℕ) (d : Durable) (peers : List Peer) (target : ℕ) → d.term < TERM_END → AllWell schema (hand_over me d peers target)
hand_well schema me d peers target term = go (has_matched peers target (length d.log))
  where
    go : (b : Bool) → AllWell schema (if b then message me target (body.TimeoutNow d.term) ∷ [] else [])
    go true = ((term, tt), tt)
    go false = tt

after_well : (schema : Schema) (me : ℕ) (d : Durable) (peers : List Peer) (from : ℕ) (t : Transfer) → d.term < TERM_END
    → AllWell schema (after_ok me d peers from t)
after_well schema me d peers from transfer.Off term = tt
after_well schema me d peers from (transfer.Mock target round client) term = tt
after_well schema me d peers from (transfer.Handing target client) term = go (target == from)
  where
    go : (b : Bool) → AllWell schema (if b then hand_over me d peers target else [])
    go true = hand_well schema me d peers target term
    go false = tt

pub answered_well : (ring : Layout) (me from : ℕ) (answer : AppendReply) (d : Durable) (s : Soft) → d.term < TERM_END
    → AllWell ring.schema (on_answer ring me d s from answer).plan.messages
unfolding on_answer
answered_well ring me from answer d s term = go (counts d s answer && answer.ok)
  where
    go : (a : Bool) → AllWell ring.schema (if a then with_more (on_ack ring me d s from answer) (after_ok me d (on_ack ring me d s from answer).soft.peers from s.transfer) else on_ack ring me d s from answer).plan.messages
    go true =
        well_join ring.schema (on_ack ring me d s from answer).plan.messages (after_ok me d (on_ack ring me d s from answer).soft.peers from s.transfer)
        (ack_well ring me from answer d s) (after_well ring.schema me d _ from s.transfer term)
    go false = ack_well ring me from answer d s

pub write_well : (ring : Layout) (me client : ℕ) (changes : List Change) (d : Durable) (s : Soft)
    → AllWell ring.schema (write ring me d s client changes).plan.messages
unfolding write
write_well ring me client changes d s = go (write_refusal ring me d s changes)
  where
    go : (r : Option Cause) → Well ring (elim r [ Some r ↦ refused s client r | None ↦ write_entry_step ring me d s client (write_txn ring me d changes) (write_entry ring me d changes) ])
    go (Some r) = tt
    go None = advance_well ring.schema ring me d _ _ []

pub rotate_well : (ring : Layout) (me client : ℕ) (d : Durable) (s : Soft) → AllWell ring.schema (rotate ring me d s client).plan.messages
unfolding rotate
rotate_well ring me client d s = go (rotate_refusal ring me d s)
  where
    go : (r : Option Cause) → Well ring (elim r [ Some r ↦ refused s client r | None ↦ rotate_step ring me d s client (own_entry ring me d payload.Rotate) ])
    go (Some r) = tt
    go None = advance_well ring.schema ring me d _ _ _

pub transfer_well : (ring : Layout) (me client target : ℕ) (d : Durable) (s : Soft) → Tells ring d s
    → AllWell ring.schema (ask_transfer ring me d s client target).plan.messages
unfolding ask_transfer
transfer_well ring me client target d s x = go (transfer_refusal ring me s target)
  where
    go : (r : Option Cause) → Well ring (elim r [ Some r ↦ refused s client r | None ↦ begin_round me d s client target ])
    go (Some r) = tt
    go None = (((x.sized.term, last_fits ring d s x), tt), tt)

pub cancel_well : (schema : Schema) (client : ℕ) (s : Soft) → AllWell schema (cancel s client).plan.messages
unfolding cancel
cancel_well schema client s = go (is_off s.transfer)
  where
    go : (b : Bool) → AllWell schema (if b then idle s else stepped [] [] (record { client = client; what = what.Cancelled } ∷ []) (record s { transfer = transfer.Off })).plan.messages
    go true = tt
    go false = tt

mock_requests_well : (schema : Schema) (me term round : ℕ) (asked : Opid) (members : List Member) → term < TERM_END → opid_fits asked ≡ true
    → AllWell schema (mock_requests me term round asked members)
mock_requests_well schema me term round asked [] fits last = tt
mock_requests_well schema me term round asked (m ∷ members) fits last = go (m.id == me) refl (is_voter m.kind) refl (mock_requests_well schema me term round asked members fits last)
  where
    go : (a : Bool) → (m.id == me) ≡ a → (b : Bool) → is_voter m.kind ≡ b → AllWell schema (mock_requests me term round asked members)
        → AllWell schema (mock_requests me term round asked (m ∷ members))
    go true x b y rest = rw x rest
    go false x true y rest = rw (x, y) (((fits, last), tt), rest)
    go false x false y rest = rw (x, y) rest

pub start_well : (ring : Layout) (me from : ℕ) (sent : MockStart) (d : Durable) (s : Soft) → sent.term < TERM_END → opid_fits sent.last ≡ true
    → AllWell ring.schema (on_mock_start ring me d s from sent).plan.messages
unfolding on_mock_start
start_well ring me from sent d s fits last = go (sent.term == d.term && votes ring me && is_follower s.role && not (is_old_round s.mock from sent.round))
  where
    opens : (o : Option Bool) → AllWell ring.schema (elim o [ Some ok ↦ mock_result me from sent.term sent.round ok ∷ [] | None ↦ mock_requests me sent.term sent.round sent.last ring.members ])
    opens (Some ok) = ((fits, tt), tt)
    opens None = mock_requests_well ring.schema me sent.term sent.round sent.last ring.members fits last

    go : (b : Bool) → AllWell ring.schema (if b then begin_mock ring me d s from sent else idle s).plan.messages
    go true = opens (verdict ring from me (own_passed me d sent) (own_failed me d sent))
    go false = tt

pub asked_well : (ring : Layout) (me from : ℕ) (sent : MockRequest) (d : Durable) (s : Soft) → d.term < TERM_END
    → AllWell ring.schema (on_mock_request ring me d s from sent).plan.messages
unfolding on_mock_request
asked_well ring me from sent d s term = go (sent.term == d.term && votes ring me)
  where
    go : (b : Bool) → AllWell ring.schema (if b then stepped [] (message me from (body.MockReply (record { term = d.term; round = sent.round; ok = passes d sent.last })) ∷ []) [] s else idle s).plan.messages
    go true = ((term, tt), tt)
    go false = tt

deciding_well : (schema : Schema) (me leader term round : ℕ) (a b : Option Bool) → term < TERM_END → AllWell schema (deciding me leader term round a b)
deciding_well schema me leader term round (Some x) b fits = tt
deciding_well schema me leader term round None None fits = tt
deciding_well schema me leader term round None (Some ok) fits = ((fits, tt), tt)

heard_well : (ring : Layout) (me from : ℕ) (answer : MockReply) (d : Durable) (s : Soft) (m : Mock) → d.term < TERM_END
    → AllWell ring.schema (mock_hears ring me d s from answer m).plan.messages
heard_well ring me from answer d s mock.Off term = tt
heard_well ring me from answer d s (mock.On leader round asked passed failed) term = go (answer.term == d.term && answer.round == round)
  where
    count : (a b : Bool) → AllWell ring.schema (if a then idle s
        else (if b then with_answer ring me d s leader answer.round asked passed failed (passed ++ from ∷ []) failed else with_answer ring me d s leader answer.round asked passed failed passed (failed ++ from ∷ []))).plan.messages
    count true b = tt
    count false true =
        deciding_well ring.schema me leader d.term answer.round (verdict ring leader me passed failed)
        (verdict ring leader me (passed ++ from ∷ []) failed) term
    count false false =
        deciding_well ring.schema me leader d.term answer.round (verdict ring leader me passed failed)
        (verdict ring leader me passed (failed ++ from ∷ [])) term

    go : (b : Bool) → AllWell ring.schema (if b then count_answer ring me d s from answer leader asked passed failed else idle s).plan.messages
    go true = count (is_listed passed from || is_listed failed from) answer.ok
    go false = tt

pub mock_reply_well : (ring : Layout) (me from : ℕ) (answer : MockReply) (d : Durable) (s : Soft) → d.term < TERM_END
    → AllWell ring.schema (on_mock_reply ring me d s from answer).plan.messages
unfolding on_mock_reply
mock_reply_well ring me from answer d s term = heard_well ring me from answer d s s.mock term

transfer_heard : (schema : Schema) (me : ℕ) (d : Durable) (s : Soft) (sent : MockResult) (t : Transfer) → d.term < TERM_END
    → AllWell schema (transfer_hears me d s sent t).plan.messages
transfer_heard schema me d s sent transfer.Off term = tt
transfer_heard schema me d s sent (transfer.Handing target client) term = tt
transfer_heard schema me d s sent (transfer.Mock target round client) term = go (sent.term == d.term && sent.round == round) sent.ok
  where
    go : (b ok : Bool) → AllWell schema (if b then result_heard me d s ok target client else idle s).plan.messages
    go true true = hand_well schema me d s.peers target term
    go true false = tt
    go false ok = tt

pub mock_result_well : (schema : Schema) (me : ℕ) (sent : MockResult) (d : Durable) (s : Soft) → d.term < TERM_END
    → AllWell schema (on_mock_result me d s sent).plan.messages
unfolding on_mock_result
mock_result_well schema me sent d s term = transfer_heard schema me d s sent s.transfer term

pub timeout_well : (ring : Layout) (me : ℕ) (d : Durable) (s : Soft) (term : ℕ) → Tells ring d s
    → AllWell ring.schema (on_timeout ring me d s term).plan.messages
unfolding on_timeout
timeout_well ring me d s term x = go (term == d.term && votes ring me && not (is_leader s.role))
  where
    go : (b : Bool) → AllWell ring.schema (if b then elect ring me d s else idle s).plan.messages
    go true = elect_well ring me d s x
    go false = tt
