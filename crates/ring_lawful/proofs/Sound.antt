-- Each rule keeps the limits of a node, and a durable part that keeps order, limits and pairs is sound.
use Rattle.std.proofs.Common.{◌≡◌, ℕ, ◌<◌, ◌==◌, ◌&&◌, ◌||◌, [], ◌∷◌, ◌++◌, if◌then◌else◌, Bool, List, None, Option, Some, arith, false, length, not, refl, suc, true, zero}
use Rattle.std.proofs.lemmas.Bool.Decides.{nat_tests}
use Rattle.std.specs.Prelude.{nat_le, nat_lt}
use Rattle.std.specs.List.{list_all}
use Rattle.ring_types.specs.declared.limits.TheConstants.{TERM_END}
use Rattle.ring_types.specs.declared.entries.Entry.{Entry}
use Rattle.ring_types.specs.declared.entries.Opid.{Opid}
use Rattle.ring_types.specs.declared.members.Member.{Member}
use Rattle.ring_types.specs.Rings.{Layout, is_voter, votes}
use Rattle.ring_types.specs.Sizes.{group_bytes, group_limit}
use Rattle.ring_model.specs.declared.effects.Cause.{Cause}
use Rattle.ring_model.specs.declared.effects.What.TheVariants as what
use Rattle.ring_model.specs.declared.messages.Body.{Body}
use Rattle.ring_model.specs.declared.messages.Body.TheVariants as body
use Rattle.ring_model.specs.declared.messages.MockReply.{MockReply}
use Rattle.ring_model.specs.declared.messages.MockRequest.{MockRequest}
use Rattle.ring_model.specs.declared.messages.MockResult.{MockResult}
use Rattle.ring_model.specs.declared.messages.MockStart.{MockStart}
use Rattle.ring_model.specs.declared.nodes.Durable.{Durable}
use Rattle.ring_model.specs.declared.nodes.Mock.{Mock}
use Rattle.ring_model.specs.declared.nodes.Mock.TheVariants as mock
use Rattle.ring_model.specs.declared.nodes.Peer.{Peer}
use Rattle.ring_model.specs.declared.nodes.Soft.{Soft}
use Rattle.ring_model.specs.declared.nodes.Transfer.{Transfer}
use Rattle.ring_model.specs.declared.nodes.Transfer.TheVariants as transfer
use Rattle.ring_model.specs.Dispatch.{body_step}
use Rattle.ring_model.specs.Elections.{elect}
use Rattle.ring_model.specs.Nodes.{IsSound, is_follower, is_leader}
use Rattle.ring_model.specs.Quorums.{is_listed}
use Rattle.ring_model.specs.Steps.{idle, message, stepped}
use Rattle.ring_model.specs.Transfers.{ask_transfer, begin_mock, begin_round, cancel, count_answer, deciding, hand_over, has_matched, is_off, is_old_round, mock_hears, mock_requests, mock_result, on_mock_reply, on_mock_request, on_mock_result, on_mock_start, on_timeout, opening, own_failed, own_passed, passes, result_heard, transfer_hears, transfer_refusal, verdict, with_answer}
use Rattle.ring_model.specs.Writes.{refused}
use Rattle.ring_model.proofs.Lists.{all_of}
use Rattle.ring_lawful.proofs.Keeps.{KeepsOrder, KeepsPairs}
use Rattle.ring_lawful.proofs.Pairs.{Placed, at_contains, within_some}
use Rattle.ring_lawful.proofs.Sized.{AllFit, BodyFits, Sized, all_weaker, entry_fits, fit_parts, increasing, rotates_is}
use Rattle.ring_lawful.proofs.SizedSteps.{IsShort, Keeps, idle_keeps, quiet_keeps}
use Rattle.ring_lawful.proofs.SizedElections.{elect_keeps, reply_keeps, request_keeps}
use Rattle.ring_lawful.proofs.SizedOwn.{answered_keeps, rotate_keeps, write_keeps}
use Rattle.ring_lawful.proofs.SizedAppends.{append_keeps, relay_keeps}

-- ---- rules whose messages claim nothing
pub transfer_keeps : (ring : Layout) (me client target : ℕ) (d : Durable) (s : Soft) → IsShort d s → Keeps ring d (ask_transfer ring me d s client target)
unfolding ask_transfer
transfer_keeps ring me client target d s short = go (transfer_refusal ring me s target)
  where
    go : (c : Option Cause) → Keeps ring d (elim c [ Some c ↦ refused s client c | None ↦ begin_round me d s client target ])
    go (Some c) = quiet_keeps ring d s s [] _ short refl tt
    go None = quiet_keeps ring d s (record s { rounds = suc s.rounds; transfer = transfer.Mock target (suc s.rounds) client }) _ [] short refl (tt, tt)

pub cancel_keeps : (ring : Layout) (client : ℕ) (d : Durable) (s : Soft) → IsShort d s → Keeps ring d (cancel s client)
unfolding cancel
cancel_keeps ring client d s short = go (is_off s.transfer)
  where
    go : (b : Bool) → Keeps ring d (if b then idle s else stepped [] [] (record { client = client; what = what.Cancelled } ∷ []) (record s { transfer = transfer.Off }))
    go true = idle_keeps ring d s short
    go false = quiet_keeps ring d s (record s { transfer = transfer.Off }) [] _ short refl tt

mock_requests_fit : (ring : Layout) (me term round : ℕ) (asked : Opid) (members : List Member) → AllFit ring (mock_requests me term round asked members)
mock_requests_fit ring me term round asked [] = tt
mock_requests_fit ring me term round asked (m ∷ members) = go (m.id == me) refl (is_voter m.kind) refl (mock_requests_fit ring me term round asked members)
  where
    go : (a : Bool) → (m.id == me) ≡ a → (b : Bool) → is_voter m.kind ≡ b → AllFit ring (mock_requests me term round asked members)
        → AllFit ring (mock_requests me term round asked (m ∷ members))
    go true x b y rest = rw x rest
    go false x true y rest = rw (x, y) (tt, rest)
    go false x false y rest = rw (x, y) rest

opening_fits : (ring : Layout) (me : ℕ) (d : Durable) (from : ℕ) (sent : MockStart) → AllFit ring (opening ring me d from sent)
opening_fits ring me d from sent = go (verdict ring from me (own_passed me d sent) (own_failed me d sent))
  where
    go : (o : Option Bool) → AllFit ring (elim o [ Some ok ↦ mock_result me from sent.term sent.round ok ∷ [] | None ↦ mock_requests me sent.term sent.round sent.last ring.members ])
    go (Some ok) = (tt, tt)
    go None = mock_requests_fit ring me sent.term sent.round sent.last ring.members

start_keeps : (ring : Layout) (me from : ℕ) (sent : MockStart) (d : Durable) (s : Soft) → IsShort d s → Keeps ring d (on_mock_start ring me d s from sent)
unfolding on_mock_start
start_keeps ring me from sent d s short = go (sent.term == d.term && votes ring me && is_follower s.role && not (is_old_round s.mock from sent.round))
  where
    go : (b : Bool) → Keeps ring d (if b then begin_mock ring me d s from sent else idle s)
    go true = quiet_keeps ring d s (begin_mock ring me d s from sent).soft (opening ring me d from sent) [] short refl (opening_fits ring me d from sent)
    go false = idle_keeps ring d s short

asked_keeps : (ring : Layout) (me from : ℕ) (sent : MockRequest) (d : Durable) (s : Soft) → IsShort d s → Keeps ring d (on_mock_request ring me d s from sent)
unfolding on_mock_request
asked_keeps ring me from sent d s short = go (sent.term == d.term && votes ring me)
  where
    go : (b : Bool) → Keeps ring d (if b then stepped [] (message me from (body.MockReply (record { term = d.term; round = sent.round; ok = passes d sent.last })) ∷ []) [] s else idle s)
    go true = quiet_keeps ring d s s _ [] short refl (tt, tt)
    go false = idle_keeps ring d s short

deciding_fits : (ring : Layout) (me leader term round : ℕ) (a b : Option Bool) → AllFit ring (deciding me leader term round a b)
deciding_fits ring me leader term round (Some x) b = tt
deciding_fits ring me leader term round None None = tt
deciding_fits ring me leader term round None (Some ok) = (tt, tt)

count_keeps : (ring : Layout) (me from : ℕ) (answer : MockReply) (d : Durable) (s : Soft) (leader : ℕ) (asked : Opid) (passed failed : List ℕ) → IsShort d s
    → Keeps ring d (count_answer ring me d s from answer leader asked passed failed)
count_keeps ring me from answer d s leader asked passed failed short = go (is_listed passed from || is_listed failed from) answer.ok
  where
    with_keeps : (more_passed more_failed : List ℕ) → Keeps ring d (with_answer ring me d s leader answer.round asked passed failed more_passed more_failed)
    with_keeps more_passed more_failed = quiet_keeps ring d s (record s { mock = mock.On leader answer.round asked more_passed more_failed }) _ [] short refl
        (deciding_fits ring me leader d.term answer.round (verdict ring leader me passed failed) (verdict ring leader me more_passed more_failed))

    go : (a b : Bool) → Keeps ring d (if a then idle s
        else (if b then with_answer ring me d s leader answer.round asked passed failed (passed ++ from ∷ []) failed else with_answer ring me d s leader answer.round asked passed failed passed (failed ++ from ∷ [])))
    go true b = idle_keeps ring d s short
    go false true = with_keeps (passed ++ from ∷ []) failed
    go false false = with_keeps passed (failed ++ from ∷ [])

heard_keeps : (ring : Layout) (me from : ℕ) (answer : MockReply) (d : Durable) (s : Soft) (m : Mock) → IsShort d s
    → Keeps ring d (mock_hears ring me d s from answer m)
heard_keeps ring me from answer d s mock.Off short = idle_keeps ring d s short
heard_keeps ring me from answer d s (mock.On leader round asked passed failed) short = go (answer.term == d.term && answer.round == round)
  where
    go : (b : Bool) → Keeps ring d (if b then count_answer ring me d s from answer leader asked passed failed else idle s)
    go true = count_keeps ring me from answer d s leader asked passed failed short
    go false = idle_keeps ring d s short

mock_reply_keeps : (ring : Layout) (me from : ℕ) (answer : MockReply) (d : Durable) (s : Soft) → IsShort d s
    → Keeps ring d (on_mock_reply ring me d s from answer)
unfolding on_mock_reply
mock_reply_keeps ring me from answer d s short = heard_keeps ring me from answer d s s.mock short

hand_fits : (ring : Layout) (me : ℕ) (d : Durable) (peers : List Peer) (target : ℕ) → AllFit ring (hand_over me d peers target)
hand_fits ring me d peers target = go (has_matched peers target (length d.log))
  where
    go : (b : Bool) → AllFit ring (if b then message me target (body.TimeoutNow d.term) ∷ [] else [])
    go true = (tt, tt)
    go false = tt

result_keeps : (ring : Layout) (me : ℕ) (d : Durable) (s : Soft) (ok : Bool) (target client : ℕ) → IsShort d s
    → Keeps ring d (result_heard me d s ok target client)
result_keeps ring me d s true target client short =
    quiet_keeps ring d s (record s { transfer = transfer.Handing target client }) _ _ short refl (hand_fits ring me d s.peers target)
result_keeps ring me d s false target client short = quiet_keeps ring d s (record s { transfer = transfer.Off }) [] _ short refl tt

transfer_heard : (ring : Layout) (me : ℕ) (d : Durable) (s : Soft) (sent : MockResult) (t : Transfer) → IsShort d s
    → Keeps ring d (transfer_hears me d s sent t)
transfer_heard ring me d s sent transfer.Off short = idle_keeps ring d s short
transfer_heard ring me d s sent (transfer.Handing target client) short = idle_keeps ring d s short
transfer_heard ring me d s sent (transfer.Mock target round client) short = go (sent.term == d.term && sent.round == round)
  where
    go : (b : Bool) → Keeps ring d (if b then result_heard me d s sent.ok target client else idle s)
    go true = result_keeps ring me d s sent.ok target client short
    go false = idle_keeps ring d s short

mock_result_keeps : (ring : Layout) (me : ℕ) (sent : MockResult) (d : Durable) (s : Soft) → IsShort d s → Keeps ring d (on_mock_result me d s sent)
unfolding on_mock_result
mock_result_keeps ring me sent d s short = transfer_heard ring me d s sent s.transfer short

timeout_keeps : (ring : Layout) (me : ℕ) (d : Durable) (s : Soft) (term : ℕ) → Sized ring d → IsShort d s → Keeps ring d (on_timeout ring me d s term)
unfolding on_timeout
timeout_keeps ring me d s term x short = go (term == d.term && votes ring me && not (is_leader s.role))
  where
    go : (b : Bool) → Keeps ring d (if b then elect ring me d s else idle s)
    go true = elect_keeps ring me d s x short
    go false = idle_keeps ring d s short

-- ---- any input
pub body_keeps : (ring : Layout) (me from : ℕ) (d : Durable) (s : Soft) (b : Body) → Sized ring d → IsShort d s → BodyFits ring b
    → Keeps ring d (body_step ring me d s from b)
body_keeps ring me from d s (body.RequestVote asked) x short f = request_keeps ring me from asked d s x short f
body_keeps ring me from d s (body.VoteReply reply) x short f = reply_keeps ring me from reply d s x short f
body_keeps ring me from d s (body.Append sent) x short f = append_keeps ring me sent d s x short f.0 f.1
body_keeps ring me from d s (body.AppendReply answer) x short f = answered_keeps ring me from answer d s x short f
body_keeps ring me from d s (body.ProxyAppend sent) x short f = relay_keeps ring me from sent d s x short f
body_keeps ring me from d s (body.MockStart sent) x short f = start_keeps ring me from sent d s short
body_keeps ring me from d s (body.MockRequest sent) x short f = asked_keeps ring me from sent d s short
body_keeps ring me from d s (body.MockReply sent) x short f = mock_reply_keeps ring me from sent d s short
body_keeps ring me from d s (body.MockResult sent) x short f = mock_result_keeps ring me sent d s short
body_keeps ring me from d s (body.TimeoutNow term) x short f = timeout_keeps ring me d s term x short
body_keeps ring me from d s (body.ClientWrite changes) x short f = write_keeps ring me from changes d s f x short
body_keeps ring me from d s body.ClientRotate x short f = rotate_keeps ring me from d s x short
body_keeps ring me from d s (body.ClientTransfer target) x short f = transfer_keeps ring me from target d s short
body_keeps ring me from d s body.ClientCancel x short f = cancel_keeps ring from d s short
body_keeps ring me from d s (body.ClientReply what) x short f = idle_keeps ring d s short

-- the last entry's position is the length
pub short_log : (ring : Layout) (log : List Entry) → Placed log → list_all (entry_fits ring) log ≡ true → length log < TERM_END
short_log ring log placed fit = go (length log) refl
  where
    go : (n : ℕ) → length log ≡ n → length log < TERM_END
    go zero is = omega (arith, is)
    go (suc k) is =
        let e = within_some log k (omega (arith, is)) in
        let g = (fit_parts ring e.0 (all_of (entry_fits ring) log e.0 fit (at_contains log (suc k) e.0 e.1))).1 in
        let p = placed (suc k) e.0 e.1 in
        let q : suc k < TERM_END = near e.0.opid.position (suc k) g p in
        omega (arith, is, q)
      where
        near : (a b : ℕ) → nat_lt a TERM_END ≡ true → a ≡ b → b < TERM_END
        near a b x y = grind (arith, nat_tests, x, y)

-- a durable part that keeps its order, its limits and its pairs is sound
pub sound_from : (ring : Layout) (id : ℕ) (d : Durable) → KeepsOrder d → Sized ring d → KeepsPairs ring id d → IsSound ring id d
sound_from ring id d o x p =
    let f = x.files in
    let q = rotates_is d.log in
    record {
      log = record { placed = o.placed; rises = o.rises; short = short_log ring d.log o.placed x.entries; few_files = omega (arith, f, q) };
      groups_fit = all_weaker (entry_fits ring) (λ (e : Entry). nat_le (group_bytes ring.schema e.payload) group_limit) d.log
          (λ e is. (fit_parts ring e is).0) x.entries;
      few_votes = x.few;
      votes_rise = increasing d.votes x.rise;
      votes_below = x.below;
      term_fits = x.term;
      log_below = o.log_below;
      applied_inside = o.applied_inside;
      pairs_in_order = p.pairs_in_order;
      tailer = p.tailer;
    }
