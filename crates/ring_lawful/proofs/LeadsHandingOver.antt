-- Handing over changes a transfer and a mock alone, and its target passed the test of a transfer when it was begun.
use Rattle.std.proofs.Common.{◌≡◌, ℕ, ◌≤◌, ◌==◌, ◌&&◌, ◌||◌, [], ◌∷◌, ◌++◌, ◌∙◌, if◌then◌else◌, Bool, List, None, Option, Some, false, length, not, refl, suc, sym, true}
use Rattle.std.specs.Prelude.{nat_le}
use Rattle.ring_types.specs.declared.entries.Entry.{Entry}
use Rattle.ring_types.specs.declared.entries.Opid.{Opid}
use Rattle.ring_types.specs.Rings.{Layout, is_member, votes}
use Rattle.ring_model.specs.declared.effects.Cause.{Cause}
use Rattle.ring_model.specs.declared.effects.Cause.TheVariants as cause
use Rattle.ring_model.specs.declared.effects.What.TheVariants as what
use Rattle.ring_model.specs.declared.messages.Body.TheVariants as body
use Rattle.ring_model.specs.declared.messages.MockReply.{MockReply}
use Rattle.ring_model.specs.declared.messages.MockRequest.{MockRequest}
use Rattle.ring_model.specs.declared.messages.MockResult.{MockResult}
use Rattle.ring_model.specs.declared.messages.MockStart.{MockStart}
use Rattle.ring_model.specs.declared.messages.ProxyAppend.{ProxyAppend}
use Rattle.ring_model.specs.declared.nodes.Durable.{Durable}
use Rattle.ring_model.specs.declared.nodes.Mock.{Mock}
use Rattle.ring_model.specs.declared.nodes.Mock.TheVariants as mock
use Rattle.ring_model.specs.declared.nodes.Soft.{Soft}
use Rattle.ring_model.specs.declared.nodes.Transfer.{Transfer}
use Rattle.ring_model.specs.declared.nodes.Transfer.TheVariants as transfer
use Rattle.ring_model.specs.Dispatch.{is_other}
use Rattle.ring_model.specs.Nodes.{MockFits, TransferFits, is_follower, is_leader, is_ready}
use Rattle.ring_model.specs.Quorums.{is_listed}
use Rattle.ring_model.specs.Replication.{relay}
use Rattle.ring_model.specs.Elections.{elect}
use Rattle.ring_model.specs.Steps.{idle, message, stepped}
use Rattle.ring_model.specs.Transfers.{ask_transfer, begin_mock, begin_round, cancel, count_answer, is_off, is_old_round, mock_hears, on_mock_reply, on_mock_request, on_mock_result, on_mock_start, on_timeout, own_failed, own_passed, passes, result_heard, round_limit, transfer_hears, transfer_refusal, with_answer}
use Rattle.ring_model.specs.Writes.{refused}
use Rattle.ring_types.proofs.Booleans.{both_true}
use Rattle.ring_lawful.proofs.Leads.{SoftFits, SoftStep}
use Rattle.ring_lawful.proofs.LeadsElections.{elect_soft}

-- ---- handing over
with_transfer : (ring : Layout) (me : ℕ) (log : List Entry) (s : Soft) (t : Transfer) (rounds : ℕ) → SoftFits ring me log s → TransferFits ring me t
    → (is_leader s.role ≡ false → t ≡ transfer.Off) → SoftFits ring me log (record s { rounds = rounds; transfer = t })
with_transfer ring me log s t rounds x fits alone = record {
  learner = x.learner;
  alone = λ is. ((x.alone is).0, alone is);
  leads = λ is. (let l = x.leads is in record { votes = l.votes; others = l.others; silent = l.silent; low = l.low; inside = l.inside; ends = l.ends; waits = l.waits });
  rises = x.rises;
  transfer = fits;
  mock = x.mock;
}

with_mock : (ring : Layout) (me : ℕ) (log : List Entry) (s : Soft) (m : Mock) → SoftFits ring me log s → MockFits ring me m
    → SoftFits ring me log (record s { mock = m })
with_mock ring me log s m x fits = record {
  learner = x.learner;
  alone = x.alone;
  leads = λ is. (let l = x.leads is in record { votes = l.votes; others = l.others; silent = l.silent; low = l.low; inside = l.inside; ends = l.ends; waits = l.waits });
  rises = x.rises;
  transfer = x.transfer;
  mock = fits;
}

record MayMove (ring : Layout) (me : ℕ) (s : Soft) (target : ℕ) : Type 0 where
  leads : is_leader s.role ≡ true
  other : (target == me) ≡ false
  voter : votes ring target ≡ true

may_move : (ring : Layout) (me : ℕ) (s : Soft) (target : ℕ) → transfer_refusal ring me s target ≡ None → MayMove ring me s target
unfolding transfer_refusal
may_move ring me s target is = go (is_leader s.role) refl (is_ready s) (is_off s.transfer) (nat_le round_limit s.rounds) (target == me) refl (votes ring target) refl is
  where
    go : (a : Bool) → is_leader s.role ≡ a → (b c e : Bool) (f : Bool) → (target == me) ≡ f → (g : Bool) → votes ring target ≡ g
        → (if not a then Some cause.NotLeader else (if not b then Some cause.NotReady else (if not c then Some cause.Transferring else (if e then Some cause.Exhausted else (if f || not g then Some cause.BadTarget else None))))) ≡ None → MayMove ring me s target
    go false x b c e f y g z is = absurd cc
    go true x false c e f y g z is = absurd cc
    go true x true false e f y g z is = absurd cc
    go true x true true true f y g z is = absurd cc
    go true x true true false true y g z is = absurd cc
    go true x true true false false y false z is = absurd cc
    go true x true true false false y true z is = record { leads = x; other = y; voter = z }

pub transfer_soft : (ring : Layout) (me client target : ℕ) (d : Durable) (s : Soft) → SoftFits ring me d.log s
    → SoftStep ring me d (ask_transfer ring me d s client target)
unfolding ask_transfer
transfer_soft ring me client target d s x = go (transfer_refusal ring me s target) refl
  where
    go : (c : Option Cause) → transfer_refusal ring me s target ≡ c
        → SoftStep ring me d (elim c [ Some c ↦ refused s client c | None ↦ begin_round me d s client target ])
    go (Some c) is = x
    go None is =
        let m = may_move ring me s target is in
        with_transfer ring me d.log s (transfer.Mock target (suc s.rounds) client) (suc s.rounds) x (m.other, m.voter)
        (λ bad. absurd (let l = m.leads in let z : true ≡ false = sym l ∙ bad in cc))

pub cancel_soft : (ring : Layout) (me client : ℕ) (d : Durable) (s : Soft) → SoftFits ring me d.log s → SoftStep ring me d (cancel s client)
unfolding cancel
cancel_soft ring me client d s x = go (is_off s.transfer)
  where
    go : (b : Bool) → SoftStep ring me d (if b then idle s else stepped [] [] (record { client = client; what = what.Cancelled } ∷ []) (record s { transfer = transfer.Off }))
    go true = x
    go false = with_transfer ring me d.log s transfer.Off s.rounds x tt (λ is. refl)

pub start_soft : (ring : Layout) (me from : ℕ) (sent : MockStart) (d : Durable) (s : Soft) → SoftFits ring me d.log s → is_other ring me from ≡ true
    → SoftStep ring me d (on_mock_start ring me d s from sent)
unfolding on_mock_start
start_soft ring me from sent d s x other = go (sent.term == d.term && votes ring me && is_follower s.role && not (is_old_round s.mock from sent.round))
  where
    fits : ((from == me) ≡ false) × (is_member ring from ≡ true)
    fits = let z = both_true (is_member ring from) (not (from == me)) other in (flip (from == me) z.1, z.0)
      where
        flip : (b : Bool) → not b ≡ true → b ≡ false
        flip false is = refl
        flip true is = absurd (let z : false ≡ true = is in cc)

    go : (b : Bool) → SoftStep ring me d (if b then begin_mock ring me d s from sent else idle s)
    go true = with_mock ring me d.log s (mock.On from sent.round sent.last (own_passed me d sent) (own_failed me d sent)) x fits
    go false = x

pub asked_soft : (ring : Layout) (me from : ℕ) (sent : MockRequest) (d : Durable) (s : Soft) → SoftFits ring me d.log s
    → SoftStep ring me d (on_mock_request ring me d s from sent)
unfolding on_mock_request
asked_soft ring me from sent d s x = go (sent.term == d.term && votes ring me)
  where
    go : (b : Bool) → SoftStep ring me d (if b then stepped [] (message me from (body.MockReply (record { term = d.term; round = sent.round; ok = passes d sent.last })) ∷ []) [] s else idle s)
    go true = x
    go false = x

count_soft : (ring : Layout) (me from : ℕ) (answer : MockReply) (d : Durable) (s : Soft) (leader : ℕ) (asked : Opid) (passed failed : List ℕ)
    → SoftFits ring me d.log s → ((leader == me) ≡ false) × (is_member ring leader ≡ true)
    → SoftStep ring me d (count_answer ring me d s from answer leader asked passed failed)
count_soft ring me from answer d s leader asked passed failed x fits = go (is_listed passed from || is_listed failed from) answer.ok
  where
    go : (a b : Bool) → SoftStep ring me d (if a then idle s
        else (if b then with_answer ring me d s leader answer.round asked passed failed (passed ++ from ∷ []) failed else with_answer ring me d s leader answer.round asked passed failed passed (failed ++ from ∷ [])))
    go true b = x
    go false true = with_mock ring me d.log s (mock.On leader answer.round asked (passed ++ from ∷ []) failed) x fits
    go false false = with_mock ring me d.log s (mock.On leader answer.round asked passed (failed ++ from ∷ [])) x fits

heard_soft : (ring : Layout) (me from : ℕ) (answer : MockReply) (d : Durable) (s : Soft) (m : Mock) → SoftFits ring me d.log s → MockFits ring me m
    → SoftStep ring me d (mock_hears ring me d s from answer m)
heard_soft ring me from answer d s mock.Off x fits = x
heard_soft ring me from answer d s (mock.On leader round asked passed failed) x fits = go (answer.term == d.term && answer.round == round)
  where
    go : (b : Bool) → SoftStep ring me d (if b then count_answer ring me d s from answer leader asked passed failed else idle s)
    go true = count_soft ring me from answer d s leader asked passed failed x fits
    go false = x

pub mock_reply_soft : (ring : Layout) (me from : ℕ) (answer : MockReply) (d : Durable) (s : Soft) → SoftFits ring me d.log s
    → SoftStep ring me d (on_mock_reply ring me d s from answer)
unfolding on_mock_reply
mock_reply_soft ring me from answer d s x = heard_soft ring me from answer d s s.mock x x.mock

transfer_heard : (ring : Layout) (me : ℕ) (d : Durable) (s : Soft) (sent : MockResult) (t : Transfer) → s.transfer ≡ t → SoftFits ring me d.log s
    → TransferFits ring me t → SoftStep ring me d (transfer_hears me d s sent t)
transfer_heard ring me d s sent transfer.Off is x fits = x
transfer_heard ring me d s sent (transfer.Handing target client) is x fits = x
transfer_heard ring me d s sent (transfer.Mock target round client) is x fits = go (sent.term == d.term && sent.round == round) sent.ok
  where
    go : (b ok : Bool) → SoftStep ring me d (if b then result_heard me d s ok target client else idle s)
    go true true =
        with_transfer ring me d.log s (transfer.Handing target client) s.rounds x fits
        (λ led. absurd (let z : transfer.Mock target round client ≡ transfer.Off = sym is ∙ (x.alone led).1 in cc))
    go true false = with_transfer ring me d.log s transfer.Off s.rounds x tt (λ led. refl)
    go false ok = x

pub mock_result_soft : (ring : Layout) (me : ℕ) (sent : MockResult) (d : Durable) (s : Soft) → SoftFits ring me d.log s
    → SoftStep ring me d (on_mock_result me d s sent)
unfolding on_mock_result
mock_result_soft ring me sent d s x = transfer_heard ring me d s sent s.transfer refl x x.transfer

pub timeout_soft : (ring : Layout) (me : ℕ) (d : Durable) (s : Soft) (term : ℕ) → SoftFits ring me d.log s → s.commit ≤ length d.log
    → SoftStep ring me d (on_timeout ring me d s term)
unfolding on_timeout
timeout_soft ring me d s term x inside = go (term == d.term && votes ring me && not (is_leader s.role))
  where
    go : (b : Bool) → SoftStep ring me d (if b then elect ring me d s else idle s)
    go true = elect_soft ring me d s x inside
    go false = x

pub relay_soft : (ring : Layout) (me from : ℕ) (sent : ProxyAppend) (d : Durable) (s : Soft) → SoftFits ring me d.log s
    → SoftStep ring me d (relay me d s from sent)
unfolding relay
relay_soft ring me from sent d s x = x
