use Rattle.std.proofs.Common.{◌≡◌, List, ◌∙◌, sym, ap, arith}
use Rattle.ring_types.specs.declared.entries.Entry.{Entry}
use Rattle.ring_types.specs.declared.entries.Grant.{Grant}
use Rattle.commit_pipeline.specs.Advances.{part_after}
use Rattle.commit_pipeline.proofs.Counting.{same_told}
use Rattle.election_core.specs.Bids.{counts, election}
use Rattle.election_core.proofs.Bidding.{leds_on, may_lead}
use Rattle.election_core.proofs.Replying.{adopts, counted, ignores, is_less, is_not_less, passes, role_of}
use Rattle.election_core.proofs.replies.on_reply.Goals as goal

pub returns-then-is_deaf-clause-told : goal.returns-then-is_deaf-clause-told
returns-then-is_deaf-clause-told g c =
    let here = c.args.here in
    ignores (g.V.LogView.sees here.view.now).log here c.args.soft.now c.args.from c.args.reply.now c.idle.result (sym c.is_deaf.ensures ∙ c.if-is_deaf.true) c.idle.ensures

pub returns-then-term-reply-clause-told : goal.returns-then-term-reply-clause-told
returns-then-term-reply-clause-told g c =
    let here = c.args.here in
    adopts (g.V.LogView.sees here.view.now).log here c.args.soft.now c.demote.new.soft c.args.from c.args.reply.now c.in-Ok.plan (sym c.is_deaf.ensures ∙ c.if-is_deaf.false) (is_less here.term c.args.reply.now.term c.if-term-reply.true) c.in-Ok.ensures c.demote.ensures

pub lead_or_ask-requires-clause-may_lead : goal.lead_or_ask-requires-clause-may_lead
lead_or_ask-requires-clause-may_lead g c =
    let v = g.V.LogView in
    let here = c.args.here in
    let node = c.requires.node in
    let low = node.candidate_short (role_of c.is_deaf.result c.args.soft.now.role c.is_deaf.ensures c.if-is_deaf.false) in
    may_lead v.stands v.sees here.view.now c.last.new.view _ c.in_ok-base.ensures.keeps.same c.in_ok-base.ensures.keeps.still_stands
    node.home (omega arith) node.applied_below node.commit_inside node.whole (leds_on (v.sees here.view.now).log here c.args.soft.now here.term node.told (omega arith))

pub returns-then-counts-clause-told : goal.returns-then-counts-clause-told
returns-then-counts-clause-told g c =
    let v = g.V.LogView in
    let here = c.args.here in
    let term = here.term in
    counted (v.sees here.view.now).log here c.args.soft.now c.settle.new.soft c.args.from c.args.reply.now c.as_slice-pairs.result.now c.as_slice-pending.result.now c.in-Ok-next_bid.bid c.in_ok-election.election c.settle.result
    (sym c.is_deaf.ensures ∙ c.if-is_deaf.false) (is_not_less term c.args.reply.now.term c.if-term-reply.false)
    (ap (λ (gs : List Grant). counts term gs c.args.from c.args.reply.now) (sym c.as_slice.ensures) ∙ (sym c.counts.ensures ∙ c.if-counts.true))
    (c.as_slice-pairs.ensures ∙ c.pairs.ensures) c.as_slice-pending.ensures c.in-Ok-next_bid.ensures
    (same_told (v.sees c.last.new.view) (v.sees here.view.now)
    (λ (log : List Entry). c.in_ok-election.election ≡ election here.ring.now here.me (part_after term log here.applied c.as_slice-pairs.result.now) c.args.soft.now.commit c.as_slice-pending.result.now c.in-Ok-next_bid.bid)
    c.in_ok-base.ensures.keeps.same c.in_ok-election.ensures.told)
    c.settle.ensures.plan c.settle.ensures.soft

pub returns-clause-told : goal.returns-clause-told
returns-clause-told g c =
    let here = c.args.here in
    let term = here.term in
    passes (g.V.LogView.sees here.view.now).log here c.args.soft.now c.args.from c.args.reply.now c.idle-2.result
    (sym c.is_deaf.ensures ∙ c.if-is_deaf.false) (is_not_less term c.args.reply.now.term c.if-term-reply.false)
    (ap (λ (gs : List Grant). counts term gs c.args.from c.args.reply.now) (sym c.as_slice.ensures) ∙ (sym c.counts.ensures ∙ c.if-counts.false)) c.idle-2.ensures
