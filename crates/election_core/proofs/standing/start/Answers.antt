use Rattle.std.proofs.Common.{◌≡◌, ◌+◌, List, ◌∙◌, sym, arith}
use Rattle.ring_types.specs.declared.entries.Entry.{Entry}
use Rattle.ring_types.specs.Logs.{last, term_at}
use Rattle.commit_pipeline.specs.Advances.{part_after}
use Rattle.commit_pipeline.proofs.Counting.{same_told}
use Rattle.election_core.specs.Bids.{election}
use Rattle.election_core.proofs.Bidding.{leds_on, may_lead}
use Rattle.election_core.proofs.Electing.{idles, stands}
use Rattle.election_core.proofs.standing.start.Goals as goal

pub lead_or_ask-requires-clause-may_lead : goal.lead_or_ask-requires-clause-may_lead
lead_or_ask-requires-clause-may_lead g c =
    let v = g.V.LogView in
    let here = c.args.here in
    let node = c.requires.node in
    let low = c.may_elect.ensures.length c.if-may_elect.true in
    let at = c.in_ok-base.ensures.position in
    may_lead v.stands v.sees here.view.now c.term_at.new.view _ (c.in_ok-floor.ensures.keeps.same ∙ c.in_ok-base.ensures.keeps.same) c.in_ok-floor.ensures.keeps.still_stands
    node.home (omega arith) node.applied_below node.commit_inside node.whole (leds_on (v.sees here.view.now).log here c.args.soft.now (here.term + 1) node.told (omega arith))

pub lead_or_ask-requires-clause-last : goal.lead_or_ask-requires-clause-last
lead_or_ask-requires-clause-last g c =
    let v = g.V.LogView in
    same_told (v.sees c.args.here.view.now) (v.sees c.term_at.new.view) (λ (log : List Entry). c.in_ok-base.base ≡ last log) (sym (c.in_ok-floor.ensures.keeps.same ∙ c.in_ok-base.ensures.keeps.same)) c.in_ok-base.ensures.told

pub returns-then-may_elect-clause-told : goal.returns-then-may_elect-clause-told
returns-then-may_elect-clause-told g c =
    let v = g.V.LogView in
    let here = c.args.here in
    let told = (v.sees here.view.now).log in
    stands told here c.args.soft.now c.demote.new.soft c.settle.new.soft c.in_ok-base.base c.in_ok-floor.floor c.room-room.result c.may_elect.result c.as_slice-pairs.result.now c.as_slice-pending.result.now c.new-none.result c.in-Ok.bid c.in_ok-election.election c.settle.result
    c.in_ok-base.ensures.told
    (same_told (v.sees c.last.new.view) (v.sees here.view.now) (λ (log : List Entry). c.in_ok-floor.floor ≡ term_at log c.args.soft.now.commit) c.in_ok-base.ensures.keeps.same c.in_ok-floor.ensures.told)
    c.room-room.ensures c.may_elect.ensures.value c.if-may_elect.true (c.as_slice-pairs.ensures ∙ c.pairs.ensures) c.as_slice-pending.ensures c.new-none.ensures c.in-Ok.ensures
    (same_told (v.sees c.term_at.new.view) (v.sees here.view.now)
    (λ (log : List Entry). c.in_ok-election.election ≡ election here.ring.now here.me (part_after (here.term + 1) log here.applied c.as_slice-pairs.result.now) c.args.soft.now.commit c.as_slice-pending.result.now c.in-Ok.bid)
    (c.in_ok-floor.ensures.keeps.same ∙ c.in_ok-base.ensures.keeps.same) c.in_ok-election.ensures.told)
    c.demote.ensures c.settle.ensures.plan c.settle.ensures.soft

pub returns-clause-told : goal.returns-clause-told
returns-clause-told g c =
    let v = g.V.LogView in
    let here = c.args.here in
    let told = (v.sees here.view.now).log in
    idles told here c.args.soft.now c.in_ok-base.base c.in_ok-floor.floor c.room-room.result c.may_elect.result c.idle.result
    c.in_ok-base.ensures.told
    (same_told (v.sees c.last.new.view) (v.sees here.view.now) (λ (log : List Entry). c.in_ok-floor.floor ≡ term_at log c.args.soft.now.commit) c.in_ok-base.ensures.keeps.same c.in_ok-floor.ensures.told)
    c.room-room.ensures c.may_elect.ensures.value c.if-may_elect.false c.idle.ensures
