use Rattle.std.proofs.Common.{◌≡◌, ◌+◌, List, refl}
use Rattle.std.specs.Prelude.{IfOk}
use Rattle.ring_types.specs.declared.entries.Entry.{Entry}
use Rattle.commit_pipeline.specs.Advances.{part_after}
use Rattle.commit_pipeline.proofs.Counting.{same_told, whole_of}
use Rattle.election_core.specs.Bids.{leads_at}
use Rattle.election_core.proofs.Bidding.{asks_now, leads_now}
use Rattle.election_core.proofs.leading.lead_or_ask.Goals as goal

pub returns-then-won-clause-told : goal.returns-then-won-clause-told
returns-then-won-clause-told g c =
    let v = g.V.LogView in
    let candidate = c.args.candidate.now in
    let sight = v.sees c.args.view.now in
    let end = c.args.base.position in
    leads_now sight.log candidate.ring.now candidate.me candidate.term candidate.applied candidate.pairs.now candidate.commit candidate.pending.now c.args.bid c.as_slice.result.now end c.in_ok-won.won c.lead.result
    (whole_of sight.log c.args.base end c.requires.last refl) c.in_ok-won.ensures.told c.as_slice.ensures c.if-won.true
    (same_told (v.sees c.has_won.new.view) sight (λ (log : List Entry). IfOk c.lead.result (λ it. it ≡ leads_at candidate.ring.now candidate.me (part_after candidate.term log candidate.applied candidate.pairs.now) candidate.commit candidate.pending.now c.args.bid (end + 1))) c.in_ok-won.ensures.keeps.same c.lead.ensures.told)

pub returns-else-won-clause-told : goal.returns-else-won-clause-told
returns-else-won-clause-told g c =
    let v = g.V.LogView in
    let candidate = c.args.candidate.now in
    asks_now (v.sees c.args.view.now).log candidate.ring.now candidate.me candidate.term candidate.applied candidate.pairs.now candidate.commit candidate.pending.now c.args.bid c.as_slice.result.now c.in_ok-won.won c.ask.result
    c.in_ok-won.ensures.told c.as_slice.ensures c.if-won.false c.ask.ensures
