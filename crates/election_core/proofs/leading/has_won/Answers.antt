use Rattle.election_core.proofs.Bidding.{won_by}
use Rattle.election_core.proofs.leading.has_won.Goals as goal

pub returns-clause-told : goal.returns-clause-told
returns-clause-told g c =
    let v = g.V.LogView in
    let candidate = c.args.candidate.now in
    let sight = v.sees c.args.view.now in
    won_by sight.log candidate.ring.now candidate.me candidate.term candidate.applied candidate.pairs.now c.args.grants.now c.args.base sight.home c.in_ok-base_region.base_region c.region_of.result c.in-Ok.won
    c.requires.last c.requires.may_lead.home c.in_ok-base_region.ensures.told c.region_of.ensures c.in-Ok.ensures
