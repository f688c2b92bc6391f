use Rattle.std.proofs.Common.{◌+◌, ◌∙◌, ap}
use Rattle.ring_model.specs.Elections.{first_peers}
use Rattle.election_core.proofs.Bidding.{files_on, leads}
use Rattle.election_core.proofs.leading.lead.Goals as goal

pub add_entry-requires-clause-files : goal.add_entry-requires-clause-files
add_entry-requires-clause-files g c =
    let candidate = c.args.candidate.now in
    files_on (g.V.LogView.sees c.args.view.now).log candidate.ring.now candidate.me candidate.term (c.args.end + 1) c.noop_at-entry.result c.requires.may_lead.led c.noop_at-entry.ensures

pub returns-clause-told : goal.returns-clause-told
returns-clause-told g c =
    let candidate = c.args.candidate.now in
    let noop = c.args.end + 1 in
    leads (g.V.LogView.sees c.args.view.now).log candidate.ring.now candidate.me candidate.term candidate.applied candidate.pairs.now candidate.commit candidate.pending.now c.args.bid noop
    c.in-Ok.peers c.as_slice-known.result.now c.noop_at-entry.result c.in_ok-advanced.advanced c.led_by.result
    (c.in-Ok.ensures ∙ ap (first_peers candidate.me noop) (c.as_slice-members.ensures ∙ c.members.ensures)) c.as_slice-known.ensures c.noop_at-entry.ensures c.in_ok-advanced.ensures.told c.led_by.ensures
