use Rattle.commit_pipeline.proofs.After.{front_region, added_region, past_region}
use Rattle.commit_pipeline.proofs.planned.PlannedLogView.region_at.Goals as goal

pub returns-then-position-kept-clause-told : goal.returns-then-position-kept-clause-told
returns-then-position-kept-clause-told g c =
    let may = c.requires.stands.1 in
    let below = g.V.LogView.sees c.args.self.now.view.now in
    front_region below.log below.home below.length c.args.self.now.kept c.args.self.now.added.now c.args.position c.region_at.result
    may.whole may.inside c.if-position-kept.true c.region_at.ensures.told

pub returns-in-Some-clause-told : goal.returns-in-Some-clause-told
returns-in-Some-clause-told g c =
    let may = c.requires.stands.1 in
    let below = g.V.LogView.sees c.args.self.now.view.now in
    added_region below.log below.home below.length c.args.self.now.kept c.args.self.now.added.now c.args.position c.in-Some.entry.now
    may.whole may.inside c.if-position-kept.false c.in-Some.ensures

pub returns-in-None-clause-told : goal.returns-in-None-clause-told
returns-in-None-clause-told g c =
    let may = c.requires.stands.1 in
    let below = g.V.LogView.sees c.args.self.now.view.now in
    past_region below.log below.home below.length c.args.self.now.kept c.args.self.now.added.now c.args.position c.region_at-in-None.result
    may.whole may.inside c.if-position-kept.false c.in-None.ensures c.region_at-in-None.ensures.told
