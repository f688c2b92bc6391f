use Rattle.commit_pipeline.proofs.After.{front_term, added_term, past_term}
use Rattle.commit_pipeline.proofs.planned.PlannedLogView.term_at.Goals as goal

pub returns-then-position-kept-clause-told : goal.returns-then-position-kept-clause-told
returns-then-position-kept-clause-told g c =
    let may = c.requires.stands.1 in
    front_term (g.V.LogView.sees c.args.self.now.view.now).log (g.V.LogView.sees c.args.self.now.view.now).length c.args.self.now.kept c.args.self.now.added.now c.args.position c.term_at.result
    may.whole may.inside c.if-position-kept.true c.term_at.ensures.told

pub returns-in-Some-clause-told : goal.returns-in-Some-clause-told
returns-in-Some-clause-told g c =
    let may = c.requires.stands.1 in
    added_term (g.V.LogView.sees c.args.self.now.view.now).log (g.V.LogView.sees c.args.self.now.view.now).length c.args.self.now.kept c.args.self.now.added.now c.args.position c.in-Some.entry.now
    may.whole may.inside c.if-position-kept.false c.in-Some.ensures

pub returns-in-None-clause-told : goal.returns-in-None-clause-told
returns-in-None-clause-told g c =
    let may = c.requires.stands.1 in
    past_term (g.V.LogView.sees c.args.self.now.view.now).log (g.V.LogView.sees c.args.self.now.view.now).length c.args.self.now.kept c.args.self.now.added.now c.args.position
    may.whole may.inside c.if-position-kept.false c.in-None.ensures
