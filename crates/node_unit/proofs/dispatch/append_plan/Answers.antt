use Rattle.node_unit.proofs.Torn.{append_answers, append_fails, append_rests}
use Rattle.node_unit.proofs.dispatch.append_plan.Goals as goal

pub returns-clause-told : goal.returns-clause-told
returns-clause-told g c = append_answers (g.V.LogView.sees c.args.here.view.now).log c.args.here c.args.soft.now _ c.args.sent.now c.on_append.result c.on_append.ensures.told

pub returns-clause-torn : goal.returns-clause-torn
returns-clause-torn g c = append_rests (g.V.LogView.sees c.args.here.view.now).log c.args.here c.args.soft.now _ c.args.sent.now c.on_append.result c.on_append.ensures.told

pub returns-clause-failed : goal.returns-clause-failed
returns-clause-failed g c = append_fails _ _ c.on_append.result c.on_append.ensures.failed
