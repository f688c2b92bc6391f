use Rattle.std.proofs.Common.{sym, ◌∙◌}
use Rattle.election_core.proofs.Judging.{keeps_none, keeps_one}
use Rattle.election_core.proofs.requests.judge.Goals as goal

pub returns-in-Some-clause-told : goal.returns-in-Some-clause-told
returns-in-Some-clause-told g c =
    keeps_one (g.V.LogView.sees c.args.view.now).log c.args.history.now c.args.commit c.args.from c.args.asked.now c.in-Some.candidate c.judge_again.result (sym c.in-Some.is ∙ c.vote_in.ensures) c.judge_again.ensures

pub returns-in-None-clause-told : goal.returns-in-None-clause-told
returns-in-None-clause-told g c =
    keeps_none (g.V.LogView.sees c.args.view.now).log c.args.history.now c.args.commit c.args.from c.args.asked.now c.judge_anew.result (sym c.in-None.is ∙ c.vote_in.ensures) c.judge_anew.ensures.told
