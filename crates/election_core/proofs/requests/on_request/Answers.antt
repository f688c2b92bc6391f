use Rattle.std.proofs.Common.{nat_lt, refl, sym, ◌∙◌}
use Rattle.election_core.proofs.Judging.{ignores, refuses, replies}
use Rattle.election_core.proofs.Replying.{is_less, is_not_less}
use Rattle.election_core.proofs.requests.on_request.Goals as goal

pub returns-then-is_silent-clause-told : goal.returns-then-is_silent-clause-told
returns-then-is_silent-clause-told g c =
    let here = c.args.here in
    ignores (g.V.LogView.sees here.view.now).log here c.args.soft.now c.args.from c.args.asked.now c.idle.result (sym c.is_silent.ensures ∙ c.if-is_silent.true) c.idle.ensures

pub returns-then-asked-term-clause-told : goal.returns-then-asked-term-clause-told
returns-then-asked-term-clause-told g c =
    let here = c.args.here in
    refuses (g.V.LogView.sees here.view.now).log here c.args.soft.now c.args.from c.args.asked.now c.nothing.result c.in-Ok.plan (sym c.is_silent.ensures ∙ c.if-is_silent.false)
    (is_less c.args.asked.now.term here.term c.if-asked-term.true) c.nothing.ensures c.in-Ok.ensures

pub returns-clause-told : goal.returns-clause-told
returns-clause-told g c =
    let v = g.V.LogView in
    let here = c.args.here in
    let later = nat_lt here.term c.args.asked.now.term in
    replies (v.sees here.view.now).log here c.args.soft.now c.step_down.new.soft c.args.from c.args.asked.now later c.in_ok-verdict.verdict c.in-Ok-begin.begun c.in-Ok-answer.plan (sym c.is_silent.ensures ∙ c.if-is_silent.false)
    (is_not_less c.args.asked.now.term here.term c.if-asked-term.false) refl c.in_ok-verdict.ensures.told c.in-Ok-begin.ensures c.in-Ok-answer.ensures c.step_down.ensures
