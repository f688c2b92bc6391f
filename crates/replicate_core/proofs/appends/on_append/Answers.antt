use Rattle.std.proofs.Common.{sym, ap, ◌∙◌}
use Rattle.commit_pipeline.specs.declared.steps.Begun.{Begun}
use Rattle.ring_types.proofs.Booleans.{lt_true}
use Rattle.replicate_core.proofs.Stepping.{stays_idle, answers_old, leads_on, settles, no_tear_in, made_since, is_not_less}
use Rattle.replicate_core.proofs.appends.on_append.Goals as goal

pub returns-then-outgrows-clause-told : goal.returns-then-outgrows-clause-told
returns-then-outgrows-clause-told g c =
    stays_idle (g.V.LogView.sees c.args.here.view.now).log c.args.here c.args.soft.now c.args.sent.now c.idle.result c.requires.node.told
    (sym c.outgrows.ensures ∙ c.if-outgrows.true) c.idle.ensures

pub returns-then-sent-term-clause-told : goal.returns-then-sent-term-clause-told
returns-then-sent-term-clause-told g c =
    answers_old (g.V.LogView.sees c.args.here.view.now).log c.args.here c.args.soft.now c.args.sent.now c.refuse_earlier.result c.requires.node.told
    (sym c.outgrows.ensures ∙ c.if-outgrows.false)
    (lt_true c.args.sent.now.term c.args.here.term c.if-sent-term.true) c.refuse_earlier.ensures.told c.refuse_earlier.ensures.failed

pub returns-then-leads_it-clause-told : goal.returns-then-leads_it-clause-told
returns-then-leads_it-clause-told g c =
    leads_on (g.V.LogView.sees c.args.here.view.now).log c.args.here c.args.soft.now c.args.sent.now c.idle-then-leads_it.result c.requires.node.told
    (sym c.outgrows.ensures ∙ c.if-outgrows.false)
    (is_not_less c.args.sent.now.term c.args.here.term c.if-sent-term.false) (sym c.leads_it.ensures ∙ c.if-leads_it.true) c.idle-then-leads_it.ensures

pub returns-clause-told : goal.returns-clause-told
returns-clause-told g c =
    let v = g.V.LogView in
    let here = c.args.here in
    let s = c.args.soft.now in
    let sent = c.args.sent.now in
    let told = (v.sees here.view.now).log in
    let begun = c.in-Ok.begun in
    let pairs = c.as_slice-2.result.now in
    settles told here s c.settle.new.soft sent c.in_ok-matched.matched pairs begun.actions begun.says c.requires.node.told
    (sym c.outgrows.ensures ∙ c.if-outgrows.false) (is_not_less sent.term here.term c.if-sent-term.false) (sym c.leads_it.ensures ∙ c.if-leads_it.false)
    (no_tear_in told c.in_ok-torn.torn s.commit sent c.as_slice.result.now c.in-None.is c.as_slice.ensures c.in_ok-torn.ensures.told)
    (made_since (v.sees c.last.new.view) (v.sees here.view.now) here.ring.now here.me here.applied pairs s.commit begun.actions begun.says sent
    c.in_ok-matched.matched
    (c.in_ok-end.ensures.keeps.same ∙ c.in_ok-torn.ensures.keeps.same) c.in_ok-matched.ensures.told)
    (c.as_slice-2.ensures ∙ c.pairs.ensures) (ap (λ (b : Begun). b.actions) c.in-Ok.ensures) (ap (λ (b : Begun). b.says) c.in-Ok.ensures) c.settle.ensures
