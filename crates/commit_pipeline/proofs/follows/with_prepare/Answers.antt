use Rattle.std.proofs.Common.{◌≡◌, ◌∙◌, sym, Some, Ok}
use Rattle.ring_types.specs.Logs.{entry_at}
use Rattle.commit_pipeline.specs.Advances.{pairs_left}
use Rattle.commit_pipeline.proofs.Counting.{same_told}
use Rattle.commit_pipeline.proofs.Preparing.{stays, comes}
use Rattle.commit_pipeline.proofs.follows.with_prepare.Goals as goal

pub returns-then-stays_prepared-clause-told : goal.returns-then-stays_prepared-clause-told
returns-then-stays_prepared-clause-told g c =
    stays (g.V.LogView.sees c.args.view.now).log (pairs_left c.args.engine.now) c.args.position c.in_ok-term.term c.args.actions c.requires.placed c.in_ok-term.ensures.told
    (sym c.stays_prepared.ensures ∙ c.if-stays_prepared.true)

pub returns-in-Ok-clause-told : goal.returns-in-Ok-clause-told
returns-in-Ok-clause-told g c =
    let v = g.V.LogView in
    comes (v.sees c.args.view.now).log (pairs_left c.args.engine.now) c.args.position c.in_ok-term.term c.in_ok-entry.entry c.args.actions (Ok c.in-Ok.actions) c.requires.placed c.in_ok-term.ensures.told
    (sym c.stays_prepared.ensures ∙ c.if-stays_prepared.false)
    (same_told (v.sees c.term_at.new.view) (v.sees c.args.view.now) (λ log. entry_at log c.args.position ≡ Some c.in_ok-entry.entry) c.in_ok-term.ensures.keeps.same c.in_ok-entry.ensures.told)
    c.in-Ok.ensures
