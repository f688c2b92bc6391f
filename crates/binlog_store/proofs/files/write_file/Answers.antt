use Rattle.std.proofs.Common.{◌∙◌}
use Rattle.edge_traits.proofs.Moments.{after, call}
use Rattle.binlog_store.proofs.files.write_file.Goals as goal

pub returns-in_err-cut-clause-crash : goal.returns-in_err-cut-clause-crash
returns-in_err-cut-clause-crash g c told = call _ (c.cut.ensures.time told) (c.cut.ensures.elsewhere told) (λ left may. tt)

pub returns-clause-crash : goal.returns-clause-crash
returns-clause-crash g c told =
    let told_too = c.cut.ensures.tells ∙ told in
    after _ (call _ (c.cut.ensures.time told) (c.cut.ensures.elsewhere told) (λ left may. may)) (c.put.ensures.crash told_too) (λ left may. tt) (λ left may. tt)
