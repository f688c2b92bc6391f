use Rattle.std.proofs.Common.{◌≡◌, ◌+◌, drop, length, sym, subst, List, arith}
use Rattle.std.specs.Prelude.{IfSome}
use Rattle.ring_types.specs.declared.entries.Entry.{Entry}
use Rattle.ring_model.specs.Replication.{unmatched}
use Rattle.replicate_core.proofs.Matching.{knows}
use Rattle.replicate_core.proofs.accepts.all_matched.Goals as goal

pub returns-clause-told : goal.returns-clause-told
returns-clause-told g c =
    let told = (g.V.LogView.sees c.args.view.now).log in
    let entries = c.args.sent.now.entries in
    let position = c.args.sent.now.prev.position in
    let sure = c.min-sure.result in
    knows told c.args.end c.args.commit position sure c.in_ok-more.more entries
    (subst (λ n. IfSome told (λ log. length log ≡ n)) (sym c.requires.end) c.requires.whole) c.requires.commit
    (omega arith) c.requires.sound
    (subst (λ (rest : List Entry). IfSome told (λ log. drop c.in_ok-more.more rest ≡ unmatched log (position + sure) rest)) c.suffix.ensures
    c.in_ok-more.ensures.told)
