use Rattle.std.proofs.Common.{sym, ◌∙◌, arith}
use Rattle.binlog_store.proofs.NamedPoints.{read_named}
use Rattle.binlog_store.proofs.points.named_point.Goals as goal

pub returns-in-Ok-clause-says : goal.returns-in-Ok-clause-says
returns-in-Ok-clause-says c =
    read_named c.args.bytes.now c.in-Ok.point (λ i. omega (arith, c.type_inv.bytes i)) (sym c.may_end.ensures ∙ c.if-may_end.true) c.in-Ok.ensures
