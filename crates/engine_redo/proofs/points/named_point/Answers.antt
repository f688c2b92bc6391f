use Rattle.std.proofs.Common.{◌≡◌, arith, rules}
use Rattle.engine_redo.specs.Points.{point_in}
use Rattle.engine_redo.proofs.PointBytes.{all_named}
use Rattle.engine_redo.proofs.points.named_point.Goals as goal

pub returns-clause-says : goal.returns-clause-says
returns-clause-says c =
    let is : c.ok.result ≡ point_in c.args.bytes.now = search rules in
    all_named c.args.bytes.now c.ok.result (λ i. omega (arith, c.type_inv.bytes i)) is
