use Rattle.std.proofs.Common.{refl}
use Rattle.log_cases.proofs.stops.truncate_for_good.Goals as goal

pub returns-clause-mounted : goal.returns-clause-mounted
returns-clause-mounted c =
    let schema = c.args.schema.now in
    let store = c.truncate.new.self in
    c.in_ok-settle-3.ensures schema store (c.in_ok-settle-2.ensures schema store (c.in_ok-settle.ensures schema store (c.in_ok-truncate.ensures.mounted refl)))
