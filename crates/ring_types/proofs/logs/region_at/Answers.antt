use Rattle.std.proofs.Common.{sym}
use Rattle.ring_types.proofs.Positions.{region_at-found, region_at-past}
use Rattle.ring_types.proofs.logs.region_at.Goals as goal

pub returns-in-Some : goal.returns-in-Some
returns-in-Some c = region_at-found c.args.home c.args.log.now c.args.position c.in-Some.entry.now (sym c.in-Some.ensures)

pub returns-in-None : goal.returns-in-None
returns-in-None c = region_at-past c.args.home c.args.log.now c.args.position (sym c.in-None.ensures)
