use Rattle.std.proofs.Common.{sym}
use Rattle.ring_types.proofs.Positions.{term_at-found, term_at-past}
use Rattle.ring_types.proofs.logs.term_at.Goals as goal

pub returns-in-Some : goal.returns-in-Some
returns-in-Some c = term_at-found c.args.log.now c.args.position c.in-Some.entry.now (sym c.in-Some.ensures)

pub returns-in-None : goal.returns-in-None
returns-in-None c = term_at-past c.args.log.now c.args.position (sym c.in-None.ensures)
