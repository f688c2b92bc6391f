use Rattle.std.proofs.Common.{true, false, ap, sym, ◌∙◌, add-one}
use Rattle.ring_model.specs.declared.worlds.World.{World}
use Rattle.ring_replay.specs.Steps.{shown_step}
use Rattle.ring_replay.proofs.Law.{step_is, known_as}
use Rattle.ring_replay.proofs.Counts.{line_counts}
use Rattle.ring_replay.proofs.Fit.{held_fits}
use Rattle.ring_replay.proofs.Grows.{event_keeps}
use Rattle.ring_replay.proofs.Held.{held_on}
use Rattle.ring_replay.proofs.replays.Replay.event.Goals as goal

pub take_line-requires-clause-fit : goal.take_line-requires-clause-fit
take_line-requires-clause-fit c = held_fits c.args.ring.now c.args.self.now c.requires.held

pub take_line-requires-clause-keeps : goal.take_line-requires-clause-keeps
take_line-requires-clause-keeps c =
    event_keeps c.args.ring.now c.args.self.now c.args.event.now c.law_built.ensures c.requires.held (sym c.if-not-knows.false ∙ c.knows.ensures)

pub returns-then-not-knows-clause-known : goal.returns-then-not-knows-clause-known
returns-then-not-knows-clause-known c = λ w is.
    known_as c.args.ring.now c.args.self.now.world w c.args.event.now.what false is (sym c.if-not-knows.true ∙ c.knows.ensures)

pub returns-in-Ok-clause-known : goal.returns-in-Ok-clause-known
returns-in-Ok-clause-known c = λ w is.
    known_as c.args.ring.now c.args.self.now.world w c.args.event.now.what true is (sym c.if-not-knows.false ∙ c.knows.ensures)

pub returns-in-Ok-clause-world : goal.returns-in-Ok-clause-world
returns-in-Ok-clause-world c = λ w is.
    let ring = c.args.ring.now in
    let l = c.args.event.now.what in
    let known = known_as ring c.args.self.now.world w l true is (sym c.if-not-knows.false ∙ c.knows.ensures) in
    c.in-Ok.ensures.world ∙ (ap (λ (v : World). shown_step ring v l) is ∙ step_is ring w c.args.event.now c.law_built.ensures.numbers_once known)

pub returns-in-Ok-clause-held : goal.returns-in-Ok-clause-held
returns-in-Ok-clause-held c =
    held_on c.args.ring.now c.args.self.now c.take_line.new.self c.args.event.now c.law_built.ensures.numbers_once c.requires.held
    (sym c.if-not-knows.false ∙ c.knows.ensures) c.in-Ok.ensures.world c.in-Ok.ensures.held

pub returns-in-Ok-clause-count : goal.returns-in-Ok-clause-count
returns-in-Ok-clause-count c = rw (c.in-Ok.ensures.world, add-one) (line_counts c.args.ring.now c.args.self.now.world c.args.event.now.what)
