use Rattle.std.proofs.Common.{subst, sym}
use Rattle.ring_replay.specs.Fit.{IsFitWorld}
use Rattle.ring_replay.specs.Replays.{ReplayState}
use Rattle.ring_replay.proofs.Fit.{fit_moved}
use Rattle.ring_replay.proofs.replays.Replay.give_next.Goals as goal

pub give-requires-clause-fit : goal.give-requires-clause-fit
give-requires-clause-fit c =
    let fit = subst (λ (r : ReplayState). IsFitWorld c.args.ring.now r.world) (sym c.next_to.ensures.same) c.requires.fit in
    fit_moved c.args.ring.now c.next_to.new.self.world c.move_to.new.self.world fit c.move_to.ensures.nodes c.move_to.ensures.messages
