-- the first message is not among those before
use Rattle.std.proofs.Common.{◌≡◌, ◌+◌, drop}
use Rattle.ring_model.specs.Worlds.{next_from}
use Rattle.ring_replay.proofs.sent.first_to.Given as goal

abbrev pub invariant-loop-i : goal.invariant-loop-i
invariant-loop-i l = next_from (l.cursor + l.i + 1) (drop l.i l.messages) l.node l.cursor ≡ next_from (l.cursor + 1) l.messages l.node l.cursor
