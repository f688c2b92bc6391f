-- the replay is held, and its world is on the way
use Rattle.std.proofs.Common.{◌≡◌}
use Rattle.ring_replay.specs.Replays.{IsHeld}
use Rattle.myraft_run.proofs.Ways.{OnTheWay}
use Rattle.myraft_run.proofs.replaying.replayed.Given as goal

abbrev pub invariant-loop-event : goal.invariant-loop-event
invariant-loop-event l = IsHeld l.ring l.replay × (l.replay.world.events ≡ l.event-index) × OnTheWay l.ring l.events l.event-index l.replay.world
