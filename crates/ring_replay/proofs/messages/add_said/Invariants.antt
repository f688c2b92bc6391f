-- what the node said so far stands at the end
use Rattle.std.proofs.Common.{◌≡◌, ◌++◌, map, take}
use Rattle.ring_model.specs.Worlds.{said_in}
use Rattle.ring_replay.proofs.messages.add_said.Given as goal

abbrev pub invariant-loop-say : goal.invariant-loop-say
invariant-loop-say l = l.said ≡ l.fn.said ++ map (said_in l.event l.node) (take l.say-index l.says)
