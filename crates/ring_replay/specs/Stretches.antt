-- Stretches of the list of messages in which a node has none.
-- Only private contracts cite this file.
use Rattle.std.specs.Prelude.{◌≡◌, ◌≤◌, List, None, length, take}
use Rattle.ring_model.specs.Worlds.{next_from}
use Rattle.ring_model.specs.declared.messages.Message.{Message}
use Rattle.ring_replay.specs.declared.sent.Passed.{Passed}

-- among the messages up to the stretch's end, none above its beginning is to the node
pub record IsRight (sent : List Message) (p : Passed) : Type 0 where
  pub within : p.upto ≤ length sent
  pub none : next_from 1 (take p.upto sent) p.node p.from ≡ None
