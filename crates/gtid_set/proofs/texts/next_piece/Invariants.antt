-- what was passed, before the first piece of the rest, is the whole
use Rattle.std.proofs.Common.{◌≡◌, take, drop}
use Rattle.gtid_set.specs.Pieces.{pieces}
use Rattle.gtid_set.proofs.TextAgain.{behind}
use Rattle.gtid_set.proofs.texts.next_piece.Given as goal

abbrev pub invariant-loop-index : goal.invariant-loop-index
invariant-loop-index l = behind (take l.index l.bytes) (pieces l.mark (drop l.index l.bytes)) ≡ pieces l.mark l.bytes
