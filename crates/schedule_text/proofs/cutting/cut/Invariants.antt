use Rattle.std.proofs.Common.{◌≡◌, false, take, drop}
use Rattle.schedule_text.specs.Cutting.{pieces}
use Rattle.schedule_text.proofs.Cuts.{behind}
use Rattle.schedule_text.proofs.cutting.cut.Given as goal

abbrev pub invariant-loop-index : goal.invariant-loop-index
invariant-loop-index l = behind (take l.index l.bytes) (pieces l.at l.quoted (drop l.index l.bytes)) ≡ pieces l.at false l.bytes
