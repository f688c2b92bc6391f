use Rattle.std.proofs.Common.{◌≡◌, take, drop}
use Rattle.schedule_text.specs.Cutting.{lines}
use Rattle.schedule_text.proofs.Cuts.{behind}
use Rattle.schedule_text.proofs.cutting.next_line.Given as goal

abbrev pub invariant-loop-index : goal.invariant-loop-index
invariant-loop-index l = behind (take l.index l.bytes) (lines (drop l.index l.bytes)) ≡ lines l.bytes
