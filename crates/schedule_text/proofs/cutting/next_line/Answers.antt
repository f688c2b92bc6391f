use Rattle.schedule_text.proofs.Cuts.{behind-lines}
use Rattle.schedule_text.proofs.cutting.next_line.Goals as goal

pub loop-index-init : goal.loop-index-init
loop-index-init c = behind-lines c.args.bytes.now
