use Rattle.gtid_set.proofs.TextAgain.{behind-pieces}
use Rattle.gtid_set.proofs.texts.next_piece.Goals as goal

pub loop-index-init : goal.loop-index-init
loop-index-init c = behind-pieces c.args.mark c.args.bytes.now
