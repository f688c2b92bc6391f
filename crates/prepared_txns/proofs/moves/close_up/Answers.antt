use Rattle.std.proofs.Common.{rules}
use Rattle.prepared_txns.proofs.Moving.{closed_more}
use Rattle.prepared_txns.proofs.moves.close_up.Goals as goal

pub loop-at-preserved : goal.loop-at-preserved
loop-at-preserved c = (
  closed_more c.loop-at.at c.args.pairs.now c.loop-at.pairs c.move_down.new.pairs
      (search rules) c.loop-at.invariant.0 c.move_down.ensures,
  search rules,
  search rules,
)
