use Rattle.std.proofs.Common.{rules, None}
use Rattle.prepared_txns.proofs.Holding.{put_more}
use Rattle.prepared_txns.proofs.holders.take_keys.Goals as goal

pub loop-change-preserved : goal.loop-change-preserved
loop-change-preserved c =
    put_more c.args.changes.now c.loop-change.change-index c.change-item.result None c.args.holders.now c.loop-change.holders c.take_key.new.holders
    (search rules) (search rules) c.loop-change.invariant c.take_key.ensures
