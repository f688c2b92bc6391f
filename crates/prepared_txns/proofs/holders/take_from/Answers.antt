use Rattle.std.proofs.Common.{None}
use Rattle.prepared_txns.proofs.Ties.{value_updated}
use Rattle.prepared_txns.proofs.holders.take_from.Goals as goal

pub returns : goal.returns
returns c = value_updated c.args.keys.now.entries c.remove.new.self.entries c.args.key.now None c.remove.ensures.updates.0
