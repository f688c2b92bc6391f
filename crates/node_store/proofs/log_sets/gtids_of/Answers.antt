use Rattle.std.proofs.Common.{arith, subst, sym}
use Rattle.node_store.specs.Kept.{IsNumbered}
use Rattle.node_store.proofs.Sets.{none_yet, numbered_at}
use Rattle.node_store.proofs.log_sets.gtids_of.Goals as goal

pub loop-entry-init : goal.loop-entry-init
loop-entry-init c = rw c.new-gtids.ensures none_yet

pub put_gtid-requires : goal.put_gtid-requires
put_gtid-requires c =
    subst IsNumbered (sym c.entry-item.is) (numbered_at c.args.log.now c.requires c.loop-entry.entry-index c.entry-item.result (omega arith))
