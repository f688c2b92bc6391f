use Rattle.gtid_set.proofs.ServerPlaces.{canonical_read}
use Rattle.gtid_set.proofs.servers.put_sets.Goals as goal

pub put_set-requires-clause-merged : goal.put_set-requires-clause-merged
put_set-requires-clause-merged c = canonical_read c.loop-set.set-index c.set-item.result c.args.sets.now c.requires.others c.loop-set-test.true c.set-item.is
