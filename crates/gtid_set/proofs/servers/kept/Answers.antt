use Rattle.gtid_set.proofs.ServerPlaces.{canonical_read}
use Rattle.gtid_set.proofs.servers.kept.Goals as goal

pub of-requires : goal.of-requires
of-requires c = canonical_read c.loop-set.set-index c.set-item.result c.args.sets.now c.requires c.loop-set-test.true c.set-item.is
