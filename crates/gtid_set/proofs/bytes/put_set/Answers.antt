use Rattle.gtid_set.proofs.ServerPlaces.{canonical_read}
use Rattle.gtid_set.proofs.bytes.put_set.Goals as goal

pub put_server-requires : goal.put_server-requires
put_server-requires c = canonical_read c.loop-set.set-index c.set-item.result c.args.servers.now c.requires c.loop-set-test.true c.set-item.is
