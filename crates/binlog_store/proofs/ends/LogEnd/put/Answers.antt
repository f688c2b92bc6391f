use Rattle.std.proofs.lemmas.Result.{on_ok_weaker}
use Rattle.binlog_store.proofs.Putting.{end_next}
use Rattle.binlog_store.proofs.ends.LogEnd.put.Goals as goal

pub returns : goal.returns
returns c = on_ok_weaker c.put_gtid.result
    (λ put. λ log end. end_next c.args.schema.now log c.args.entry.now c.args.self.now _ end c.requires.stands (c.in_ok-self.ensures log end.set_is) (λ range. put log end.set_is range))
    c.put_gtid.ensures
