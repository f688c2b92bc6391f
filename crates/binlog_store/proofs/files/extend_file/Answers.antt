use Rattle.std.proofs.lemmas.Result.{on_ok_weaker}
use Rattle.edge_traits.proofs.Moments.{eased}
use Rattle.binlog_store.proofs.BehindTheEnd.{begins_still, settled_behind}
use Rattle.binlog_store.proofs.files.extend_file.Goals as goal

pub returns-clause-here : goal.returns-clause-here
returns-clause-here g c told = on_ok_weaker c.put.result (λ is. settled_behind c.args.at c.args.bytes.now _ _ (c.requires told) is) (c.put.ensures.here told)

pub returns-clause-crash : goal.returns-clause-crash
returns-clause-crash g c told = eased _ (c.put.ensures.crash told) (begins_still c.args.at c.args.bytes.now _ (c.requires told))
