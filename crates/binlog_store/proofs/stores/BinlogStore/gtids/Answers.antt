use Rattle.binlog_store.proofs.stores.BinlogStore.gtids.Goals as goal

pub returns : goal.returns
returns c = λ schema is. is.held.set_is
