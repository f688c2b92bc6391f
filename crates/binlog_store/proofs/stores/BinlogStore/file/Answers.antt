use Rattle.std.proofs.Common.{arith}
use Rattle.binlog_store.specs.Mounted.{log_of}
use Rattle.binlog_store.proofs.Appending.{file_is}
use Rattle.binlog_store.proofs.Counts.{count_files}
use Rattle.binlog_store.proofs.stores.BinlogStore.file.Goals as goal

pub returns : goal.returns
returns c = λ schema is. omega (arith, file_is schema c.args.self.now.held is.held, count_files schema (log_of c.args.self.now))
