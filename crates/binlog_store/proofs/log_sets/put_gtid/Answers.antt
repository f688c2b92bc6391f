use Rattle.std.proofs.Common.{◌≡◌, None, refl}
use Rattle.std.proofs.lemmas.Result.{on_ok_weaker}
use Rattle.ring_types.specs.Gtids.{gtid_of}
use Rattle.binlog_store.proofs.LogSets.{put_none, put_some}
use Rattle.binlog_store.proofs.log_sets.put_gtid.Goals as goal

pub returns-in-NoOp : goal.returns-in-NoOp
returns-in-NoOp c = let none : gtid_of c.args.entry.now ≡ None = rw c.in-NoOp.is refl in put_none c.args.gtids.now c.args.entry.now none

pub returns-in-Rotate : goal.returns-in-Rotate
returns-in-Rotate c = let none : gtid_of c.args.entry.now ≡ None = rw c.in-Rotate.is refl in put_none c.args.gtids.now c.args.entry.now none

pub returns-in-Txn : goal.returns-in-Txn
returns-in-Txn c =
    on_ok_weaker c.add.result
    (λ also. put_some c.args.gtids.now c.add.new.self c.args.entry.now c.in-Txn.txn c.in-Txn.is c.add.ensures.canonical also) c.add.ensures.ok
