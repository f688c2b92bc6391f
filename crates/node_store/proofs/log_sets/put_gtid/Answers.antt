use Rattle.std.proofs.Common.{◌≡◌, None, refl}
use Rattle.std.proofs.lemmas.Result.{on_ok_weaker}
use Rattle.ring_types.specs.Gtids.{gtid_of}
use Rattle.node_store.proofs.Sets.{put_none, put_some}
use Rattle.node_store.proofs.log_sets.put_gtid.Goals as goal

pub returns-in-NoOp-clause-ok : goal.returns-in-NoOp-clause-ok
returns-in-NoOp-clause-ok c = let none : gtid_of c.args.entry.now ≡ None = rw c.in-NoOp.is refl in put_none c.args.gtids.now c.args.entry.now none

pub returns-in-Rotate-clause-ok : goal.returns-in-Rotate-clause-ok
returns-in-Rotate-clause-ok c = let none : gtid_of c.args.entry.now ≡ None = rw c.in-Rotate.is refl in put_none c.args.gtids.now c.args.entry.now none

pub returns-in-Txn-clause-ok : goal.returns-in-Txn-clause-ok
returns-in-Txn-clause-ok c =
    on_ok_weaker c.add.result
    (λ also. put_some c.args.gtids.now c.add.new.self c.args.entry.now c.in-Txn.txn c.in-Txn.is c.requires c.add.ensures.canonical also) c.add.ensures.ok
