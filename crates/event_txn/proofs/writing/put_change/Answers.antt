use Rattle.std.proofs.Common.{refl}
use Rattle.event_txn.proofs.Events.{change_put}
use Rattle.event_txn.proofs.writing.put_change.Goals as goal

pub returns-clause-ok : goal.returns-clause-ok
returns-clause-ok c =
    change_put c.args.schema.now c.args.change.now c.place_of-place.result c.args.at c.in_ok-first.first _ c.args.out.now.items _ _ c.place_of-place.ensures.place c.in_ok-first.ensures.size refl c.in_ok-first.ensures.ok c.in_ok-second.ensures.ok
