use Rattle.std.proofs.Common.{arith}
use Rattle.std.proofs.lemmas.Result.{err_from_is_err_and}
use Rattle.event_txn.proofs.Changes.{row_fails, next_fails, no_more, goes_on}
use Rattle.event_txn.proofs.reading.changes_of.Goals as goal

pub returns-in_err-change-clause-given : goal.returns-in_err-change-clause-given
returns-in_err-change-clause-given c =
    let p = err_from_is_err_and c.from_residual.result c.from_residual.ensures.1 in
    rw (p.1, p.2) (row_fails c.in_err-change.field-0.0 c.args.asked.now.schema.now c.args.asked.now.position c.args.asked.now.at c.args.limit c.loop.counter c.loop.changes c.loop.place c.loop.offset c.loop.rest.now _ (record { within = c.loop-test.true; read = c.loop.invariant.read }) c.in_err-change.ensures.given)

pub returns-in_err-next-clause-given : goal.returns-in_err-next-clause-given
returns-in_err-next-clause-given c =
    let p = err_from_is_err_and c.from_residual-in_err-next.result c.from_residual-in_err-next.ensures.1 in
    rw (p.1, p.2) (next_fails c.in_err-next.field-0.0 c.args.asked.now.schema.now c.args.asked.now.position c.args.asked.now.at c.args.limit c.loop.counter c.loop.changes c.loop.place c.loop.offset c.loop.rest.now _ c.in_ok-change.change c.in_ok-change.behind c.in_ok-change.more.now (record { within = c.loop-test.true; read = c.loop.invariant.read }) c.in_ok-change.ensures.given c.in_err-next.ensures.given)

pub returns-in-None-clause-given : goal.returns-in-None-clause-given
returns-in-None-clause-given c =
    let last = rw c.in-None.is at c.in_ok-next.ensures.given in
    rw c.in_ok-push.ensures.ok (no_more c.args.asked.now.schema.now c.args.asked.now.position c.args.asked.now.at c.args.limit c.loop.counter c.loop.changes c.loop.place c.loop.offset c.loop.rest.now _ c.in_ok-change.change c.in_ok-change.behind c.in_ok-change.more.now c.in_ok-next.behind c.in_ok-next.more.now (record { within = c.loop-test.true; read = c.loop.invariant.read }) c.in_ok-change.ensures.given last)

pub loop-preserved : goal.loop-preserved
loop-preserved c =
    let more = rw c.in-Some.is at c.in_ok-next.ensures.given in
    record {
      place = rw c.in-Some.is at c.in_ok-next.ensures.place;
      offset = omega (arith, c.loop.invariant.offset, c.in_ok-change.ensures.size, c.in_ok-next.ensures.size);
      read = rw c.in_ok-push.ensures.ok (goes_on c.args.asked.now.schema.now c.args.asked.now.position c.args.asked.now.at c.args.limit c.loop.counter c.loop.changes c.loop.place c.loop.offset c.loop.rest.now _ c.in_ok-change.change c.in_ok-change.behind c.in_ok-change.more.now c.in-Some.table c.in_ok-next.behind c.in_ok-next.more.now (record { within = c.loop-test.true; read = c.loop.invariant.read }) c.in_ok-change.ensures.given more);
    }
