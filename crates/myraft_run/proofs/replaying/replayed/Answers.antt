use Rattle.std.proofs.Common.{arith, rules}
use Rattle.myraft_run.proofs.Ways.{next-event, way-done, way-first, way-on, way-stopped}
use Rattle.myraft_run.proofs.replaying.replayed.Goals as goal

pub loop-event-init : goal.loop-event-init
loop-event-init c = (c.in_ok-replay.ensures.held, c.in_ok-replay.ensures.count, way-first c.args.ring.now c.args.events.now c.in_ok-replay.replay.world c.in_ok-replay.ensures.world)

pub loop-event-preserved : goal.loop-event-preserved
loop-event-preserved c = (
  c.in_ok-take_event.ensures.held,
  omega (arith, c.in_ok-take_event.ensures.count, c.loop-event.invariant.1),
  way-on c.args.ring.now c.args.events.now c.loop-event.event-index c.loop-event.replay.world c.take_event.new.replay.world c.event-item.result c.loop-event.invariant.2
      (next-event c.args.events.now c.loop-event.event-index c.event-item.result (omega (arith, c.loop-event-test.true)) c.event-item.is) c.in_ok-take_event.ensures.takes,
)

pub returns-in_err-take_event-clause-replays : goal.returns-in_err-take_event-clause-replays
returns-in_err-take_event-clause-replays c =
    let h = way-stopped c.args.ring.now c.args.events.now c.loop-event.event-index c.loop-event.replay.world c.take_event.new.replay.world c.event-item.result c.in_err-take_event.field-0.0 c.loop-event.invariant.2
    (next-event c.args.events.now c.loop-event.event-index c.event-item.result (omega (arith, c.loop-event-test.true)) c.event-item.is) c.in_err-take_event.ensures.takes in
    search rules

pub returns-clause-replays : goal.returns-clause-replays
returns-clause-replays c = way-done c.args.ring.now c.args.events.now c.loop-event.event-index c.loop-event.replay.world c.report_after.result c.loop-event.invariant.2 (omega (arith, c.loop-event-test.false)) c.report_after.ensures.text c.report_after.ensures.memory
