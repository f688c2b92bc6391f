use Rattle.std.proofs.Common.{◌≡◌, ◌+◌, ◌≤◌, length}
use Rattle.schedule_text.specs.Cutting.{lines}
use Rattle.schedule_text.specs.Schedules.{events_from, events_of}
use Rattle.schedule_text.proofs.Events.{with_events}
use Rattle.schedule_text.proofs.schedules.read_schedule.Given as goal

abbrev pub invariant-loop-text : goal.invariant-loop-text
invariant-loop-text l = record {
  events : with_events l.events (events_from l.number (lines l.rest)) ≡ events_of l.bytes;
  count : l.number + length l.rest ≤ length l.bytes + 1;
}

abbrev pub decreases-loop-text : goal.decreases-loop-text
decreases-loop-text l = length l.rest
