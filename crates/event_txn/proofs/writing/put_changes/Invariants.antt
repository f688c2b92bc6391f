use Rattle.std.proofs.Common.{◌++◌, ◌<◌, ◌%◌, ◌^◌, drop}
use Rattle.event_txn.specs.Txns.{changes_bodies, events_from, behind}
use Rattle.event_txn.specs.Writing.{Keeps}
use Rattle.event_txn.proofs.Events.{StandsAt}
use Rattle.event_txn.proofs.writing.put_changes.Given as goal

abbrev pub invariant-loop-change : goal.invariant-loop-change
invariant-loop-change l = record {
  stands : StandsAt l.schema l.out.items (l.initial.out.items ++ events_from l.at (changes_bodies l.schema l.changes)) l.offset (behind l.at (changes_bodies l.schema l.changes) % 2 ^ 64) (drop l.change-index l.changes);
  small : l.offset < 2 ^ 64;
  kept : Keeps l.initial.out.items l.out.items;
}
