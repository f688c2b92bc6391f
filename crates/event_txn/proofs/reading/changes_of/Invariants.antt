use Rattle.std.proofs.Common.{◌≡◌, ◌-◌, ◌+◌, ◌<◌, length}
use Rattle.event_txn.proofs.Changes.{after, all_of}
use Rattle.event_txn.proofs.reading.changes_of.Given as goal

abbrev pub invariant-loop : goal.invariant-loop
invariant-loop l = record {
  place : l.place < length l.asked.schema.now.tables;
  offset : l.offset + length l.rest ≡ l.begin + length l.bytes;
  read : after l.changes (all_of (l.limit - l.counter) l.asked.schema.now l.asked.position l.asked.at l.place l.offset l.rest)
      ≡ all_of l.limit l.asked.schema.now l.asked.position l.asked.at l.first l.begin l.bytes;
}
