use Rattle.std.proofs.Common.{◌≡◌, ◌++◌, drop}
use Rattle.event_txn.specs.Tables.{types_text}
use Rattle.event_txn.specs.Writing.{Keeps}
use Rattle.event_txn.proofs.putting.put_types.Given as goal

abbrev pub invariant-loop-column : goal.invariant-loop-column
invariant-loop-column l = record {
  text : l.out.items ++ types_text (drop l.column-index l.columns) ≡ l.initial.out.items ++ types_text l.columns;
  kept : Keeps l.initial.out.items l.out.items;
}
