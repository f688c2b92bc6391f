-- what is written, with what is still to be written, is the whole
use Rattle.std.proofs.Common.{◌≡◌, ◌++◌, ℕ}
use Rattle.std.specs.List.{flat_map}
use Rattle.gtid_set.specs.Bytes.{interval_bytes}
use Rattle.gtid_set.specs.Canonical.{AreMerged}
use Rattle.gtid_set.specs.Ranges.{intervals}
use Rattle.gtid_set.proofs.bytes.put_intervals.Given as goal

abbrev pub invariant-loop-first : goal.invariant-loop-first
invariant-loop-first l = record {
  whole : l.out.items ++ flat_map interval_bytes (intervals l.first-iterator) ≡ l.initial.out.items ++ flat_map interval_bytes (intervals l.ends.entries);
  merged : (low : ℕ) × AreMerged low (intervals l.first-iterator);
}
