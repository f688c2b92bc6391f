-- as many bytes as were looked at are equal
use Rattle.std.proofs.Common.{length, ◌-◌, ◌≡◌, ◌≤◌, ◌+◌}
use Rattle.std.specs.Prelude.{drop}
use Rattle.binlog_store.specs.Damages as damage
use Rattle.binlog_store.proofs.heads.agreeing.Given as goal

abbrev pub invariant-loop-count : goal.invariant-loop-count
invariant-loop-count l = record {
  within : l.count ≤ length l.a;
  short : l.count ≤ length l.b;
  same : damage.agreeing l.a l.b ≡ l.count + damage.agreeing (drop l.count l.a) (drop l.count l.b);
}

abbrev pub decreases-loop-count : goal.decreases-loop-count
decreases-loop-count l = length l.a - l.count
