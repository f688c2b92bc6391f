-- what is still to be put in gives the whole
use Rattle.std.proofs.Common.{◌≡◌, ℕ}
use Rattle.gtid_set.specs.Canonical.{AreMerged, IsCanonical}
use Rattle.gtid_set.specs.Ranges.{intervals}
use Rattle.gtid_set.specs.Servers.{ranges_in}
use Rattle.gtid_set.proofs.servers.put_set.Given as goal

abbrev pub invariant-loop-first : goal.invariant-loop-first
invariant-loop-first l = record {
  whole : ranges_in l.set.server (intervals l.first-iterator) l.servers.items ≡ ranges_in l.set.server l.set.intervals l.initial.servers.items;
  canonical : IsCanonical l.servers.items;
  merged : (low : ℕ) × AreMerged low (intervals l.first-iterator);
}
