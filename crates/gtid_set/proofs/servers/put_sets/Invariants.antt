-- what is still to be put in gives the whole
use Rattle.std.proofs.Common.{◌≡◌, drop}
use Rattle.gtid_set.specs.Canonical.{IsCanonical}
use Rattle.gtid_set.specs.Servers.{sets_in}
use Rattle.gtid_set.proofs.servers.put_sets.Given as goal

abbrev pub invariant-loop-set : goal.invariant-loop-set
invariant-loop-set l = record {
  whole : sets_in (drop l.set-index l.sets) l.servers.items ≡ sets_in l.sets l.initial.servers.items;
  canonical : IsCanonical l.servers.items;
}
