-- the servers passed all come before this one
use Rattle.std.proofs.Common.{◌≡◌, ◌+◌, drop}
use Rattle.gtid_set.specs.Servers.{servers_below}
use Rattle.gtid_set.proofs.servers.place_of.Given as goal

abbrev pub invariant-loop-at : goal.invariant-loop-at
invariant-loop-at l = l.at + servers_below l.server (drop l.at l.servers) ≡ servers_below l.server l.servers
