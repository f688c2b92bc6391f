-- the requests so far stand before those to the members that are left
use Rattle.std.proofs.Common.{◌≡◌, ◌++◌, drop}
use Rattle.ring_model.specs.Elections as spec
use Rattle.election_core.proofs.standing.requests.Given as goal

abbrev pub invariant-loop-member : goal.invariant-loop-member
invariant-loop-member l = l.asks ++ spec.requests l.me l.term l.asked (drop l.member-index l.members) ≡ spec.requests l.me l.term l.asked l.members
