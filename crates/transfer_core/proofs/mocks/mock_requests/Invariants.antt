-- the requests so far stand before those to the members that are left
use Rattle.std.proofs.Common.{◌≡◌, ◌++◌, drop}
use Rattle.ring_model.specs.Transfers as spec
use Rattle.transfer_core.proofs.mocks.mock_requests.Given as goal

abbrev pub invariant-loop-member : goal.invariant-loop-member
invariant-loop-member l =
    l.requests ++ spec.mock_requests l.me l.asked.term l.asked.round l.asked.last (drop l.member-index l.members) ≡ spec.mock_requests l.me l.asked.term l.asked.round l.asked.last l.members
