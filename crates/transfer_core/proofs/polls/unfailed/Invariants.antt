-- the members that passed so far
use Rattle.std.proofs.Common.{◌≡◌, not, take, filter, map}
use Rattle.ring_types.specs.declared.members.Member.{Member}
use Rattle.ring_model.specs.Quorums.{is_listed}
use Rattle.transfer_core.proofs.polls.unfailed.Given as goal

abbrev pub invariant-loop-member : goal.invariant-loop-member
invariant-loop-member l = l.ids ≡ map (λ (m : Member). m.id) (filter (λ (m : Member). not (is_listed l.failed m.id)) (take l.member-index l.member-items))
