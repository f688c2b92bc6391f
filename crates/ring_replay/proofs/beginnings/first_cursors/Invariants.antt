-- one cursor for each member so far
use Rattle.std.proofs.Common.{◌≡◌, map, take}
use Rattle.ring_types.specs.declared.members.Member.{Member}
use Rattle.ring_model.specs.Worlds.{first_world}
use Rattle.ring_replay.proofs.beginnings.first_cursors.Given as goal

abbrev pub invariant-loop : goal.invariant-loop
invariant-loop l = l.cursors ≡ map (λ (m : Member). first_world.cursors m.id) (take l.index l.members)
