-- the entries that were read have known keys, so the first unknown one is among those left
use Rattle.std.proofs.Common.{◌≡◌}
use Rattle.toml.specs.View.{members_view}
use Rattle.ring_file.specs.Keys.{first_unknown}
use Rattle.ring_file.proofs.keys.first_unknown.Given as goal

abbrev pub invariant-members : goal.invariant-members
invariant-members l =
    (goal.iterator-members).can_next l.key-iterator × (goal.iterator-members).is_finite l.key-iterator
    × (first_unknown l.within (members_view l.key-iterator) ≡ first_unknown l.within (members_view l.table.entries))
