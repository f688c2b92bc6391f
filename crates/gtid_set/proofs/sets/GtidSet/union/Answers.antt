use Rattle.gtid_set.proofs.ServerMembers.{sets_in-canonical, sets_in-has}
use Rattle.gtid_set.proofs.sets.GtidSet.union.Goals as goal

pub invariant_of-self : goal.invariant_of-self
invariant_of-self c =
    rw (c.in_ok-put_sets.ensures, c.in_ok-servers.ensures, c.as_slice.ensures.value, c.as_slice-2.ensures.value)
    (sets_in-canonical 0 c.other.inside.servers.items c.self.inside.servers.items c.self.invariant c.other.invariant)

pub returns-clause-ok : goal.returns-clause-ok
returns-clause-ok c = λ s n.
    rw (c.in_ok-put_sets.ensures, c.in_ok-servers.ensures, c.as_slice.ensures.value, c.as_slice-2.ensures.value, ← c.self.view_is, ← c.other.view_is)
    (sets_in-has 0 s n c.other.inside.servers.items c.self.inside.servers.items c.self.invariant c.other.invariant)

pub returns-clause-canonical : goal.returns-clause-canonical
returns-clause-canonical c =
    rw (c.in_ok-put_sets.ensures, c.in_ok-servers.ensures, c.as_slice.ensures.value, c.as_slice-2.ensures.value)
    (sets_in-canonical 0 c.other.inside.servers.items c.self.inside.servers.items c.self.invariant c.other.invariant)
