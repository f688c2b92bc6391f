use Rattle.gtid_set.proofs.ServerMembers.{number_out-canonical, number_out-has}
use Rattle.gtid_set.proofs.sets.GtidSet.remove.Goals as goal

pub invariant_of-self-2 : goal.invariant_of-self-2
invariant_of-self-2 c = rw c.in_ok-take_number.ensures.ok (number_out-canonical 0 c.args.gtid.server c.args.gtid.number c.self.inside.servers.items c.self.invariant)

pub returns-clause-ok : goal.returns-clause-ok
returns-clause-ok c = λ s n.
    rw (c.in_ok-take_number.ensures.ok, ← c.self.view_is) (number_out-has 0 c.args.gtid.server c.args.gtid.number s n c.self.inside.servers.items c.self.invariant)

pub returns-clause-canonical : goal.returns-clause-canonical
returns-clause-canonical c = rw c.in_ok-take_number.ensures.ok (number_out-canonical 0 c.args.gtid.server c.args.gtid.number c.self.inside.servers.items c.self.invariant)
