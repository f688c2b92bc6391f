use Rattle.std.proofs.Common.{◌<◌, ◌^◌, Bool, ◌&&◌, ◌||◌, ◌==◌, ◌∙◌, ap, arith, rules}
use Rattle.ring_types.specs.Gtids.{has}
use Rattle.gtid_set.proofs.Looking.{one_number}
use Rattle.gtid_set.proofs.ServerMembers.{range_in-canonical, range_in-has}
use Rattle.gtid_set.proofs.sets.GtidSet.add.Goals as goal

pub invariant_of-self-2 : goal.invariant_of-self-2
invariant_of-self-2 c =
    let fits : c.args.gtid.server < 2 ^ 128 = search rules in
    rw c.in_ok-put_range.ensures.ok
    (range_in-canonical 0 c.args.gtid.server (record { first = c.args.gtid.number; last = c.args.gtid.number }) c.self.inside.servers.items c.self.invariant (omega arith) fits
    (c.requires.from_one, omega arith, c.requires.to_last, tt))

pub returns-clause-ok : goal.returns-clause-ok
returns-clause-ok c = λ s n.
    rw (c.in_ok-put_range.ensures.ok, ← c.self.view_is)
    (range_in-has 0 c.args.gtid.server s n (record { first = c.args.gtid.number; last = c.args.gtid.number }) c.self.inside.servers.items c.self.invariant (omega arith)
    ∙ ap (λ (b : Bool). has c.self.inside.servers.items s n || (s == c.args.gtid.server && b)) (one_number c.args.gtid.number n))

pub returns-clause-canonical : goal.returns-clause-canonical
returns-clause-canonical c =
    let fits : c.args.gtid.server < 2 ^ 128 = search rules in
    rw c.in_ok-put_range.ensures.ok
    (range_in-canonical 0 c.args.gtid.server (record { first = c.args.gtid.number; last = c.args.gtid.number }) c.self.inside.servers.items c.self.invariant (omega arith) fits
    (c.requires.from_one, omega arith, c.requires.to_last, tt))
