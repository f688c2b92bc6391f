use Rattle.std.proofs.Common.{◌≡◌, ◌∙◌, [], sym, ap, subst}
use Rattle.gtid_set.specs.Canonical.{AreMerged}
use Rattle.gtid_set.specs.Servers.{intervals_of}
use Rattle.gtid_set.proofs.RangeMembers.{held}
use Rattle.gtid_set.proofs.Looking.{intervals_of-merged, intervals_of-has}
use Rattle.gtid_set.proofs.sets.GtidSet.contains.Goals as goal

pub have-requires : goal.have-requires
have-requires c =
    let server = c.args.gtid.server in
    let set = c.self.inside.servers.items in
    let read : intervals_of server set ≡ c.in-Some.set.now.intervals = sym (ap (intervals_of server) c.as_slice.ensures.value) ∙ c.in-Some.ensures in
    subst (AreMerged 0) (read ∙ sym c.ends.ensures) (intervals_of-merged 0 server set c.self.invariant)

pub returns-in-Some : goal.returns-in-Some
returns-in-Some c =
    let server = c.args.gtid.server in
    let set = c.self.inside.servers.items in
    let read : intervals_of server set ≡ c.in-Some.set.now.intervals = sym (ap (intervals_of server) c.as_slice.ensures.value) ∙ c.in-Some.ensures in
    rw (← c.self.view_is) (c.have.ensures ∙ ap (held c.args.gtid.number) (c.ends.ensures ∙ sym read) ∙ intervals_of-has 0 server c.args.gtid.number set c.self.invariant)

pub returns-in-None : goal.returns-in-None
returns-in-None c =
    let server = c.args.gtid.server in
    let set = c.self.inside.servers.items in
    let read : intervals_of server set ≡ [] = sym (ap (intervals_of server) c.as_slice.ensures.value) ∙ c.in-None.ensures in
    rw (← c.self.view_is) (ap (held c.args.gtid.number) (sym read) ∙ intervals_of-has 0 server c.args.gtid.number set c.self.invariant)
