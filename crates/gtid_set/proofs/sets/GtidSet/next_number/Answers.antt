use Rattle.std.proofs.Common.{◌∙◌, ap, sym}
use Rattle.gtid_set.specs.Ranges.{end_behind}
use Rattle.gtid_set.specs.Servers.{intervals_of}
use Rattle.gtid_set.proofs.Looking.{greatest_is, next_some, next_none}
use Rattle.gtid_set.proofs.sets.GtidSet.next_number.Goals as goal

pub returns-then-greatest-lt-LAST_GTID-clause-ok : goal.returns-then-greatest-lt-LAST_GTID-clause-ok
returns-then-greatest-lt-LAST_GTID-clause-ok c =
    let read = ap (intervals_of c.args.server) c.as_slice.ensures.value in
    rw (← c.self.view_is)
    (next_some c.args.server c.greatest_of-greatest.result c.self.inside.servers.items
    (c.greatest_of-greatest.ensures ∙ ap (end_behind 0) read ∙ sym (greatest_is 0 c.args.server c.self.inside.servers.items c.self.invariant)) c.if-greatest-lt-LAST_GTID.true)

pub returns-else-greatest-lt-LAST_GTID-clause-err : goal.returns-else-greatest-lt-LAST_GTID-clause-err
returns-else-greatest-lt-LAST_GTID-clause-err c =
    let read = ap (intervals_of c.args.server) c.as_slice.ensures.value in
    rw (← c.self.view_is)
    (next_none c.args.server c.greatest_of-greatest.result c.self.inside.servers.items
    (c.greatest_of-greatest.ensures ∙ ap (end_behind 0) read ∙ sym (greatest_is 0 c.args.server c.self.inside.servers.items c.self.invariant)) c.if-greatest-lt-LAST_GTID.false)
