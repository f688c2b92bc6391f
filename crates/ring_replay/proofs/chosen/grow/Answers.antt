use Rattle.std.proofs.Common.{◌∙◌, ap, drop, List}
use Rattle.ring_types.specs.declared.entries.Entry.{Entry}
use Rattle.node_unit.specs.Units.{node_of}
use Rattle.ring_replay.proofs.Fronts.{grown_by}
use Rattle.ring_replay.proofs.chosen.grow.Goals as goal

pub returns-in_ok-extend_copies : goal.returns-in_ok-extend_copies
returns-in_ok-extend_copies c =
    grown_by c.args.chosen.now c.extend_copies.new.self c.first_of-more.result.now c.after.result.now (node_of c.args.unit.now.shown)
    c.len-known.result c.reach-reach.result c.requires c.len-known.ensures c.reach-reach.ensures c.if-known-reach.true
    (c.after.ensures ∙ ap (λ (xs : List Entry). drop c.len-known.result xs) c.log.ensures) c.first_of-more.ensures c.in_ok-extend_copies.ensures.ok
