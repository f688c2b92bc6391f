use Rattle.std.proofs.Common.{◌≡◌, refl, ◌∙◌}
use Rattle.node_unit.proofs.Standing.{shown_entries}
use Rattle.rules_tests.proofs.views.planned.Goals as goal

pub plan-requires-clause-read : goal.plan-requires-clause-read
plan-requires-clause-read g c = record {
  stand = c.new-view.ensures.stands (rw (c.schema.ensures, c.as_slice.ensures, c.requires.log) (shown_entries c.args.ring.now c.args.unit.now.shown c.requires.fit));
  sight = c.new-view.ensures.sees ∙ rw (c.home.ensures, c.schema.ensures, c.as_slice.ensures, c.requires.log) refl;
}
