use Rattle.ground_tests.proofs.views.a_failing_view_fails_at_its_calls.Goals as goal

pub term_before_last-requires : goal.term_before_last-requires
term_before_last-requires g c = c.new-view.ensures.stands (c.two-log.ensures.entries c.no_tables-schema.result)
