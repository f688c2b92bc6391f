use Rattle.ground_tests.proofs.views.a_view_reads_the_log_by_position.Goals as goal

pub term_at-requires-clause-stands : goal.term_at-requires-clause-stands
term_at-requires-clause-stands g c = c.new-view.ensures.stands (c.two-log.ensures.entries c.no_tables-schema.result)
