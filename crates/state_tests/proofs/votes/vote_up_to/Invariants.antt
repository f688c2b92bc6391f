-- each vote so far is of a term below the next one
use Rattle.std.proofs.Common.{◌<◌}
use Rattle.std.specs.List.{All}
use Rattle.ring_types.specs.declared.entries.Vote.{Vote}
use Rattle.state_tests.proofs.votes.vote_up_to.Given as goal

abbrev pub invariant-loop-term : goal.invariant-loop-term
invariant-loop-term l = All (λ (v : Vote). v.term < l.term) l.history
