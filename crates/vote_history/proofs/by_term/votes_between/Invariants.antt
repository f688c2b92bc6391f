-- the votes that passed so far
use Rattle.std.proofs.Common.{◌≡◌, take}
use Rattle.ring_model.specs.Needs.{votes_between}
use Rattle.vote_history.proofs.by_term.votes_between.Given as goal

abbrev pub invariant-loop-vote : goal.invariant-loop-vote
invariant-loop-vote l = l.between ≡ votes_between l.low l.high (take l.vote-index l.votes)
