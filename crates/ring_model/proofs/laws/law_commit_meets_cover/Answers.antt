use Rattle.ring_model.proofs.Quorums.{commit_meets_cover}
use Rattle.ring_model.proofs.laws.law_commit_meets_cover.Goals as goal

pub returns : goal.returns
returns c = commit_meets_cover
