use Rattle.ring_model.proofs.Quorums.{covers_meet}
use Rattle.ring_model.proofs.laws.law_covers_meet.Goals as goal

pub returns : goal.returns
returns c = covers_meet
