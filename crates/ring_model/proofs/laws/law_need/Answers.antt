use Rattle.ring_model.proofs.Needs.{need_is_need}
use Rattle.ring_model.proofs.laws.law_need.Goals as goal

pub returns : goal.returns
returns c = need_is_need
