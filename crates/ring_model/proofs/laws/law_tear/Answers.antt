use Rattle.ring_model.proofs.Extremes.{tear_is_first}
use Rattle.ring_model.proofs.laws.law_tear.Goals as goal

pub returns : goal.returns
returns c = tear_is_first
