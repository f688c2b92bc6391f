use Rattle.ring_model.proofs.Extremes.{greatest_passes}
use Rattle.ring_model.proofs.laws.law_greatest.Goals as goal

pub returns : goal.returns
returns c = greatest_passes
