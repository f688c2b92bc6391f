use Rattle.ring_model.proofs.Extremes.{batch_is_longest}
use Rattle.ring_model.proofs.laws.law_batch.Goals as goal

pub returns : goal.returns
returns c = batch_is_longest
