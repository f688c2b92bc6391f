use Rattle.ring_file.proofs.Least.{least_is_named}
use Rattle.ring_file.proofs.keys.law_least_unknown.Goals as goal

pub returns : goal.returns
returns c = least_is_named
