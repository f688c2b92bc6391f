use Rattle.ring_model.proofs.Runs.{every_run_covers_leaders}
use Rattle.ring_model.proofs.laws.law_cover.Goals as goal

pub returns : goal.returns
returns c = every_run_covers_leaders
