use Rattle.entry_group.proofs.GroupTakes.{group_takes}
use Rattle.entry_group.proofs.laws.law_group_takes.Goals as goal

pub returns : goal.returns
returns c = group_takes
