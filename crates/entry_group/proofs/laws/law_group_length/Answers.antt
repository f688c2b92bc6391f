use Rattle.entry_group.proofs.GroupLaws.{group_length}
use Rattle.entry_group.proofs.laws.law_group_length.Goals as goal

pub returns : goal.returns
returns c = group_length
