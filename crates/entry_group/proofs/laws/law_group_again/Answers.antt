use Rattle.entry_group.proofs.GroupLaws.{group_is_read}
use Rattle.entry_group.proofs.laws.law_group_again.Goals as goal

pub returns : goal.returns
returns c = group_is_read
