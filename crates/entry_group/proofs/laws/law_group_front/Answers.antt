use Rattle.entry_group.proofs.GroupLaws.{no_group_begins_another}
use Rattle.entry_group.proofs.laws.law_group_front.Goals as goal

pub returns : goal.returns
returns c = no_group_begins_another
